use Rattle.codings.specs.SignWordsLemmas.{sum_digits, difference_digits}
use Rattle.codings.proofs.signs.SignsCoding.sum_and_difference.Goals as goal

pub returns-clause-sums : goal.returns-clause-sums
returns-clause-sums c =
    let x = c.args.self in
    let y = c.args.other in
    sum_digits 64 x.magnitude x.sign y.magnitude y.sign

pub returns-clause-differences : goal.returns-clause-differences
returns-clause-differences c =
    let x = c.args.self in
    let y = c.args.other in
    difference_digits 64 x.magnitude x.sign y.magnitude y.sign
