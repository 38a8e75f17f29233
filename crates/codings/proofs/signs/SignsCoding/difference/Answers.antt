use Rattle.codings.specs.SignWordsLemmas.{difference_digits}
use Rattle.codings.proofs.signs.SignsCoding.difference.Goals as goal

pub returns-clause-digits : goal.returns-clause-digits
returns-clause-digits c =
    let x = c.args.self in
    let y = c.args.other in
    difference_digits 64 x.magnitude x.sign y.magnitude y.sign
