use Rattle.codings.specs.SignWordsLemmas.{product_digits}
use Rattle.codings.proofs.signs.SignsCoding.product.Goals as goal

pub returns-clause-digits : goal.returns-clause-digits
returns-clause-digits c =
    let x = c.args.self in
    let y = c.args.other in
    product_digits 64 x.magnitude x.sign y.magnitude y.sign
