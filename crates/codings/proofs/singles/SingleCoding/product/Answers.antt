use Rattle.std.proofs.Common.{◌∙◌, ap₂}
use Rattle.algebra.specs.Modulo.{f3}
use Rattle.codings.proofs.OneWord.{product_word}
use Rattle.codings.proofs.singles.SingleCoding.product.Goals as goal

pub invariant_of-product : goal.invariant_of-product
invariant_of-product c =
    let product = product_word _ _ c.full-v.result.full c.full-w.result.full _ _ c.swapped-v1.ensures c.swapped.ensures
    _ _ c.paired.ensures c.paired-2.ensures in
    record { full = product.full }

pub returns-clause-digits : goal.returns-clause-digits
returns-clause-digits c =
    let product = product_word _ _ c.full-v.result.full c.full-w.result.full _ _ c.swapped-v1.ensures c.swapped.ensures
    _ _ c.paired.ensures c.paired-2.ensures in
    λ k. c.stored.ensures.digits k ∙ product.meaning k ∙ ap₂ f3.mul (c.full-v.ensures k) (c.full-w.ensures k)
