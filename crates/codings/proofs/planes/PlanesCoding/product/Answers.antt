use Rattle.std.proofs.Common.{◌∙◌, ap₂}
use Rattle.algebra.specs.Modulo.{f3}
use Rattle.codings.proofs.planes.PlanesCoding.product.Goals as goal

pub returns-clause-digits : goal.returns-clause-digits
returns-clause-digits c = λ k. c.stored.ensures.digits k ∙ c.product.ensures k ∙ ap₂ f3.mul (c.full.ensures k) (c.full-2.ensures k)
