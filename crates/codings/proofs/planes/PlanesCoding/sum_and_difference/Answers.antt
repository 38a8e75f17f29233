use Rattle.std.proofs.Common.{◌∙◌, ap₂}
use Rattle.algebra.specs.Field.{minus}
use Rattle.algebra.specs.Modulo.{f3}
use Rattle.codings.proofs.planes.PlanesCoding.sum_and_difference.Goals as goal

pub returns-clause-sums : goal.returns-clause-sums
returns-clause-sums c = λ k.
    c.stored.ensures.digits k ∙ c.sum_and_difference.ensures.sums k ∙ ap₂ f3.add (c.full.ensures k) (c.full-2.ensures k)

pub returns-clause-differences : goal.returns-clause-differences
returns-clause-differences c = λ k.
    c.stored-2.ensures.digits k ∙ c.sum_and_difference.ensures.differences k ∙ ap₂ (minus f3) (c.full.ensures k) (c.full-2.ensures k)
