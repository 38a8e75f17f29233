use Rattle.std.proofs.Common.{ap, ◌∙◌}
use Rattle.algebra.specs.Field.{Digit, of}
use Rattle.algebra.specs.Modulo.{f3}
use Rattle.algebra.specs.Vector.{Long}
use Rattle.algebra.proofs.Digits.{mul_nil}
use Rattle.codings.specs.Plane.{meant_by as meant_by_planes}
use Rattle.codings.specs.TwoPlanesLemmas.{digits_out}
use Rattle.codings.proofs.singles.SingleCoding.scaled.Goals as goal

pub returns : goal.returns
returns c =
    let scaled = c.in_ok-scaled.ensures in
    let d : Digit 3 = of f3 c.args.digit in
    let fits : Long f3 32 (meant_by_planes c.in_ok-scaled.field-0) = λ k h.
    scaled.1 k ∙ ap (f3.mul d) (c.from.ensures k ∙ digits_out 32 _ _ k h) ∙ mul_nil f3 d in (
      scaled.0,
      λ k. c.narrow.ensures.digits fits k ∙ scaled.1 k ∙ ap (f3.mul d) (c.from.ensures k),
      c.narrow.ensures.stored,
    )
