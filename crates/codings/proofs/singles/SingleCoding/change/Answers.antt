use Rattle.std.proofs.Common.{cond, eqb, ap, ◌∙◌, arith}
use Rattle.std.proofs.lemmas.Bool.{ne_eqb, cond-false}
use Rattle.algebra.specs.Field.{of}
use Rattle.algebra.specs.Modulo.{f3}
use Rattle.algebra.specs.Vector.{Long}
use Rattle.codings.specs.Plane.{meant_by as meant_by_planes}
use Rattle.codings.specs.TwoPlanesLemmas.{digits_out}
use Rattle.codings.proofs.singles.SingleCoding.change.Goals as goal

pub returns : goal.returns
returns c =
    let changed = c.in_ok-change.ensures in
    let fits : Long f3 32 (meant_by_planes c.in_ok-change.field-0) = λ k h.
    changed.2 k
    ∙ cond-false _ _ _ (ne_eqb k c.args.place (λ e. omega (arith, c.in_ok-check_place.ensures)))
    ∙ c.from.ensures k
    ∙ digits_out 32 _ _ k h in (
      c.in_ok-check_place.ensures,
      changed.1,
      λ k.
          c.narrow.ensures.digits fits k
          ∙ changed.2 k
          ∙ ap (λ x. cond (eqb k c.args.place) (of f3 c.args.digit) x) (c.from.ensures k),
      c.narrow.ensures.stored,
    )
