use Rattle.std.proofs.Common.{cond, eqb, ap, ◌∙◌}
use Rattle.algebra.specs.Field.{of}
use Rattle.algebra.specs.Modulo.{f3}
use Rattle.codings.specs.TwoPlanesLemmas.{change_digits, change_full}
use Rattle.codings.proofs.planes.PlanesCoding.change.Goals as goal

pub invariant_of-changed : goal.invariant_of-changed
invariant_of-changed c =
    let v = c.full-v.result in record {
      full = change_full 64 v.v1 v.v2 c.put.result c.put-2.result c.args.place c.args.digit c.in_ok-check_digit.ensures c.put.ensures c.put-2.ensures v.full;
    }

pub returns : goal.returns
returns c =
    let v = c.full-v.result in
    let place = c.args.place in
    let d = c.args.digit in
    let inside = c.in_ok-check_place.ensures in
    let small = c.in_ok-check_digit.ensures in (
      inside,
      small,
      λ k.
          c.stored.ensures.digits k
          ∙ change_digits 64 v.v1 v.v2 c.put.result c.put-2.result place d small c.put.ensures c.put-2.ensures inside k
          ∙ ap (λ x. cond (eqb k place) (of f3 d) x) (c.full-v.ensures k),
      c.stored.ensures.stored,
    )
