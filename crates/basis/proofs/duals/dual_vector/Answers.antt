-- One row more is taken off at its lead.
use Rattle.std.proofs.Common.{◌<◌, sym, ap, ◌∙◌, subst, arith}
use Rattle.algebra.specs.Field.{value}
use Rattle.algebra.specs.NormalForm.{lead_in}
use Rattle.algebra.specs.Dual.{unit}
use Rattle.algebra.proofs.Steps.{each_at}
use Rattle.basis.specs.Form.{lead_of}
use Rattle.basis.proofs.Freely.{dual_more}
use Rattle.basis.proofs.duals.dual_vector.Goals as goal

pub loop-row-preserved : goal.loop-row-preserved
loop-row-preserved g c = (
  (λ h leads.
      let lead : lead_in g.C.Coding.field g.C.Coding.width (g.C.Coding.meant c.row-item.result) < g.C.Coding.width =
      subst (λ x. lead_of g.C.Coding x < g.C.Coding.width) (sym c.row-item.is)
      (each_at g.C.Coding.field g.C.Coding.width g.C.Coding.meant (λ r. r.lead < g.C.Coding.width) c.args.rows.now leads c.loop-row.row-index c.row-item.result c.loop-row-test.true) in
      let digit : value (g.C.Coding.meant c.row-item.result c.args.place) < g.C.Coding.field.size = (g.C.Coding.meant c.row-item.result c.args.place).1 in
      dual_more g.C.Coding c.args.rows.now c.loop-row.row-index c.args.place c.digit_at.result c.row-item.result
      (g.C.Coding.meant c.loop-row.vector) (g.C.Coding.meant c.unit-at_lead.result) (g.C.Coding.meant c.multiple.result) (g.C.Coding.meant c.difference-vector.result)
      c.loop-row-test.true c.row-item.is (c.loop-row.invariant.0 h leads) c.digit_at.ensures
      (λ k. c.unit-at_lead.ensures.digits (omega (arith, lead, c.lead_place.ensures)) k ∙ ap (λ p. unit g.C.Coding.field p k) c.lead_place.ensures)
      (c.multiple.ensures.digits (omega (arith, digit, c.digit_at.ensures))) c.difference-vector.ensures.digits),
  c.difference-vector.ensures.stored,
)
