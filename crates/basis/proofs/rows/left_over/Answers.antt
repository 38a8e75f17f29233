-- One row more is taken off, and zero added to the vector leaves its digits.
use Rattle.std.proofs.Common.{ap, ◌∙◌, arith, take_all}
use mathlib.Core.Path.{fun_ext}
use Rattle.algebra.specs.NormalForm.{reduced}
use Rattle.basis.specs.Form.{meant_rows}
use Rattle.basis.proofs.Leading.{reduced_more}
use Rattle.basis.proofs.rows.left_over.Goals as goal

pub loop-row-preserved : goal.loop-row-preserved
loop-row-preserved g c = (
  reduced_more g.C.Coding.field g.C.Coding.width g.C.Coding.meant c.args.rows.now c.loop-row.row-index c.lead_place.result (g.C.Coding.meant c.sum-left.result) (g.C.Coding.meant c.loop-row.left) (g.C.Coding.meant c.cleared-left.result)
      c.row-item.result (omega arith) c.row-item.is c.lead_place.ensures c.loop-row.invariant.0 c.cleared-left.ensures.digits,
  c.cleared-left.ensures.stored,
)

pub returns-clause-digits : goal.returns-clause-digits
returns-clause-digits g c =
    c.loop-row.invariant.0
    ∙ ap (λ rows. reduced g.C.Coding.field (meant_rows g.C.Coding rows) (g.C.Coding.meant c.sum-left.result)) (take_all c.loop-row.row-index c.args.rows.now (omega arith))
    ∙ ap (reduced g.C.Coding.field (meant_rows g.C.Coding c.args.rows.now))
    (fun_ext λ k. c.sum-left.ensures.digits k ∙ ap (λ d. g.C.Coding.field.add d (g.C.Coding.meant c.args.vector k)) (c.zero.ensures.digits k) ∙ g.C.Coding.field.nil-add (g.C.Coding.meant c.args.vector k))
