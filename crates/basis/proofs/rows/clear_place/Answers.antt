-- One row more is cleared.
use mathlib.Core.Path.{fun_ext}
use Rattle.std.proofs.Common.{arith}
use Rattle.std.proofs.lemmas.List.Elements.{AllWithin-more_set}
use Rattle.algebra.specs.Space.{less, times}
use Rattle.basis.proofs.Placing.{changed_more}
use Rattle.basis.proofs.rows.clear_place.Goals as goal

pub loop-row-preserved : goal.loop-row-preserved
loop-row-preserved g c =
    let t = changed_more g.C.Coding.meant (λ x. less g.C.Coding.field (g.C.Coding.meant x) (times g.C.Coding.field (g.C.Coding.meant x c.args.place) (g.C.Coding.meant c.args.by)))
    c.args.rows.now c.loop-row.rows c.loop-row.row-index c.row-item.result c.cleared.result (omega arith) c.loop-row.auto.rows c.loop-row.invariant.0 c.loop-row.invariant.1 (fun_ext c.cleared.ensures.digits) in
    (t.0, t.1, AllWithin-more_set c.loop-row.rows c.loop-row.row-index c.cleared.result (omega arith) g.C.Coding.canonical c.loop-row.invariant.2 c.cleared.ensures.stored)
