-- The rows so far have their leads elsewhere.
use Rattle.std.proofs.Common.{take}
use Rattle.algebra.specs.Dual.{Free}
use Rattle.basis.specs.Form.{meant_rows}
use Rattle.basis.proofs.duals.is_free.Given as goal

abbrev pub invariant-loop-row : goal.invariant-loop-row
invariant-loop-row g l = Free g.C.Coding.field (meant_rows g.C.Coding (take l.row-index l.rows)) l.place
