-- So far the rows before have been taken off at their leads.
use Rattle.std.proofs.Common.{◌≡◌, ◌<◌, take}
use Rattle.algebra.specs.Space.{Each}
use Rattle.algebra.specs.Dual.{dual_at}
use Rattle.basis.specs.Form.{meant_rows}
use Rattle.basis.proofs.duals.dual_vector.Given as goal

abbrev pub invariant-loop-row : goal.invariant-loop-row
invariant-loop-row g l =
    (l.place < g.C.Coding.width → Each (λ s. s.lead < g.C.Coding.width) (meant_rows g.C.Coding l.rows)
    → g.C.Coding.meant l.vector ≡ dual_at g.C.Coding.field (meant_rows g.C.Coding (take l.row-index l.rows)) l.place)
    × g.C.Coding.canonical l.vector
