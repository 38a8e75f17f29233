-- The rows so far are zero.
use Rattle.std.proofs.Common.{◌≡◌}
use Rattle.std.specs.List.{AllWithin}
use Rattle.algebra.specs.Vector.{zeros}
use Rattle.basis.proofs.bases.set_to_zero.Given as goal

abbrev pub invariant-loop-row : goal.invariant-loop-row
invariant-loop-row g l = AllWithin (λ x. (g.C.Coding.meant x ≡ zeros g.C.Coding.field) × g.C.Coding.canonical x) l.rows 0 l.row-index
