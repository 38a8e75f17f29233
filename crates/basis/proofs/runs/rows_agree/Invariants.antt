-- The rows so far agree.
use Rattle.std.proofs.Common.{◌≡◌, ℕ, ◌<◌, length, get_or}
use Rattle.algebra.specs.Field.{value}
use Rattle.basis.proofs.runs.rows_agree.Given as goal

abbrev pub invariant-loop-row : goal.invariant-loop-row
invariant-loop-row g l = (i k : ℕ) (d : g.row.C.Denot) (e : g.row.D.Denot) → i < length l.yielded → k < l.n → value (g.C.Coding.meant (get_or l.first i d) k) ≡ value (g.D.Coding.meant (get_or l.second i e) k)
