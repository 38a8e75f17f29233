-- The digits so far are equal.
use Rattle.std.proofs.Common.{◌≡◌, ℕ, ◌<◌}
use Rattle.algebra.specs.Field.{value}
use Rattle.basis.proofs.runs.same_digits.Given as goal

abbrev pub invariant-loop-place : goal.invariant-loop-place
invariant-loop-place g l = (k : ℕ) → k < l.place → value (g.C.Coding.meant l.first k) ≡ value (g.D.Coding.meant l.second k)
