-- The numbers count the rows so far; the numbers beyond the greatest weight are as they were.
use Rattle.std.proofs.Common.{◌≡◌, ℕ, suc, ◌≤◌, eqb, get_or, take, drop, count_by}
use Rattle.algebra.specs.Vector.{weight}
use Rattle.coding.proofs.weights.count_weights.Given as goal

abbrev pub invariant-loop-row : goal.invariant-loop-row
invariant-loop-row g l =
    ((j : ℕ) → j ≤ g.C.Coding.width
    → get_or l.counts j 0 ≡ count_by (λ x. eqb (weight g.C.Coding.field g.C.Coding.width (g.C.Coding.meant x)) j) (take l.row-index l.rows))
    × (drop (suc g.C.Coding.width) l.counts ≡ drop (suc g.C.Coding.width) l.fn.counts)
