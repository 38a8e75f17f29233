-- The digits so far are those of the row, and the others are nil.
use Rattle.std.proofs.Common.{◌≡◌, ℕ, ◌<◌, ◌≤◌, [], get_or}
use Rattle.algebra.specs.Field.{of}
use Rattle.sheet.specs.Opened.{rows_of}
use Rattle.sheet.proofs.opened.Opened.vector.Given as goal

abbrev pub invariant-loop-place : goal.invariant-loop-place
invariant-loop-place g l =
    ((k : ℕ) → k < l.place → g.C.Coding.meant l.vector k ≡ of g.C.Coding.field (get_or (get_or (rows_of l.self) l.number []) k 0))
    × ((k : ℕ) → l.place ≤ k → g.C.Coding.meant l.vector k ≡ g.C.Coding.field.nil)
    × g.C.Coding.canonical l.vector
