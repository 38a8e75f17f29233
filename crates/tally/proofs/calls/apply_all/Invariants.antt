-- The calls so far are run.
use Rattle.std.proofs.Common.{ℕ, Bool, take, fold}
use Rattle.tally.specs.Calls.{after_call}
use Rattle.tally.specs.Stands.{Stands, Kept}
use Rattle.tally.proofs.calls.apply_all.Given as goal

abbrev pub invariant-loop-i : goal.invariant-loop-i
invariant-loop-i g l = record {
  kept : Kept l.initial.tally l.tally;
  stands : (b : ℕ → Bool) → Stands l.initial.tally b
      → Stands l.tally (fold (after_call l.initial.tally.sizes.splits) b (take l.i l.calls));
}
