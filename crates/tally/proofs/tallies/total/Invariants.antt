-- The entries so far are booked, and their digits added up.
use Rattle.std.proofs.Common.{◌≡◌, ℕ, ◌%◌, ◌<◌, None, true, get_or}
use Rattle.std.specs.List.{range_with_len}
use Rattle.algebra.specs.Permanent.{sum_over}
use Rattle.tally.specs.Booking.{is_booked, digit_of}
use Rattle.tally.proofs.tallies.total.Given as goal

abbrev pub invariant-loop-entry : goal.invariant-loop-entry
invariant-loop-entry l = record {
  booked : (k : ℕ) → k < l.entry-index → is_booked (get_or l.entries k None) ≡ true;
  added : l.sum ≡ sum_over (λ k. digit_of (get_or l.entries k None)) (range_with_len 0 l.entry-index) % 3;
}
