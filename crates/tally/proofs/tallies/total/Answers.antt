-- One digit more is added.
use Rattle.std.proofs.Common.{◌≡◌, ◌+◌, Option, Some, None, Ok, true, get_or, ap, ◌∙◌, zero-add, arith, below_more}
use Rattle.std.specs.Option.{ok_or}
use Rattle.tally.specs.Booking.{is_booked, digit_of}
use Rattle.tally.proofs.RowSums.{sum_more}
use Rattle.tally.proofs.tallies.total.Goals as goal

given : {A E : Type 0} (o : Option A) (e : E) (a : A) → Ok a ≡ ok_or o e → o ≡ Some a
given None e a h = cc
given (Some x) e a h = cc

pub loop-entry-preserved : goal.loop-entry-preserved
loop-entry-preserved c =
    let entries = c.args.entries.now in
    let i = c.loop-entry.entry-index in
    let here = given (get_or entries i None) _ c.in_ok-digit.digit c.in_ok-digit.ensures.value in
    let z : digit_of (get_or entries (0 + i) None) ≡ c.in_ok-digit.digit = ap (λ k. digit_of (get_or entries k None)) (zero-add i) ∙ ap digit_of here in
    record {
      booked = below_more (λ k. is_booked (get_or entries k None) ≡ true) i c.loop-entry.invariant.booked (ap is_booked here);
      added = omega (arith, c.loop-entry.invariant.added, sum_more (λ k. digit_of (get_or entries k None)) 0 i, z);
    }
