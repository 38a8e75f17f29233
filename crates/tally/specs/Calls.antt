-- Which shares a list of calls has booked, from the calls alone.
use Rattle.std.specs.Prelude.{ℕ, Bool, false, List, fold}
use Rattle.tally.specs.declared.calls.Call.{Call}
use Rattle.tally.specs.declared.calls.Call.TheVariants.{Work, Strike, Result}
use Rattle.tally.specs.Booking.{booked, struck}

-- work books a share below 2 ^ s, strike ends that; every other call, and every refused one, changes nothing
abbrev pub after_call : (s : ℕ) → (ℕ → Bool) → Call → ℕ → Bool
after_call s b (Work k) = booked s b k
after_call s b (Strike k) = struck b k
after_call s b Result = b

abbrev pub booked_by : (s : ℕ) → List Call → ℕ → Bool
booked_by s calls = fold (after_call s) (λ _. false) calls
