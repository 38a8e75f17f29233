-- Which shares are booked, from the calls alone, and what a table holds of them.
use Rattle.std.specs.Prelude.{◌≡◌, ℕ, ◌%◌, ◌^◌, ◌<◌, Bool, true, false, cond, List, ◌==◌, nat_lt, slice_index_or, Option, Some, None}
use Rattle.std.specs.List.{range_with_len}
use Rattle.std.specs.Option.{is_some}
use Rattle.algebra.specs.Permanent.{sum_over}

-- the digit of an entry, and 0 of none
abbrev pub digit_of : Option ℕ → ℕ
digit_of None = 0
digit_of (Some digit) = digit

abbrev pub is_booked : Option ℕ → Bool
is_booked entry = is_some entry

-- share k is booked by work if it is one of 2 ^ s shares, and no longer after a strike
abbrev pub booked : (s : ℕ) → (ℕ → Bool) → ℕ → ℕ → Bool
booked s b k j = cond (j == k) (cond (nat_lt k (2 ^ s)) true (b j)) (b j)

abbrev pub struck : (ℕ → Bool) → ℕ → ℕ → Bool
struck b k j = cond (j == k) false (b j)

-- the digits in the table of the first 2 ^ s shares, added up modulo 3
abbrev pub total_of : (s : ℕ) → List (Option ℕ) → ℕ
total_of s entries = sum_over (λ k. digit_of (slice_index_or entries k None)) (range_with_len 0 (2 ^ s)) % 3

-- every one of 2 ^ s shares is booked
abbrev pub AllBooked : (s : ℕ) → (ℕ → Bool) → Type 0
AllBooked s b = (k : ℕ) → k < 2 ^ s → b k ≡ true

-- some share is missing
abbrev pub Missing : (s : ℕ) → (ℕ → Bool) → Type 0
Missing s b = (k : ℕ) × (k < 2 ^ s) × (b k ≡ false)
