-- The binary digit of a number at a place, and the number with given binary digits.
use Rattle.std.specs.Prelude.{ℕ, zero, suc, ◌+◌, ◌*◌, ◌/◌, ◌%◌, Bool, true, false, not, ◌==◌}

unfoldable pub bit : ℕ → ℕ → Bool
bit zero n = n % 2 == 1
bit (suc k) n = bit k (n / 2)

abbrev pub one : Bool → ℕ
one true = 1
one false = 0

-- exclusive or
abbrev pub differs : Bool → Bool → Bool
differs true b = not b
differs false b = b

-- the number below 2 ^ w whose bit at each place k below w is p k
unfoldable pub word : ℕ → (ℕ → Bool) → ℕ
word zero p = 0
word (suc w) p = one (p 0) + 2 * word w (λ k. p (suc k))
