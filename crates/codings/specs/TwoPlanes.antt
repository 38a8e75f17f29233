-- Digits modulo 3 in two bit planes of w places: what a pair of words means, and which words a vector is spelled by.
use Rattle.std.specs.Prelude.{◌≡◌, ℕ, ◌<◌, Bool, true, false, cond, not, ◌||◌, ◌==◌, nat_lt}
use Rattle.words.specs.Bit.{bit, word}
use Rattle.algebra.specs.Field.{Digit, value, of}
use Rattle.algebra.specs.Modulo.{f3}
use Rattle.algebra.specs.Vector.{Vector}

-- the bits (V1, V2) at a place; where V2 has none, V1 is read as set
abbrev pub plane_value : Bool → Bool → ℕ
plane_value true true = 0
plane_value false true = 1
plane_value true false = 2
plane_value false false = 2

-- the digits that the words v1 and v2 mean
abbrev pub digits : (w v1 v2 : ℕ) → ℕ → Digit 3
digits w v1 v2 k = of f3 (cond (nat_lt k w) (plane_value (bit k v1) (bit k v2)) 0)

-- at every place a bit is set in one plane or in both
abbrev pub Full : (w v1 v2 : ℕ) → Type 0
Full w v1 v2 = (k : ℕ) → k < w → (bit k v1 || bit k v2) ≡ true

-- V1 is set wherever the digit is not 1, and V2 wherever it is not 2
abbrev pub spelled1 : ℕ → Vector f3 → ℕ
spelled1 w v = word w (λ k. not (value (v k) == 1))

abbrev pub spelled2 : ℕ → Vector f3 → ℕ
spelled2 w v = word w (λ k. not (value (v k) == 2))
