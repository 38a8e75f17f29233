-- Digits modulo 3 as a magnitude and a sign of w places: what a pair of words means, and which words its digits pin.
use Rattle.std.specs.Prelude.{ℕ, Bool, true, false, cond, not, ◌==◌, nat_eq, nat_lt}
use Rattle.words.specs.Bit.{bit, word}
use Rattle.algebra.specs.Field.{Digit, value, of}
use Rattle.algebra.specs.Modulo.{f3}
use Rattle.algebra.specs.Vector.{Vector}

-- the bits (magnitude, sign) at a place; where the magnitude has none, the sign says nothing
abbrev pub sign_value : Bool → Bool → ℕ
sign_value true false = 1
sign_value true true = 2
sign_value false true = 0
sign_value false false = 0

-- the digits that a magnitude and a sign mean
abbrev pub digits : (w magnitude sign : ℕ) → ℕ → Digit 3
digits w magnitude sign k = of f3 (cond (nat_lt k w) (sign_value (bit k magnitude) (bit k sign)) 0)

-- the magnitude is set wherever the digit is not 0
abbrev pub magnitude_of : ℕ → Vector f3 → ℕ
magnitude_of w v = word w (λ k. not (value (v k) == 0))

-- the sign, cleared at every 0, is set wherever the digit is 2
abbrev pub sign_of : ℕ → Vector f3 → ℕ
sign_of w v = word w (λ k. nat_eq (value (v k)) 2)
