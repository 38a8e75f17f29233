-- The Gray code, the rows that a code chooses, the terms of Ryser's formula at the positions of the code, and the positions in shares.
use Rattle.std.specs.Prelude.{◌≡◌, ℕ, ◌+◌, ◌-◌, ◌*◌, ◌/◌, ◌%◌, ◌^◌, ◌≢◌, List, bit_xor}
use Rattle.std.specs.List.{range_with_len}
use Rattle.algebra.specs.Permanent.{sum_over, product_over}

-- the code of the position i
abbrev pub gray_code : ℕ → ℕ
gray_code i = bit_xor i (i / 2)

-- the code g chooses the row j where this is 1
abbrev pub bit : ℕ → ℕ → ℕ
bit j g = g / 2 ^ j % 2

-- the sum at column c of those of the n rows that g chooses
abbrev pub chosen : (ℕ → ℕ → ℕ) → ℕ → ℕ → ℕ → ℕ
chosen A n g c = sum_over (λ j. bit j g * A j c) (range_with_len 0 n)

-- 1 at an even number, and 2, which is -1 modulo 3, at an odd one
abbrev pub sign : ℕ → ℕ
sign k = 1 + k % 2

-- the term of the position i: the product over the columns of the sums of the chosen rows, with its sign
abbrev pub term : (ℕ → ℕ → ℕ) → ℕ → ℕ → ℕ
term A n i = sign (n + i) * product_over (chosen A n (gray_code i)) (range_with_len 0 n)

-- the 2 ^ n positions in 2 ^ s shares of equal size, one after another: the positions of share k
abbrev pub share : ℕ → ℕ → ℕ → List ℕ
share n s k = range_with_len (k * 2 ^ (n - s)) (2 ^ (n - s))

-- of the rows that g and h choose, only row t differs: it enters or it leaves
pub record Toggles (t g h : ℕ) : Type 0 where
  pub others : (j : ℕ) → j ≢ t → bit j h ≡ bit j g
  pub flips : bit t g + bit t h ≡ 1
