-- The halves of what each word operation gives, from the halves of its operands.
use Rattle.std.proofs.Common.{◌≡◌, ℕ, ◌*◌, ◌/◌, ◌%◌, ◌^◌, ◌<◌, refl, ◌∙◌, ap₂, arith}
use lib.Bits.{bit_and, bit_or, bit_xor, and_shr, or_shr, xor_shr, and_mod, or_mod, xor_mod, or_zero_r, xor_comm}
use Rattle.codings.specs.Halves.{upper, lower, Halves}

pub whole : (n : ℕ) → Halves n (upper n) (lower n)
whole n = record { upper_is = refl; lower_is = refl }

-- a number that fits into the lower half
low : (n : ℕ) → n < 2 ^ 32 → Halves n 0 n
low n h = record { upper_is = omega arith; lower_is = omega arith }

-- `n << 32`
pub shifted : (n : ℕ) → Halves ((n * 2 ^ 32) % 2 ^ 64) (lower n) 0
shifted n = record { upper_is = omega arith; lower_is = omega arith }

-- an operation that commutes with the shift and with the mask works on each half by itself
module _ (o : ℕ → ℕ → ℕ)
    (shr : (a b k : ℕ) → o a b / 2 ^ k ≡ o (a / 2 ^ k) (b / 2 ^ k))
    (rem : (a b k : ℕ) → o a b % 2 ^ k ≡ o (a % 2 ^ k) (b % 2 ^ k)) where
  half_by_half : {n m a b c d : ℕ} → Halves n a b → Halves m c d → Halves (o n m) (o a c) (o b d)
  half_by_half {n} {m} x y = record {
    upper_is = shr n m 32 ∙ ap₂ o x.upper_is y.upper_is;
    lower_is = rem n m 32 ∙ ap₂ o x.lower_is y.lower_is;
  }

pub halves_and : {n m a b c d : ℕ} → Halves n a b → Halves m c d → Halves (bit_and n m) (bit_and a c) (bit_and b d)
halves_and = half_by_half bit_and and_shr and_mod

pub halves_or : {n m a b c d : ℕ} → Halves n a b → Halves m c d → Halves (bit_or n m) (bit_or a c) (bit_or b d)
halves_or = half_by_half bit_or or_shr or_mod

pub halves_xor : {n m a b c d : ℕ} → Halves n a b → Halves m c d → Halves (bit_xor n m) (bit_xor a c) (bit_xor b d)
halves_xor = half_by_half bit_xor xor_shr xor_mod

-- `(n << 32) | m`, where m fits into the lower half
pub beside : (n m : ℕ) → m < 2 ^ 32 → Halves (bit_or ((n * 2 ^ 32) % 2 ^ 64) m) (lower n) m
beside n m h = let x = halves_or (shifted n) (low m h) in record { upper_is = x.upper_is ∙ or_zero_r (lower n); lower_is = x.lower_is }

-- the halves of a word with swapped halves, of one put together from two, and of a word against itself swapped
pub turned : {n r a b : ℕ} → Halves r (lower n) (upper n) → Halves n a b → Halves r b a
turned x n = record { upper_is = x.upper_is ∙ n.lower_is; lower_is = x.lower_is ∙ n.upper_is }

pub put_together : {n m r a b c d : ℕ} → Halves r (lower n) (lower m) → Halves n a b → Halves m c d → Halves r b d
put_together x n m = record { upper_is = x.upper_is ∙ n.lower_is; lower_is = x.lower_is ∙ m.lower_is }

pub against : {n r a b : ℕ} → Halves r (lower n) (upper n) → Halves n a b → Halves (bit_xor n r) (bit_xor a b) (bit_xor a b)
against {a = a} {b} x n =
    let y = halves_xor n (turned x n) in
    record { upper_is = y.upper_is; lower_is = y.lower_is ∙ xor_comm b a }
