-- The word operations on a magnitude and a sign, over plain numbers: what each answer means, whatever the sign at a 0.
use Rattle.std.specs.Prelude.{◌≡◌, ℕ, ◌+◌, ◌*◌, ◌^◌, ◌<◌, ◌≤◌, Bool, true, count_ones, refl}
use Rattle.std.proofs.Common.{ap₂, ◌∙◌, arith}
use Rattle.std.specs.Int.Bits.{bit_and, bit_or, bit_xor, and_lt}
use Rattle.std.proofs.lemmas.Nat.{or_lt, xor_lt}
use Rattle.words.specs.Bit.{bit}
use Rattle.words.proofs.Operations.{bit_and_lem, bit_or_lem, bit_xor_lem}
use Rattle.words.proofs.Masks.{bit_zero}
use Rattle.words.proofs.Spelled.{word_same, word_bits}
use Rattle.algebra.specs.Field.{value, minus}
use Rattle.algebra.specs.Modulo.{f3}
use Rattle.algebra.specs.Vector.{distance}
use Rattle.algebra.proofs.Joined.{joined_same}
use Rattle.algebra.proofs.Ternary.{of_add, of_neg, of_minus, of_mul}
use Rattle.codings.specs.SignWords.{sign_value, digits, magnitude_of, sign_of}
use Rattle.codings.specs.Places.{laid_out, laid_value, laid_nil, laid_same, laid_by}
use Rattle.codings.specs.Counts.{ones_bits}

pub zero_digits : (w k : ℕ) → digits w 0 0 k ≡ f3.nil
zero_digits w = laid_nil w _ (λ k h. ap₂ sign_value (bit_zero k) (bit_zero k))

module _ (w m s : ℕ) where
  pub digits_out : (k : ℕ) → w ≤ k → digits w m s k ≡ f3.nil
  digits_out = laid_out w (λ k. sign_value (bit k m) (bit k s))

  value_in : (k : ℕ) → k < w → value (digits w m s k) ≡ sign_value (bit k m) (bit k s)
  value_in = laid_value w (λ k. sign_value (bit k m) (bit k s)) (λ k. grind arith)

  -- the sign counts only where the magnitude is set
  pub loose_digits : (t : ℕ) → ((k : ℕ) → k < w → bit k m ≡ true → bit k t ≡ bit k s)
      → (k : ℕ) → digits w m t k ≡ digits w m s k
  loose_digits t same = laid_same w _ _ (λ k h. by_magnitude (bit k m) (same k h))
    where
      by_magnitude : {a b : Bool} (set : Bool) → (set ≡ true → a ≡ b) → sign_value set a ≡ sign_value set b
      by_magnitude set e = grind arith

  pub magnitude_pinned : m < 2 ^ w → m ≡ magnitude_of w (digits w m s)
  magnitude_pinned fits = word_bits w m fits ∙ word_same w _ _ (λ k h. let x = value_in k h in grind arith)

  pub sign_pinned : m < 2 ^ w → s < 2 ^ w → bit_and m s ≡ sign_of w (digits w m s)
  sign_pinned fits_m fits_s =
      word_bits w (bit_and m s) (and_lt w m s fits_m fits_s)
      ∙ word_same w _ _ (λ k h. let x = value_in k h in let b = bit_and_lem k m s in grind arith)

  pub negation_digits : (k : ℕ) → digits w m (bit_xor m s) k ≡ f3.neg (digits w m s k)
  negation_digits = laid_by w (λ a b. f3.neg a) (λ a b. 2 * a) (λ a b. of_neg a) refl _ (λ k. 0) _
      (λ k h. simp bit_xor_lem (grind arith))

module _ (w m s n t : ℕ) where
  -- where the sum has not the first sign
  abbrev turned : ℕ
  turned = bit_and n (bit_xor m (bit_xor s t))

  pub sum_digits : (k : ℕ) → digits w (bit_or turned (bit_xor m n)) (bit_xor turned s) k
      ≡ f3.add (digits w m s k) (digits w n t k)
  sum_digits = laid_by w f3.add ◌+◌ of_add refl _ _ _ (λ k h. simp (bit_and_lem, bit_or_lem, bit_xor_lem) (grind arith))

  -- where the difference has not the negated second sign
  abbrev unlike : ℕ
  unlike = bit_and m (bit_xor s t)

  pub difference_digits : (k : ℕ) → digits w (bit_or unlike (bit_xor m n)) (bit_xor unlike (bit_xor n t)) k
      ≡ minus f3 (digits w m s k) (digits w n t k)
  difference_digits = laid_by w (minus f3) (λ a b. a + 2 * b) of_minus refl _ _ _
      (λ k h. simp (bit_and_lem, bit_or_lem, bit_xor_lem) (grind arith))

  pub product_digits : (k : ℕ) → digits w (bit_and m n) (bit_xor s t) k ≡ f3.mul (digits w m s k) (digits w n t k)
  product_digits = laid_by w f3.mul ◌*◌ of_mul refl _ _ _ (λ k h. simp (bit_and_lem, bit_xor_lem) (grind arith))

  module _ (fits_m : m < 2 ^ w) (fits_s : s < 2 ^ w) (fits_n : n < 2 ^ w) (fits_t : t < 2 ^ w) where
    apart_fits : bit_or unlike (bit_xor m n) < 2 ^ w
    apart_fits = or_lt w unlike _ (and_lt w m _ fits_m (xor_lt w s t fits_s fits_t)) (xor_lt w m n fits_m fits_n)

    pub distance_ones : count_ones (bit_or unlike (bit_xor m n)) ≡ distance f3 w (digits w m s) (digits w n t)
    distance_ones = ones_bits w _ apart_fits ∙ joined_same ◌+◌ 0 w _ _ (λ k h.
        let x = value_in w m s k h in let y = value_in w n t k h in simp (bit_and_lem, bit_or_lem, bit_xor_lem) (grind arith))
