-- Two planes of w places with the digits of planes of n places, and none beyond.
use Rattle.std.proofs.Common.{◌≡◌, ℕ, ◌-◌, ◌^◌, ◌<◌, ◌≤◌, true, not, ◌||◌, ltb, sym, ap, ◌∙◌, ap₂, arith, pow_pos, pow_mono}
use lib.Bits.{bit_or}
use Rattle.std.proofs.lemmas.Bool.{lt-ltb, le-ltb}
use Rattle.words.specs.Bit.{bit}
use Rattle.words.proofs.Operations.{bit_or_lem, bit_not}
use Rattle.words.proofs.Masks.{bit_below}
use Rattle.algebra.specs.Field.{of}
use Rattle.algebra.specs.Modulo.{f3}
use Rattle.algebra.specs.Vector.{Long}
use Rattle.algebra.proofs.Digits.{of_nil}
use Rattle.codings.specs.TwoPlanes.{plane_value, digits}
use Rattle.codings.specs.Places.{everywhere}
use Rattle.codings.specs.TwoPlanesLemmas.{digits_in, digits_out}

module _ (n w : ℕ) (most : n ≤ w) where
  -- planes with the same bits below n have the same digits, if the wider ones hold none beyond
  pub same_below : (a1 a2 v1 v2 : ℕ)
      → ((k : ℕ) → k < n → bit k a1 ≡ bit k v1) → ((k : ℕ) → k < n → bit k a2 ≡ bit k v2)
      → Long f3 n (digits w v1 v2)
      → (k : ℕ) → digits n a1 a2 k ≡ digits w v1 v2 k
  same_below a1 a2 v1 v2 same1 same2 long = everywhere n _
      (λ k h.
      digits_in n a1 a2 k h
      ∙ ap (of f3) (ap₂ plane_value (same1 k h) (same2 k h))
      ∙ sym (digits_in w v1 v2 k (omega arith)))
      (λ k h. digits_out n a1 a2 k h ∙ sym (long k h))

  -- a word of w bits with all bits from place n on set
  abbrev filled : ℕ → ℕ
  filled a = bit_or a ((2 ^ w - 1) - (2 ^ n - 1))

  filled_bit : (a k : ℕ) → k < w → bit k (filled a) ≡ (bit k a || not (ltb k n))
  filled_bit a k h =
      let fits : 2 ^ n - 1 < 2 ^ w = omega (arith, pow_mono most, pow_pos n) in
      bit_or_lem k a _ ∙ ap (λ b. bit k a || b) (bit_not w k (2 ^ n - 1) fits h ∙ ap not (bit_below n k))

  filled_in : (a k : ℕ) → k < n → bit k a ≡ bit k (filled a)
  filled_in a k h = let b = filled_bit a k (omega arith) in let l = lt-ltb k n h in grind arith

  filled_out : (a k : ℕ) → k < w → n ≤ k → bit k (filled a) ≡ true
  filled_out a k h l = let b = filled_bit a k h in let o = le-ltb k n l in grind arith

  filled_long : (a1 a2 : ℕ) → Long f3 n (digits w (filled a1) (filled a2))
  filled_long a1 a2 = everywhere w _
      (λ k h l. digits_in w _ _ k h ∙ ap (of f3) (ap₂ plane_value (filled_out a1 k h l) (filled_out a2 k h l)) ∙ of_nil f3)
      (λ k h l. digits_out w _ _ k h)

  -- planes of n places read from words whose bits beyond do not matter
  pub filled_digits : (a1 a2 v1 v2 : ℕ)
      → ((k : ℕ) → k < n → bit k a1 ≡ bit k v1) → ((k : ℕ) → k < n → bit k a2 ≡ bit k v2)
      → (k : ℕ) → digits n a1 a2 k ≡ digits w (filled v1) (filled v2) k
  filled_digits a1 a2 v1 v2 same1 same2 = same_below a1 a2 _ _
      (λ k h. same1 k h ∙ filled_in v1 k h)
      (λ k h. same2 k h ∙ filled_in v2 k h)
      (filled_long v1 v2)
