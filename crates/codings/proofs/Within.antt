-- The first n of w places in two planes: the digits from n on, the successor and the product of the digits below n.
use Rattle.std.proofs.Common.{◌≡◌, ℕ, ◌+◌, ◌-◌, ◌%◌, ◌^◌, ◌<◌, ◌≤◌, true, false, not, ◌&&◌, ◌||◌, ltb, sym, ap, ◌∙◌, inl, inr, arith}
use lib.Bits.{bit_and, bit_or, bit_xor, and_lt, xor_lt}
use lib.Count.{ones, count_trailing_zeros}
use lib.Pow.{ones_sub-lt}
use Rattle.std.proofs.lemmas.Bool.{cases_lt, lt-ltb, le-ltb}
use Rattle.words.specs.Bit.{bit, one}
use Rattle.words.proofs.Operations.{bit_and_lem, bit_or_lem, bit_not}
use Rattle.words.proofs.Masks.{bit_zero, below_by_bits}
use Rattle.words.proofs.Lowest.{trailing_bits, less_bits}
use Rattle.algebra.specs.Field.{value}
use Rattle.algebra.specs.Modulo.{f3}
use Rattle.algebra.specs.Vector.{total, product, Long}
use Rattle.algebra.specs.Successor.{Next, Last}
use Rattle.algebra.proofs.Digits.{same_digit, neg_nil}
use Rattle.algebra.proofs.Joined.{joined_same}
use Rattle.algebra.proofs.Ternary.{product_nil, product_twos}
use Rattle.codings.specs.TwoPlanes.{digits, Full}
use Rattle.codings.specs.Places.{everywhere}
use Rattle.codings.specs.Counts.{ones_bits}
use Rattle.codings.specs.TwoPlanesLemmas.{FullWords, digits_out, value_in, some_bit}

-- `low` is the word of the places below n, of w places
pub record Low (w n low : ℕ) : Type 0 where
  pub most : n ≤ w
  pub fits : low < 2 ^ w
  pub bits : (k : ℕ) → k < w → bit k low ≡ ltb k n

module _ {w n low : ℕ} (m : Low w n low) where
  low_in : (k : ℕ) → k < n → bit k low ≡ true
  low_in k h = let i : k < w = omega arith in m.bits k i ∙ lt-ltb k n h

  low_out : (k : ℕ) → k < w → n ≤ k → bit k low ≡ false
  low_out k h l = m.bits k h ∙ le-ltb k n l

  -- a word with a set bit below n has a lowest one there, and one without has none
  pub lowest_within : (a : ℕ) → a < 2 ^ w → 0 < bit_and a low → (t : ℕ) × (t < n) × (bit t a ≡ true) × ((k : ℕ) → k < t → bit k a ≡ false)
  lowest_within a fits e =
      let x = bit_and a low in
      let l = trailing_bits w x (and_lt w a low fits m.fits) e in
      let t = count_trailing_zeros w x in
      let here = sym (bit_and_lem t a low) ∙ l.here in
      let h : t < n = inside t l.within here in
      (t, h, both t here, λ k d. let z = sym (bit_and_lem k a low) ∙ l.below k d in let i = low_in k (omega arith) in grind arith)
    where
      inside : (t : ℕ) → t < w → (bit t a && bit t low) ≡ true → t < n
      inside t h b = elim (cases_lt t n) [ inl i ↦ i | inr i ↦ (let o = low_out t h i in let z : ⊥ = grind arith in absurd z) ]

      both : (t : ℕ) → (bit t a && bit t low) ≡ true → bit t a ≡ true
      both t b = grind arith

  pub none_within : (a : ℕ) → bit_and a low ≡ 0 → (k : ℕ) → k < n → bit k a ≡ false
  none_within a e k h = let z = sym (bit_and_lem k a low) ∙ ap (bit k) e ∙ bit_zero k in let i = low_in k h in grind arith

  -- the set bits of a word below n
  pub ones_within : (a : ℕ) → a < 2 ^ w → ones (bit_and a low) ≡ total n (λ k. one (bit k a))
  ones_within a fits =
      ones_bits n (bit_and a low) (below_by_bits w n (bit_and a low) (and_lt w a low fits m.fits) m.most (λ k h l. let o = low_out k h l in bit_and_lem k a low ∙ grind arith))
      ∙ joined_same ◌+◌ 0 n _ _ (λ k h. let i = low_in k h in let b = bit_and_lem k a low in grind arith)

  -- the bits of a word from place n on
  above_bit : (a k : ℕ) → k < w → bit k (bit_and a ((2 ^ w - 1) - low)) ≡ (bit k a && not (ltb k n))
  above_bit a k h = bit_and_lem k a _ ∙ ap (λ b. bit k a && b) (bit_not w k low m.fits h ∙ ap not (m.bits k h))

  module _ {v1 v2 : ℕ} (p : FullWords w v1 v2) where
    pub long_is : bit_and (bit_xor v1 v2) ((2 ^ w - 1) - low) ≡ 0 → Long f3 n (digits w v1 v2)
    long_is e = everywhere w _
        (λ k h l.
        let z = sym (above_bit (bit_xor v1 v2) k h) ∙ ap (bit k) e ∙ bit_zero k in
        let o = le-ltb k n l in
        let s = some_bit p k h in
        same_digit _ _ (grind arith))
        (λ k h l. digits_out w v1 v2 k h)

    pub not_long : 0 < bit_and (bit_xor v1 v2) ((2 ^ w - 1) - low) → Long f3 n (digits w v1 v2) → ⊥
    not_long e long =
        let x = bit_and (bit_xor v1 v2) ((2 ^ w - 1) - low) in
        let l = trailing_bits w x (and_lt w _ _ (xor_lt w v1 v2 p.fits1 p.fits2) (ones_sub-lt w low)) e in
        let t = count_trailing_zeros w x in
        let b = sym (above_bit (bit_xor v1 v2) t l.within) ∙ l.here in
        let s = some_bit p t l.within in
        elim (cases_lt t n) [
          | inl i ↦ (let o = lt-ltb t n i in let z : ⊥ = grind arith in z)
          | inr i ↦ (let d = ap value (long t i) in let z : ⊥ = grind arith in z)
        ]

    pub last_is : bit_and v2 low ≡ 0 → Last f3 n (digits w v1 v2)
    last_is e k h =
        let z = none_within v2 e k h in
        let x = value_in w v1 v2 k (omega arith) in
        same_digit _ _ (grind arith)

    -- the successor's planes: one less than V2, with a bit wherever V1 has none; and V1
    abbrev raised1 : ℕ
    raised1 = bit_or (v2 - 1) ((2 ^ w - 1) - v1)

    raised_bit : (k : ℕ) → k < w → bit k raised1 ≡ (bit k (v2 - 1) || not (bit k v1))
    raised_bit k h = bit_or_lem k (v2 - 1) _ ∙ ap (λ b. bit k (v2 - 1) || b) (bit_not w k v1 p.fits1 h)

    pub next_full : Full w raised1 v1
    next_full k h = let r = raised_bit k h in grind arith

    pub next_is : 0 < bit_and v2 low → (d : ℕ) × Next f3 n (digits w v1 v2) d (digits w raised1 v1)
    next_is e =
        let r = lowest_within v2 p.fits2 e in
        let t = r.0 in
        let h : t < w = omega (arith, r.1) in
        let d = less_bits v2 t r.2 r.3 in (
          t,
          record {
            within = r.1;
            twos = λ k l. let i : k < w = omega arith in let x = value_in w v1 v2 k i in let b = r.3 k l in same_digit _ _ (grind arith);
            room = λ z. let x = value_in w v1 v2 t h in let y = ap value z in let b = r.2 in let o : ⊥ = grind arith in o;
            cleared = λ k l.
                let i : k < w = omega arith in
                let a = p.full k i in let x = value_in w raised1 v1 k i in let o = raised_bit k i in let b = r.3 k l in let c = d.below k l in
                same_digit _ _ (grind arith);
            raised =
                let a = p.full t h in let x = value_in w raised1 v1 t h in let y = value_in w v1 v2 t h in let o = raised_bit t h in let b = r.2 in let c = d.here in
                same_digit _ _ (grind arith);
            negated = λ k l. everywhere w (λ k. t < k → digits w raised1 v1 k ≡ f3.neg (digits w v1 v2 k))
                (λ k i l.
                let a = p.full k i in let x = value_in w raised1 v1 k i in let y = value_in w v1 v2 k i in let o = raised_bit k i in let c = d.above k l in
                same_digit _ _ (grind arith))
                (λ k i l. digits_out w raised1 v1 k i ∙ sym (ap f3.neg (digits_out w v1 v2 k i) ∙ neg_nil f3))
                k l;
          },
        )

    pub product_has_zero : 0 < bit_and ((2 ^ w - 1) - bit_xor v1 v2) low → value (product f3 n (digits w v1 v2)) ≡ 0
    product_has_zero e =
        let r = lowest_within ((2 ^ w - 1) - bit_xor v1 v2) (ones_sub-lt w (bit_xor v1 v2)) e in
        let t = r.0 in
        let h : t < w = omega (arith, r.1) in
        let b = r.2 in
        let o = bit_not w t (bit_xor v1 v2) (xor_lt w v1 v2 p.fits1 p.fits2) h in
        let s = some_bit p t h in
        product_nil n (digits w v1 v2) t r.1 (grind arith)

    pub product_no_zero : bit_and ((2 ^ w - 1) - bit_xor v1 v2) low ≡ 0
        → value (product f3 n (digits w v1 v2)) ≡ 1 + ones (bit_and ((2 ^ w - 1) - v2) low) % 2
    product_no_zero e =
        product_twos n (digits w v1 v2) nonzero
        ∙ ap (λ (x : ℕ). 1 + x % 2) (sym (ones_within ((2 ^ w - 1) - v2) (ones_sub-lt w v2) ∙ joined_same ◌+◌ 0 n _ _ two))
      where
        nonzero : (k : ℕ) → k < n → 0 < value (digits w v1 v2 k)
        nonzero k l =
            let h : k < w = omega arith in
            let b = none_within ((2 ^ w - 1) - bit_xor v1 v2) e k l in
            let o = bit_not w k (bit_xor v1 v2) (xor_lt w v1 v2 p.fits1 p.fits2) h in
            let s = some_bit p k h in
            grind arith

        two : (k : ℕ) → k < n → one (bit k ((2 ^ w - 1) - v2)) ≡ value (digits w v1 v2 k) - 1
        two k l =
            let h : k < w = omega arith in
            let o = bit_not w k v2 p.fits2 h in
            let x = value_in w v1 v2 k h in
            let z = nonzero k l in
            grind arith
