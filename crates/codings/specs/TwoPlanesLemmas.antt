-- The word operations on two planes, over plain numbers: what each answer means, and that no place is left empty.
use Rattle.std.specs.Prelude.{◌≡◌, ℕ, ◌+◌, ◌-◌, ◌*◌, ◌%◌, ◌^◌, ◌<◌, ◌≤◌, false, cond, not, ◌||◌, ◌==◌, count_ones, refl}
use Rattle.std.proofs.Common.{sym, ap, ap₂, ◌∙◌, inl, inr, arith}
use Rattle.std.specs.Int.Bits.{bit_and, bit_or, bit_xor}
use Rattle.std.proofs.lemmas.Nat.{or_lt, xor_lt}
use Rattle.std.proofs.Math.Pow.{ones_sub-lt}
use Rattle.std.proofs.lemmas.Bool.{cases_eq, eq-eqb, ne_eqb, cond-true, cond-false}
use Rattle.words.specs.Bit.{bit, one}
use Rattle.words.proofs.Operations.{bit_and_lem, bit_or_lem, bit_xor_lem, bit_not}
use Rattle.words.proofs.Masks.{bit_zero, bit_ones}
use Rattle.words.proofs.Lowest.{Lowest}
use Rattle.words.proofs.Spelled.{word_same, word_bits}
use Rattle.algebra.specs.Field.{value, of, minus}
use Rattle.algebra.specs.Modulo.{f3}
use Rattle.algebra.specs.Vector.{joined, differing, changed, weight, distance, Leads}
use Rattle.algebra.proofs.Digits.{same_digit}
use Rattle.algebra.proofs.Joined.{joined_same, total_add}
use Rattle.algebra.proofs.Ternary.{of_add, of_neg, of_minus, of_mul, sum_value}
use Rattle.codings.specs.TwoPlanes.{plane_value, digits, Full, spelled1, spelled2}
use Rattle.codings.specs.Places.{everywhere, laid_in, laid_out, laid_value, laid_nil, laid_same, laid_by}
use Rattle.codings.specs.Counts.{ones_bits}

module _ (w v1 v2 : ℕ) where
  pub digits_out : (k : ℕ) → w ≤ k → digits w v1 v2 k ≡ f3.nil
  digits_out = laid_out w (λ k. plane_value (bit k v1) (bit k v2))

  pub digits_in : (k : ℕ) → k < w → digits w v1 v2 k ≡ of f3 (plane_value (bit k v1) (bit k v2))
  digits_in = laid_in w (λ k. plane_value (bit k v1) (bit k v2))

  pub value_in : (k : ℕ) → k < w → value (digits w v1 v2 k) ≡ plane_value (bit k v1) (bit k v2)
  value_in = laid_value w (λ k. plane_value (bit k v1) (bit k v2)) (λ k. grind arith)

  -- full planes are the words that their digits are spelled by
  pub full_spelled1 : Full w v1 v2 → v1 < 2 ^ w → v1 ≡ spelled1 w (digits w v1 v2)
  full_spelled1 full fits = word_bits w v1 fits ∙ word_same w _ _ (λ k h. let f = full k h in let e = value_in k h in grind arith)

  pub full_spelled2 : v2 < 2 ^ w → v2 ≡ spelled2 w (digits w v1 v2)
  full_spelled2 fits = word_bits w v2 fits ∙ word_same w _ _ (λ k h. let e = value_in k h in grind arith)

-- V1 as it is read from a first word: set wherever V2 has no bit
module _ (w x v2 v1 : ℕ) (read : (k : ℕ) → k < w → bit k v1 ≡ (bit k x || not (bit k v2))) where
  pub read_digits : (k : ℕ) → digits w v1 v2 k ≡ digits w x v2 k
  read_digits = laid_same w _ _ (λ k h. let r = read k h in grind arith)

  pub read_full : Full w v1 v2
  read_full k h = let r = read k h in grind arith

module _ (w v1 v2 : ℕ) (fv : Full w v1 v2) where
  pub negation_digits : (k : ℕ) → digits w v2 v1 k ≡ f3.neg (digits w v1 v2 k)
  negation_digits = laid_by w (λ a b. f3.neg a) (λ a b. 2 * a) (λ a b. of_neg a) refl _ (λ k. 0) _ (λ k h. let a = fv k h in grind arith)

  pub negation_full : Full w v2 v1
  negation_full k h = let a = fv k h in grind arith

-- one digit d put at a place: V1 is set there unless d is 1, and V2 unless d is 2
module _ (w v1 v2 u1 u2 place d : ℕ) (small : d < 3)
    (put1 : (k : ℕ) → k < w → bit k u1 ≡ cond (k == place) (not (d == 1)) (bit k v1))
    (put2 : (k : ℕ) → k < w → bit k u2 ≡ cond (k == place) (not (d == 2)) (bit k v2)) where
  pub change_full : Full w v1 v2 → Full w u1 u2
  change_full full k h = let a = full k h in let p = put1 k h in let q = put2 k h in grind arith

  pub change_digits : place < w → (k : ℕ) → digits w u1 u2 k ≡ changed f3 (digits w v1 v2) place (of f3 d) k
  change_digits inside = everywhere w _ within outside
    where
      within : (k : ℕ) → k < w → digits w u1 u2 k ≡ changed f3 (digits w v1 v2) place (of f3 d) k
      within k h =
          let p = put1 k h in let q = put2 k h in let x = value_in w u1 u2 k h in let y = value_in w v1 v2 k h in
          elim (cases_eq k place) [
            | inl e ↦ let t = eq-eqb k place e in same_digit _ _ (grind arith) ∙ sym (cond-true (k == place) _ _ t)
            | inr n ↦ let t = ne_eqb k place n in same_digit _ _ (grind arith) ∙ sym (cond-false (k == place) _ _ t)
          ]

      outside : (k : ℕ) → w ≤ k → digits w u1 u2 k ≡ changed f3 (digits w v1 v2) place (of f3 d) k
      outside k h =
          let t = ne_eqb k place (λ e. omega (arith, e)) in
          digits_out w u1 u2 k h ∙ sym (digits_out w v1 v2 k h) ∙ sym (cond-false (k == place) _ _ t)

module _ (w v1 v2 w1 w2 : ℕ) (fv : Full w v1 v2) (fw : Full w w1 w2) where
  pub sum_digits : (k : ℕ) → digits w (bit_or (bit_xor v2 w2) (bit_xor (bit_xor v1 w1) v2)) (bit_or (bit_xor v1 w1) (bit_xor (bit_xor v2 w2) v1)) k
      ≡ f3.add (digits w v1 v2 k) (digits w w1 w2 k)
  sum_digits = laid_by w f3.add ◌+◌ of_add refl _ _ _ (λ k h. let a = fv k h in let b = fw k h in simp (bit_or_lem, bit_xor_lem) (grind arith))

  pub sum_full : Full w (bit_or (bit_xor v2 w2) (bit_xor (bit_xor v1 w1) v2)) (bit_or (bit_xor v1 w1) (bit_xor (bit_xor v2 w2) v1))
  sum_full k h = let a = fv k h in let b = fw k h in simp (bit_or_lem, bit_xor_lem) (grind arith)

  pub product_digits : (k : ℕ) → digits w (bit_and (bit_or v1 w1) (bit_or v2 w2)) (bit_and (bit_or v1 w2) (bit_or v2 w1)) k
      ≡ f3.mul (digits w v1 v2 k) (digits w w1 w2 k)
  product_digits = laid_by w f3.mul ◌*◌ of_mul refl _ _ _ (λ k h. let a = fv k h in let b = fw k h in simp (bit_and_lem, bit_or_lem) (grind arith))

  pub product_full : Full w (bit_and (bit_or v1 w1) (bit_or v2 w2)) (bit_and (bit_or v1 w2) (bit_or v2 w1))
  product_full k h = let a = fv k h in let b = fw k h in simp (bit_and_lem, bit_or_lem) (grind arith)

  -- the sum and the difference from the words t1, t2, u1, u2 that they share
  abbrev t1 : ℕ
  t1 = bit_xor (bit_xor v1 v2) w1

  abbrev t2 : ℕ
  t2 = bit_xor (bit_xor v1 v2) w2

  abbrev u1 : ℕ
  u1 = bit_xor (bit_xor w1 w2) v1

  abbrev u2 : ℕ
  u2 = bit_xor (bit_xor w1 w2) v2

  pub shared_sum_digits : (k : ℕ) → digits w (bit_or t1 u1) (bit_or t2 u2) k ≡ f3.add (digits w v1 v2 k) (digits w w1 w2 k)
  shared_sum_digits = laid_by w f3.add ◌+◌ of_add refl _ _ _ (λ k h. let a = fv k h in let b = fw k h in simp (bit_or_lem, bit_xor_lem) (grind arith))

  pub shared_sum_full : Full w (bit_or t1 u1) (bit_or t2 u2)
  shared_sum_full k h = let a = fv k h in let b = fw k h in simp (bit_or_lem, bit_xor_lem) (grind arith)

  pub shared_difference_digits : (k : ℕ) → digits w (bit_or t2 u1) (bit_or t1 u2) k ≡ minus f3 (digits w v1 v2 k) (digits w w1 w2 k)
  shared_difference_digits =
      laid_by w (minus f3) (λ a b. a + 2 * b) of_minus refl _ _ _ (λ k h. let a = fv k h in let b = fw k h in simp (bit_or_lem, bit_xor_lem) (grind arith))

  pub shared_difference_full : Full w (bit_or t2 u1) (bit_or t1 u2)
  shared_difference_full k h = let a = fv k h in let b = fw k h in simp (bit_or_lem, bit_xor_lem) (grind arith)

-- two full planes, in words of w bits
pub record FullWords (w v1 v2 : ℕ) : Type 0 where
  pub full : Full w v1 v2
  pub fits1 : v1 < 2 ^ w
  pub fits2 : v2 < 2 ^ w

pub distance_ones : {w v1 v2 w1 w2 : ℕ} → FullWords w v1 v2 → FullWords w w1 w2
    → count_ones (bit_or (bit_xor v1 w1) (bit_xor v2 w2)) ≡ distance f3 w (digits w v1 v2) (digits w w1 w2)
distance_ones {w} {v1} {v2} {w1} {w2} p q =
    ones_bits w _ (or_lt w _ _ (xor_lt w v1 w1 p.fits1 q.fits1) (xor_lt w v2 w2 p.fits2 q.fits2))
    ∙ joined_same ◌+◌ 0 w _ _ (λ k h.
    let a = p.full k h in let b = q.full k h in let x = value_in w v1 v2 k h in let y = value_in w w1 w2 k h in
    simp (bit_or_lem, bit_xor_lem) (grind arith))

module _ {w v1 v2 : ℕ} (p : FullWords w v1 v2) where
  -- the word of the places whose digit is not 0
  abbrev some : ℕ
  some = bit_xor v1 v2

  some_fits : some < 2 ^ w
  some_fits = xor_lt w v1 v2 p.fits1 p.fits2

  pub some_bit : (k : ℕ) → k < w → one (bit k some) ≡ differing (digits w v1 v2 k) f3.nil
  some_bit k h = let a = p.full k h in let x = value_in w v1 v2 k h in let b = bit_xor_lem k v1 v2 in grind arith

  pub weight_ones : count_ones some ≡ weight f3 w (digits w v1 v2)
  weight_ones = ones_bits w some some_fits ∙ joined_same ◌+◌ 0 w _ _ some_bit

  -- each digit is the number of its two words, "not 0" and "is 2", that hold its place
  pub sum_ones : (count_ones some + count_ones ((2 ^ w - 1) - v2)) % 3 ≡ value (joined f3.add f3.nil w (digits w v1 v2))
  sum_ones =
      ap (λ x. x % 3) (
      ap₂ ◌+◌ (ones_bits w some some_fits) (ones_bits w _ (ones_sub-lt w v2))
      ∙ sym (total_add w (λ k. one (bit k some)) (λ k. one (bit k ((2 ^ w - 1) - v2))))
      ∙ joined_same ◌+◌ 0 w _ _ (λ k h.
      let a = p.full k h in let x = value_in w v1 v2 k h in let b = bit_xor_lem k v1 v2 in let n = bit_not w k v2 p.fits2 h in grind arith))
      ∙ sym (sum_value w (digits w v1 v2))

  pub lead_none : some ≡ 0 → (k : ℕ) → digits w v1 v2 k ≡ f3.nil
  lead_none e = everywhere w _
      (λ k h. let z : bit k some ≡ false = ap (bit k) e ∙ bit_zero k in let s = some_bit k h in same_digit _ _ (grind arith))
      (digits_out w v1 v2)

  pub lead_some : (t : ℕ) → Lowest w some t → Leads f3 (digits w v1 v2) t (cond (bit t v2) 1 2)
  lead_some t l =
      let a = p.full t l.within in
      let x = value_in w v1 v2 t l.within in
      let b = bit_xor_lem t v1 v2 in
      let here = l.here in
      record {
        here = grind arith;
        some = λ e. let z = ap value e in let y : ⊥ = grind arith in y;
        below = λ k h. let z = l.below k h in let i : k < w = omega (arith, l.within) in let s = some_bit k i in same_digit _ _ (grind arith);
      }

module _ (w : ℕ) where
  pub zero_full : Full w (2 ^ w - 1) (2 ^ w - 1)
  zero_full k h = let o = bit_ones w k h in grind arith

  pub zero_digits : (k : ℕ) → digits w (2 ^ w - 1) (2 ^ w - 1) k ≡ f3.nil
  zero_digits = laid_nil w _ (λ k h. ap₂ plane_value (bit_ones w k h) (bit_ones w k h))
