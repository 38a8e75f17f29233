-- The test of a vector's length is true exactly if the vector has that length.
use Rattle.std.proofs.Common.{◌≡◌, ℕ, zero, suc, ◌<◌, ◌≤◌, Bool, true, false, cond, eqb, sym, refl, ap, ◌∙◌, arith, le-ltb, lt-ltb, eq-eqb, ne_eqb}
use native.Mathlib.Decide.{dec_lt, ℕ_discrete}
use Rattle.algebra.specs.Field.{Field, value}
use Rattle.algebra.specs.Vector.{Vector, Long, long_within}
use Rattle.algebra.proofs.Digits.{same_digit}

pub false_is_not_true : false ≡ true → ⊥
false_is_not_true e = let z : ◌≡◌ {A = ℕ} 0 1 = cc e in omega arith

module _ (F : Field) (n : ℕ) (v : Vector F) where
  open F use {nil, nil_value}

  -- the digits from n up to k are 0
  abbrev Clean : ℕ → Type 0
  Clean k = (j : ℕ) → n ≤ j → j < k → v j ≡ nil

  test_below : (k : ℕ) → k < n → long_within F (suc k) n v ≡ long_within F k n v
  unfolding long_within
  test_below k h = ap (λ b. cond b (long_within F k n v) (cond (eqb (value (v k)) 0) (long_within F k n v) false)) (lt-ltb k n h)

  test_above : (k : ℕ) → n ≤ k → long_within F (suc k) n v ≡ cond (eqb (value (v k)) 0) (long_within F k n v) false
  unfolding long_within
  test_above k h = ap (λ b. cond b (long_within F k n v) (cond (eqb (value (v k)) 0) (long_within F k n v) false)) (le-ltb k n h)

  test_none : long_within F 0 n v ≡ true
  unfolding long_within
  test_none = refl

  clean_true : (k : ℕ) → Clean k → long_within F k n v ≡ true
  clean_true zero h = test_none
  clean_true (suc k) h = elim (dec_lt k n) [
    | yes l ↦ test_below k l ∙ clean_true k (λ j a b. h j a (omega arith))
    | no l ↦ test_above k (omega arith) ∙ ap (λ b. cond b (long_within F k n v) false) (eq-eqb (value (v k)) 0 (ap value (h k (omega arith) (omega arith)) ∙ nil_value)) ∙ clean_true k (λ j a b. h j a (omega arith))
  ]

  true_clean : (k : ℕ) → long_within F k n v ≡ true → Clean k
  true_clean zero e j a b = absurd (omega arith)
  true_clean (suc k) e j a b = elim (dec_lt k n) [
    | yes l ↦ true_clean k (sym (test_below k l) ∙ e) j a (omega arith)
    | no l ↦ elim (ℕ_discrete (value (v k)) 0) [
      | yes z ↦ (let before : Clean k = true_clean k (sym (ap (λ b. cond b (long_within F k n v) false) (eq-eqb (value (v k)) 0 z)) ∙ sym (test_above k (omega arith)) ∙ e) in
          elim (ℕ_discrete j k) [ yes q ↦ ap v q ∙ same_digit (v k) nil (z ∙ sym nil_value) | no q ↦ before j a (omega arith) ])
      | no z ↦ absurd (false_is_not_true (sym (ap (λ b. cond b (long_within F k n v) false) (ne_eqb (value (v k)) 0 z)) ∙ sym (test_above k (omega arith)) ∙ e))
    ]
  ]

  module _ (w : ℕ) (wide : Long F w v) where
    pub long_test : Long F n v → long_within F w n v ≡ true
    long_test h = clean_true w (λ j a _. h j a)

    pub test_long : long_within F w n v ≡ true → Long F n v
    test_long e j a = elim (dec_lt j w) [ yes b ↦ true_clean w e j a b | no b ↦ wide j (omega arith) ]

    pub test_short : (Long F n v → ⊥) → long_within F w n v ≡ false
    test_short h = which (long_within F w n v) refl
      where
        which : (b : Bool) → long_within F w n v ≡ b → b ≡ false
        which true e = absurd (h (test_long e))
        which false e = refl
