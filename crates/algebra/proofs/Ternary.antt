-- Digits modulo 3 from plain numbers: each operation of f3 on numbers taken modulo 3, the multiples of a digit, and sums and products over places.
use Rattle.std.proofs.Common.{◌≡◌, ℕ, zero, suc, ◌+◌, ◌-◌, ◌*◌, ◌%◌, ◌<◌, sym, refl, ap, ◌∙◌, inl, inr, not-suc-le-zero, mul-one, arith}
use native.Mathlib.Nat.{add-mod, mod-mod}
use Rattle.std.proofs.lemmas.Bool.{cases_eq}
use Rattle.algebra.specs.Field.{Digit, value, of, minus}
use Rattle.algebra.specs.Modulo.{f3, mod_mul_mod, mul_mod_mod}
use Rattle.algebra.specs.Vector.{Vector, joined, total, product}
use Rattle.algebra.proofs.Digits.{same_digit}

pub of_mod : (a : ℕ) → of f3 (a % 3) ≡ of f3 a
of_mod a = same_digit _ _ (mod-mod a 3)

pub of_add : (a b : ℕ) → of f3 (a + b) ≡ f3.add (of f3 a) (of f3 b)
of_add a b = same_digit _ _ (add-mod a b 3)

pub of_neg : (a : ℕ) → of f3 (2 * a) ≡ f3.neg (of f3 a)
of_neg a = same_digit _ _ (omega arith)

pub of_minus : (a b : ℕ) → of f3 (a + 2 * b) ≡ minus f3 (of f3 a) (of f3 b)
of_minus a b = of_add a (2 * b) ∙ ap (f3.add (of f3 a)) (of_neg b)

pub of_mul : (a b : ℕ) → of f3 (a * b) ≡ f3.mul (of f3 a) (of f3 b)
of_mul a b = same_digit _ _ (sym (mod_mul_mod a (b % 3) 3 ∙ mul_mod_mod a b 3))

-- what a number that is 0, 1 or 2 scales a digit to
pub by_zero : {d : ℕ} → d ≡ 0 → (a : Digit 3) → f3.nil ≡ f3.mul (of f3 d) a
by_zero e a = same_digit _ _ (rw e (omega arith))

pub by_one : {d : ℕ} → d ≡ 1 → (a : Digit 3) → a ≡ f3.mul (of f3 d) a
by_one e a = let small = a.1 in same_digit _ _ (rw e (omega arith))

pub by_two : {d : ℕ} → d ≡ 2 → (a : Digit 3) → f3.neg a ≡ f3.mul (of f3 d) a
by_two e a = same_digit _ _ (rw e (omega arith))

-- a sum of digits is the sum of their values modulo 3
pub sum_value : (n : ℕ) (v : Vector f3) → value (joined f3.add f3.nil n v) ≡ total n (λ k. value (v k)) % 3
unfolding joined
sum_value zero v = refl
sum_value (suc n) v = let i = sum_value n v in omega (arith, i)

-- a product with a 0 among its factors
pub product_nil : (n : ℕ) (v : Vector f3) (k : ℕ) → k < n → value (v k) ≡ 0 → value (product f3 n v) ≡ 0
unfolding joined
product_nil zero v k h e = absurd (not-suc-le-zero h)
product_nil (suc n) v k h e = elim (cases_eq k n) [
  | inl i ↦ ap (λ x. (value (product f3 n v) * x) % 3) (ap (λ j. value (v j)) (sym i) ∙ e) ∙ times_zero (value (product f3 n v))
  | inr i ↦ ap (λ x. (x * value (v n)) % 3) (product_nil n v k (omega (arith, h, i)) e) ∙ zero_times (value (v n))
]
  where
    times_zero : (x : ℕ) → (x * 0) % 3 ≡ 0
    times_zero x = omega arith

    zero_times : (x : ℕ) → (0 * x) % 3 ≡ 0
    zero_times x = omega arith

-- a factor 1 or 2 keeps or turns a product that is 1 or 2
turn : (p d s : ℕ) → p ≡ 1 + s % 2 → 0 < d → d < 3 → (p * d) % 3 ≡ 1 + (s + (d - 1)) % 2
turn p zero s e l h = let z : ⊥ = omega arith in absurd z
turn p (suc zero) s e l h = let m = mul-one p in omega (arith, e, m)
turn p (suc (suc zero)) s e l h = elim (cases_eq (s % 2) 0) [
  | inl z ↦ (let a : p ≡ 1 = omega (arith, e, z) in let b : (p * 2) % 3 ≡ 2 = ap (λ x. (x * 2) % 3) a in let c : (s + 1) % 2 ≡ 1 = omega (arith, z) in omega (arith, b, c))
  | inr z ↦ (let a : p ≡ 2 = omega (arith, e, z) in let b : (p * 2) % 3 ≡ 1 = ap (λ x. (x * 2) % 3) a in let c : (s + 1) % 2 ≡ 0 = omega (arith, z) in omega (arith, b, c))
]
turn p (suc (suc (suc d))) s e l h = let z : ⊥ = omega arith in absurd z

-- a product of ones and twos is 1 or 2 as its twos are even or odd in number
pub product_twos : (n : ℕ) (v : Vector f3) → ((k : ℕ) → k < n → 0 < value (v k)) → value (product f3 n v) ≡ 1 + total n (λ k. value (v k) - 1) % 2
unfolding joined
product_twos zero v h = refl
product_twos (suc n) v h =
    turn (value (product f3 n v)) (value (v n)) (total n (λ k. value (v k) - 1)) (product_twos n v (λ k l. h k (omega arith))) (h n (omega arith)) (v n).1
