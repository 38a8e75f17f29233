-- Arithmetic modulo q is a field wherever each digit but 0 has an inverse; f3 is the one in use.
use Rattle.std.specs.Prelude.{◌≡◌, ℕ, zero, suc, ◌+◌, ◌-◌, ◌*◌, ◌/◌, ◌%◌, ◌<◌, ◌≢◌, refl}
use Rattle.std.proofs.Common.{sym, ◌∙◌, ap, le_of_lt, zero-add, one-mul, add_assoc, add_comm, mul_assoc, mul_comm, mul-add, mod-lt, mod-eq_of_lt, add-mul, arith}
use Rattle.std.proofs.Math.Nat.{mod_self, mod-add-mod, add-mod-mod, mod-add-div, add-mul-mod_self_left}
use native.Mathlib.Fin
use Rattle.std.proofs.Math.Decide.{ℕ_discrete}
use Rattle.algebra.specs.Field.{Field, Digit}

-- a product modulo q, from a factor modulo q
pub mod_mul_mod : (a b q : ℕ) → ((a % q) * b) % q ≡ (a * b) % q
mod_mul_mod a b q =
    sym (add-mul-mod_self_left ((a % q) * b) q ((a / q) * b))
    ∙ ap (λ x. x % q) (ap (λ x. (a % q) * b + x) (sym (mul_assoc q (a / q) b)) ∙ sym (add-mul (a % q) (q * (a / q)) b) ∙ ap (λ x. x * b) (mod-add-div a q))

pub mul_mod_mod : (a b q : ℕ) → (a * (b % q)) % q ≡ (a * b) % q
mul_mod_mod a b q = ap (λ x. x % q) (mul_comm a (b % q)) ∙ mod_mul_mod b a q ∙ ap (λ x. x % q) (mul_comm b a)

module _ (q : ℕ) (big : 1 < q) (inverse : ℕ → ℕ) (undoes : (a : ℕ) → 0 < a → a < q → (inverse a * a) % q ≡ 1) where
  abbrev pub digit : ℕ → Digit q
  digit n = (n % q, mod-lt n (le_of_lt big))

  pub same : (a b : Digit q) → a.0 ≡ b.0 → a ≡ b
  same a b e = Fin.val_path {n = q} {i = a} {j = b} e

  pub back : (a : Digit q) → (q - a.0) + a.0 ≡ q
  back a = let k : a.0 < q = a.1 in omega arith

  pub above : (a : Digit q) → a ≢ (0, le_of_lt big) → 0 < a.0
  above a h = elim (ℕ_discrete a.0 0) [ yes e ↦ absurd (h (same _ _ e)) | no k ↦ omega arith ]

  abbrev pub modulo : Field
  modulo = record {
    size = q;
    big = big;
    nil = (0, le_of_lt big);
    one = (1, big);
    add = λ a b. digit (a.0 + b.0);
    mul = λ a b. digit (a.0 * b.0);
    neg = λ a. digit (q - a.0);
    inv = λ a. digit (inverse a.0);
    nil_value = refl;
    one_value = refl;
    add_assoc = λ a b c. same _ _ (mod-add-mod (a.0 + b.0) q c.0 ∙ ap (λ x. x % q) (add_assoc a.0 b.0 c.0) ∙ sym (add-mod-mod a.0 (b.0 + c.0) q));
    add_comm = λ a b. same _ _ (ap (λ x. x % q) (add_comm a.0 b.0));
    nil-add = λ a. same _ _ (ap (λ x. x % q) (zero-add a.0) ∙ mod-eq_of_lt a.1);
    neg-add = λ a. same _ _ (mod-add-mod (q - a.0) q a.0 ∙ ap (λ x. x % q) (back a) ∙ mod_self q);
    mul_assoc = λ a b c. same _ _ (mod_mul_mod (a.0 * b.0) c.0 q ∙ ap (λ x. x % q) (mul_assoc a.0 b.0 c.0) ∙ sym (mul_mod_mod a.0 (b.0 * c.0) q));
    mul_comm = λ a b. same _ _ (ap (λ x. x % q) (mul_comm a.0 b.0));
    one-mul = λ a. same _ _ (ap (λ x. x % q) (one-mul a.0) ∙ mod-eq_of_lt a.1);
    mul-add = λ a b c. same _ _ (mul_mod_mod a.0 (b.0 + c.0) q ∙ ap (λ x. x % q) (mul-add a.0 b.0 c.0) ∙ sym (mod-add-mod (a.0 * b.0) q ((a.0 * c.0) % q) ∙ add-mod-mod (a.0 * b.0) (a.0 * c.0) q));
    inv-mul = λ a h. same _ _ (mod_mul_mod (inverse a.0) a.0 q ∙ undoes a.0 (above a h) a.1);
  }

-- a bound that a type mentions has one name: two proofs by `omega` are two terms
pub one_below_three : 1 < 3
one_below_three = omega arith

-- modulo 3 every digit but 0 is its own inverse
pub square_is_one : (a : ℕ) → 0 < a → a < 3 → (a * a) % 3 ≡ 1
square_is_one zero h k = absurd (omega arith)
square_is_one (suc zero) h k = refl
square_is_one (suc (suc zero)) h k = refl
square_is_one (suc (suc (suc n))) h k = absurd (omega arith)

abbrev pub f3 : Field
f3 = modulo 3 one_below_three (λ a. a) square_is_one
