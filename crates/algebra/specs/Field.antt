-- Digits below a size, and a small field as arithmetic on them with its laws.
use Rattle.std.specs.Prelude.{◌≡◌, ℕ, ◌%◌, ◌<◌, ◌≢◌}
use Rattle.std.proofs.Common.{mod-lt, le_of_lt}

-- a digit carries the proof that it is below the size
abbrev pub Digit : ℕ → Type 0
Digit q = (n : ℕ) × (n < q)

abbrev pub value : {q : ℕ} → Digit q → ℕ
value d = d.0

-- no law has a side condition but the inverse's, so they rewrite freely
pub record Field : Type 0 where
  pub size : ℕ
  pub big : 1 < size
  pub nil : Digit size
  pub one : Digit size
  pub add : Digit size → Digit size → Digit size
  pub mul : Digit size → Digit size → Digit size
  pub neg : Digit size → Digit size
  pub inv : Digit size → Digit size
  pub nil_value : value nil ≡ 0
  pub one_value : value one ≡ 1
  pub add_assoc : (a b c : Digit size) → add (add a b) c ≡ add a (add b c)
  pub add_comm : (a b : Digit size) → add a b ≡ add b a
  pub nil-add : (a : Digit size) → add nil a ≡ a
  pub neg-add : (a : Digit size) → add (neg a) a ≡ nil
  pub mul_assoc : (a b c : Digit size) → mul (mul a b) c ≡ mul a (mul b c)
  pub mul_comm : (a b : Digit size) → mul a b ≡ mul b a
  pub one-mul : (a : Digit size) → mul one a ≡ a
  pub mul-add : (a b c : Digit size) → mul a (add b c) ≡ add (mul a b) (mul a c)
  pub inv-mul : (a : Digit size) → a ≢ nil → mul (inv a) a ≡ one

-- any number, modulo the size
abbrev pub of : (F : Field) → ℕ → Digit F.size
of F n = (n % F.size, mod-lt n (le_of_lt F.big))

-- the difference of two digits
abbrev pub minus : (F : Field) → Digit F.size → Digit F.size → Digit F.size
minus F a b = F.add a (F.neg b)
