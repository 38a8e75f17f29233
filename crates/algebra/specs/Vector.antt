-- Vectors as functions from the place to the digit, and what is counted, added and multiplied over their places.
use Rattle.std.specs.Prelude.{◌≡◌, ℕ, zero, suc, ◌+◌, ◌<◌, ◌≤◌, Bool, true, false, cond, ◌≢◌, ◌==◌, nat_lt}
use Rattle.algebra.specs.Field.{Field, Digit, value}

-- f 0, f 1, .., f (n - 1) joined by `op`, from `start` on
unfoldable pub joined : {X : Type 0} → (X → X → X) → X → ℕ → (ℕ → X) → X
joined op start zero f = start
joined op start (suc n) f = op (joined op start n f) (f n)

-- the sum of f over the places below n
abbrev pub total : ℕ → (ℕ → ℕ) → ℕ
total n f = joined ◌+◌ 0 n f

-- 1 where two digits differ, and 0 where they are equal
abbrev pub differing : {q : ℕ} → Digit q → Digit q → ℕ
differing a b = cond (value a == value b) 0 1

abbrev pub Vector : Field → Type 0
Vector F = ℕ → Digit F.size

module _ (F : Field) where
  abbrev pub zeros : Vector F
  zeros k = F.nil

  -- v has length n: every digit at place n or above is 0
  abbrev pub Long : ℕ → Vector F → Type 0
  Long n v = (k : ℕ) → n ≤ k → v k ≡ F.nil

  -- whether v has length n, by the digits from place n up to the width
  unfoldable pub long_within : (width n : ℕ) → Vector F → Bool
  long_within zero n v = true
  long_within (suc k) n v = cond (nat_lt k n) (long_within k n v) (cond (value (v k) == 0) (long_within k n v) false)

  -- v with the digit at one place replaced
  abbrev pub changed : Vector F → ℕ → Digit F.size → Vector F
  changed v place d k = cond (k == place) d (v k)

  -- how many digits below n are not 0
  abbrev pub weight : ℕ → Vector F → ℕ
  weight n v = total n (λ k. differing (v k) F.nil)

  -- at how many places below n two vectors differ
  abbrev pub distance : ℕ → Vector F → Vector F → ℕ
  distance n u v = total n (λ k. differing (u k) (v k))

  -- the sum of the products at the places below n
  abbrev pub dot : ℕ → Vector F → Vector F → Digit F.size
  dot n u v = joined F.add F.nil n (λ k. F.mul (u k) (v k))

  -- the product of the digits below n
  abbrev pub product : ℕ → Vector F → Digit F.size
  product n v = joined F.mul F.one n v

-- `place` is the lowest of v's places with a digit that is not 0, and `digit` stands there
pub record Leads (F : Field) (v : Vector F) (place digit : ℕ) : Type 0 where
  pub here : digit ≡ value (v place)
  pub some : v place ≢ F.nil
  pub below : (k : ℕ) → k < place → v k ≡ F.nil
