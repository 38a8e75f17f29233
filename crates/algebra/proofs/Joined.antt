-- Laws of what is joined over the places below n.
use Rattle.std.proofs.Common.{◌≡◌, ℕ, zero, suc, ◌+◌, ◌<◌, ◌≤◌, refl, ap, ◌∙◌, ap₂, inl, inr, not-suc-le-zero, arith}
use Rattle.std.proofs.lemmas.Bool.{cases_lt}
use Rattle.algebra.specs.Vector.{joined, total}

pub joined_same : {X : Type 0} (op : X → X → X) (start : X) (n : ℕ) (f g : ℕ → X) → ((k : ℕ) → k < n → f k ≡ g k) → joined op start n f ≡ joined op start n g
unfolding joined
joined_same op start zero f g h = refl
joined_same op start (suc n) f g h = ap₂ op (joined_same op start n f g (λ k l. h k (omega arith))) (h n (omega arith))

-- places from n on that join in nothing may be left out
pub joined_fewer : {X : Type 0} (op : X → X → X) (start none : X) → ((x : X) → op x none ≡ x)
    → (n m : ℕ) → n ≤ m → (f : ℕ → X) → ((k : ℕ) → n ≤ k → f k ≡ none)
    → joined op start m f ≡ joined op start n f
unfolding joined
joined_fewer op start none leaves zero zero h f e = refl
joined_fewer op start none leaves (suc n) zero h f e = absurd (not-suc-le-zero h)
joined_fewer op start none leaves n (suc m) h f e = elim (cases_lt m n) [
  | inl l ↦ (let same : suc m ≡ n = omega arith in ap (λ k. joined op start k f) same)
  | inr l ↦ ap₂ op (joined_fewer op start none leaves n m l f e) (e m l) ∙ leaves (joined op start n f)
]

pub total_first : (n : ℕ) (f : ℕ → ℕ) → total (suc n) f ≡ f 0 + total n (λ k. f (suc k))
unfolding joined
total_first zero f = omega arith
total_first (suc n) f = let i = total_first n f in omega (arith, i)

pub total_add : (n : ℕ) (f g : ℕ → ℕ) → total n (λ k. f k + g k) ≡ total n f + total n g
unfolding joined
total_add zero f g = refl
total_add (suc n) f g = let i = total_add n f g in omega (arith, i)

-- a number that counts places is at most their number
pub total_most : (n : ℕ) (f : ℕ → ℕ) → ((k : ℕ) → f k ≤ 1) → total n f ≤ n
unfolding joined
total_most zero f h = omega arith
total_most (suc n) f h = omega (arith, total_most n f h, h n)
