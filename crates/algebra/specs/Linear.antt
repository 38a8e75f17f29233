-- What linear algebra over a small field promises, in one record.
use Rattle.std.specs.Prelude.{◌≡◌, ℕ, ◌+◌, ◌↔◌, List, ◌∷◌, length}
use Rattle.algebra.specs.Field.{Field, Digit}
use Rattle.algebra.specs.Vector.{Vector, Long}
use Rattle.algebra.specs.Space.{less, Comb, combination, SameSpan, Orthogonal}
use Rattle.algebra.specs.NormalForm.{Row, vectors, Apart, Normal, NormalForm, Clear, remainder}
use Rattle.algebra.specs.Dual.{DualForm, duals}

pub record LinearLaws (F : Field) : Type 0 where
  -- a combination is a sum of the vectors, each times a digit
  pub sums : (vs : List (Vector F)) (v : Vector F) → Comb F vs v ↔ ((cs : List (Digit F.size)) × (length cs ≡ length vs) × (v ≡ combination F cs vs))
  -- the remainder by rows in normal form is the one vector that differs by a combination and holds 0 at every lead
  pub remains : (rs : List (Row F)) → Normal F rs → (v : Vector F) → Comb F (vectors F rs) (less F v (remainder F rs v)) × Clear F rs (remainder F rs v)
  pub remains_only : (rs : List (Row F)) → Normal F rs → (v r : Vector F) → Comb F (vectors F rs) (less F v r) → Clear F rs r → r ≡ remainder F rs v
  -- rows in normal form are determined by what they span
  pub unique : (rs ss : List (Row F)) → Normal F rs → Normal F ss → SameSpan F (vectors F rs) (vectors F ss) → rs ≡ ss
  -- rows in normal form with one vector more have a normal form
  pub inserted : (n : ℕ) (rs : List (Row F)) (vs : List (Vector F)) (v : Vector F) → NormalForm F n rs vs → Long F n v → (ss : List (Row F)) × NormalForm F n ss (v ∷ vs)
  -- one vector for each place that is no lead spans the dual; they are independent, and as many as places are left over
  pub dual : (n : ℕ) (rs : List (Row F)) (vs : List (Vector F)) → NormalForm F n rs vs → (u : Vector F) → Long F n u → Orthogonal F n vs u ↔ Comb F (vectors F (duals F n rs)) u
  pub dual_number : (n : ℕ) (rs : List (Row F)) (vs : List (Vector F)) → NormalForm F n rs vs → Apart F (duals F n rs) × (length (duals F n rs) + length rs ≡ n)
  -- orthogonal to the dual are the combinations alone
  pub double_dual : (n : ℕ) (rs ds : List (Row F)) (vs : List (Vector F)) → NormalForm F n rs vs → DualForm F n ds vs → (u : Vector F) → Long F n u → Orthogonal F n (vectors F ds) u ↔ Comb F vs u
