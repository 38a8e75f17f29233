-- The dual of a space: all vectors of length n whose dot product with each of its vectors is 0.
use Rattle.std.specs.Prelude.{◌≡◌, ℕ, zero, suc, ◌≢◌, ◌⊎◌, ◌↔◌, List, [], ◌∷◌}
use Rattle.std.proofs.Common.{inl, inr}
use Rattle.std.proofs.Math.Decide.{ℕ_discrete}
use Rattle.algebra.specs.Field.{Field}
use Rattle.algebra.specs.Vector.{Vector, Long}
use Rattle.algebra.specs.Space.{Each, times, less, Comb, Orthogonal}
use Rattle.algebra.specs.NormalForm.{Row, vectors, Normal, Within}

-- the rows are the normal form of the dual of what vs span within length n
pub record DualForm (F : Field) (n : ℕ) (rs : List (Row F)) (vs : List (Vector F)) : Type 0 where
  pub normal : Normal F rs
  pub within : Within F n rs
  pub span : (u : Vector F) → Comb F (vectors F rs) u ↔ (Long F n u × Orthogonal F n vs u)

-- how it is found: one vector for each place that is no lead
module _ (F : Field) where
  abbrev pub unit : ℕ → Vector F
  unit p k = elim (ℕ_discrete k p) [ yes _ ↦ F.one | no _ ↦ F.nil ]

  -- a place that is no lead, or is one
  abbrev pub Free : List (Row F) → ℕ → Type 0
  Free rs p = Each (λ r. r.lead ≢ p) rs

  abbrev pub IsLead : List (Row F) → ℕ → Type 0
  IsLead [] p = ⊥
  IsLead (r ∷ rs) p = (r.lead ≡ p) ⊎ IsLead rs p

  abbrev pub free? : (rs : List (Row F)) (p : ℕ) → Free rs p ⊎ IsLead rs p
  free? [] p = inl tt
  free? (r ∷ rs) p = elim (ℕ_discrete r.lead p) [
    | yes e ↦ inr (inl e)
    | no h ↦ elim (free? rs p) [ inl f ↦ inl (h, f) | inr l ↦ inr (inr l) ]
  ]

  -- 1 at p, and at each row's lead the negation of the row's digit at p
  abbrev pub dual_at : List (Row F) → ℕ → Vector F
  dual_at [] p = unit p
  dual_at (r ∷ rs) p = less F (dual_at rs p) (times F (r.at p) (unit r.lead))

  -- one for each free place below n, the highest first
  abbrev pub duals : ℕ → List (Row F) → List (Row F)
  duals zero rs = []
  duals (suc n) rs = elim (free? rs n) [ inl _ ↦ record { lead = n; at = dual_at rs n } ∷ duals n rs | inr _ ↦ duals n rs ]
