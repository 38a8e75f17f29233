-- Rows in normal form (reduced row echelon form), what they leave of a vector, and the lead found in a vector itself.
use Rattle.std.specs.Prelude.{◌≡◌, ℕ, zero, suc, ◌<◌, ◌≢◌, ◌⊎◌, List, [], ◌∷◌, map}
use Rattle.std.proofs.Common.{◌∙◌, ap, inl, inr, arith}
use Rattle.std.proofs.Math.Decide.{ℕ_discrete, Fin-discrete}
use Rattle.algebra.specs.Field.{Field}
use Rattle.algebra.specs.Vector.{Vector, Long}
use Rattle.algebra.specs.Space.{Each, less, times, SameSpan}

-- a vector with the place of its lead
pub record Row (F : Field) : Type 0 where
  pub lead : ℕ
  pub at : Vector F

module _ (F : Field) where
  abbrev pub vectors : List (Row F) → List (Vector F)
  vectors rs = map (λ r. r.at) rs

  -- each lead holds 1 in its own row and 0 in the others
  abbrev pub Apart : List (Row F) → Type 0
  Apart [] = Unit {0}
  Apart (r ∷ rs) = (r.at r.lead ≡ F.one) × Each (λ s. (r.at s.lead ≡ F.nil) × (s.at r.lead ≡ F.nil)) rs × Apart rs

  -- each lead is its row's lowest place that does not hold 0, and leads rise from row to row
  abbrev pub Rising : List (Row F) → Type 0
  Rising [] = Unit {0}
  Rising (r ∷ rs) = ((k : ℕ) → k < r.lead → r.at k ≡ F.nil) × Each (λ s. r.lead < s.lead) rs × Rising rs

  abbrev pub Normal : List (Row F) → Type 0
  Normal rs = Apart rs × Rising rs

  -- rows of length n, with leads below n
  abbrev pub Within : ℕ → List (Row F) → Type 0
  Within n rs = Each (λ r. (r.lead < n) × Long F n r.at) rs

  -- the rows are the normal form, within length n, of the vectors
  pub record NormalForm (n : ℕ) (rs : List (Row F)) (vs : List (Vector F)) : Type 0 where
    pub normal : Normal rs
    pub within : Within n rs
    pub span : SameSpan F (vectors rs) vs

  -- every lead holds 0
  abbrev pub Clear : List (Row F) → Vector F → Type 0
  Clear rs v = Each (λ r. v r.lead ≡ F.nil) rs

  -- v less, for each row, the row times the digit of v at the row's lead
  abbrev pub remainder : List (Row F) → Vector F → Vector F
  remainder [] v = v
  remainder (r ∷ rs) v = less F (remainder rs v) (times F (v r.lead) r.at)

  -- the same, one row after another, each by the digit that the rows before it have left
  abbrev pub reduced : List (Row F) → Vector F → Vector F
  reduced [] v = v
  reduced (r ∷ rs) v = reduced rs (less F v (times F (v r.lead) r.at))

  -- p is the lowest place where v does not hold 0
  abbrev pub Lowest : Vector F → ℕ → Type 0
  Lowest v p = (v p ≢ F.nil) × ((k : ℕ) → k < p → v k ≡ F.nil)

  -- the lowest place below n that does not hold 0, if there is one
  abbrev pub lowest : (n : ℕ) (v : Vector F) → ((k : ℕ) → k < n → v k ≡ F.nil) ⊎ ((p : ℕ) × (p < n) × Lowest v p)
  lowest zero v = inl (λ k h. absurd (omega arith))
  lowest (suc n) v = elim (lowest n v) [
    | inl z ↦ elim (Fin-discrete F.size (v n) F.nil) [
      | yes e ↦ inl (λ k h. elim (ℕ_discrete k n) [ yes q ↦ ap v q ∙ e | no q ↦ z k (omega arith) ])
      | no e ↦ inr (n, omega arith, (e, z))
    ]
    | inr t ↦ inr (t.0, (let h : t.0 < n = t.1 in omega arith), t.2)
  ]

  -- the place of a vector's lead, and the width where there is none
  unfoldable pub lead_in : (width : ℕ) → Vector F → ℕ
  lead_in width v = elim (lowest width v) [ inl _ ↦ width | inr t ↦ t.0 ]

  abbrev pub row_in : (width : ℕ) → Vector F → Row F
  row_in width v = record { lead = lead_in width v; at = v }

  -- stored vectors, each as a row with its lead
  abbrev pub rows_in : (width : ℕ) {X : Type 0} → (X → Vector F) → List X → List (Row F)
  rows_in width meant xs = map (λ x. row_in width (meant x)) xs
