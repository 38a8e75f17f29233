-- The lead found in a vector itself is the lead of its row in normal form.
use Rattle.std.proofs.Common.{◌≡◌, ℕ, ◌<◌, ◌≤◌, List, [], ◌∷◌, map, sym, refl, ap, ◌∙◌, ap₂, inl, inr, arith}
use native.Mathlib.Decide.{dec_lt}
use Rattle.algebra.specs.Field.{Field}
use Rattle.algebra.specs.Vector.{Vector}
use Rattle.algebra.specs.NormalForm.{Row, vectors, Normal, Within, Lowest, lowest, lead_in, row_in}
use Rattle.algebra.proofs.Ring.{one_is_not_nil}
use Rattle.algebra.proofs.Uniqueness.{same_row}

module _ (F : Field) where
  open F use {nil}

  pub lead_in_none : (w : ℕ) (f : Vector F) → ((k : ℕ) → f k ≡ nil) → lead_in F w f ≡ w
  unfolding lead_in
  lead_in_none w f z = elim (lowest F w f) as (λ d. (elim d [ inl _ ↦ w | inr t ↦ t.0 ]) ≡ w) [ inl _ ↦ refl | inr t ↦ absurd (t.2.0 (z t.0)) ]

  pub lead_in_some : (w : ℕ) (f : Vector F) (p : ℕ) → p < w → Lowest F f p → lead_in F w f ≡ p
  unfolding lead_in
  lead_in_some w f p h l = elim (lowest F w f) as (λ d. (elim d [ inl _ ↦ w | inr t ↦ t.0 ]) ≡ p) [ inl z ↦ absurd (l.0 (z p h)) | inr t ↦ same t ]
    where
      same : (t : (q : ℕ) × (q < w) × Lowest F f q) → t.0 ≡ p
      same t = elim (dec_lt t.0 p) [
        | yes k ↦ absurd (t.2.0 (l.1 t.0 k))
        | no k ↦ elim (dec_lt p t.0) [ yes g ↦ absurd (l.0 (t.2.1 p g)) | no g ↦ omega arith ]
      ]

  -- rows in normal form have the leads that their vectors have
  pub rows_back : (w n : ℕ) → n ≤ w → (rs : List (Row F)) → Normal F rs → Within F n rs → map (row_in F w) (vectors F rs) ≡ rs
  rows_back w n h [] m b = refl
  rows_back w n h (r ∷ rs) (a, o) (b, bs) =
      ap₂ ◌∷◌ (same_row F (row_in F w r.at) r (lead_in_some w r.at r.lead (let k : r.lead < n = b.0 in omega arith) ((λ e. one_is_not_nil F (sym a.0 ∙ e)), o.0)) refl)
      (rows_back w n h rs (a.2, o.2) bs)

  pub vectors_back : (w : ℕ) (fs : List (Vector F)) → vectors F (map (row_in F w) fs) ≡ fs
  vectors_back w [] = refl
  vectors_back w (f ∷ fs) = ap (λ xs. f ∷ xs) (vectors_back w fs)
