-- The normal form of the dual, made of the vectors at the free places: its span, its number of rows, and what equal dot products with it say.
use Rattle.std.proofs.Common.{◌≡◌, ℕ, ◌↔◌, List, [], ◌∷◌, sym, ap, ◌∙◌, ap₂}
use Rattle.algebra.specs.Field.{Field}
use Rattle.algebra.specs.Vector.{Vector, Long, dot}
use Rattle.algebra.specs.Space.{Each, less, Comb, SameSpan, Orthogonal}
use Rattle.algebra.specs.NormalForm.{Row, vectors, Within, NormalForm}
use Rattle.algebra.specs.Dual.{DualForm, duals}
use Rattle.algebra.proofs.Ring.{ring, difference_nil}
use Rattle.algebra.proofs.Each.{each_map, each_of_map, each_from_map}
use Rattle.algebra.proofs.Combinations.{each_itself}
use Rattle.algebra.proofs.Duals.{dual_within_lem, dual_orth, orth_dual, dot_comm, dot_difference, comb_orthogonal}

module _ (F : Field) where
  open F use {nil, add, mul, neg}

  -- orthogonal to some vectors is orthogonal to all that they span
  pub span_orthogonal : (n : ℕ) (us vs : List (Vector F)) → SameSpan F us vs → (u : Vector F) → Orthogonal F n us u → Orthogonal F n vs u
  span_orthogonal n us vs same u o = each_map _ _ vs (λ v k. comb_orthogonal F n us u v o ((same v).1 k)) (each_itself F vs)

  back : (us vs : List (Vector F)) → SameSpan F us vs → SameSpan F vs us
  back us vs same u = ((same u).1, (same u).0)

  -- combinations of vectors of length n have length n
  pub comb_long : (n : ℕ) (vs : List (Vector F)) (u : Vector F) → Each (Long F n) vs → Comb F vs u → Long F n u
  comb_long n [] u l k i h = ap (λ f. f i) k
  comb_long n (v ∷ vs) u (l, ls) (c, k) i h = difference_nil F _ _ (comb_long n vs _ ls k i h) ∙ ap (mul c) (l i h) ∙ simp ring

  rows_long : (n : ℕ) (rs : List (Row F)) → Within F n rs → Each (Long F n) (vectors F rs)
  rows_long n rs w = each_of_map (Long F n) (λ r. r.at) rs (each_map _ _ rs (λ r e. e.1) w)

  module _ (n : ℕ) (rs : List (Row F)) (vs : List (Vector F)) (form : NormalForm F n rs vs) where
    to_rows : (u : Vector F) → Orthogonal F n vs u → Each (λ r. dot F n u r.at ≡ nil) rs
    to_rows u o = each_from_map (λ v. dot F n u v ≡ nil) (λ r. r.at) rs (span_orthogonal n vs (vectors F rs) (back _ _ form.span) u o)

    from_rows : (u : Vector F) → Each (λ r. dot F n u r.at ≡ nil) rs → Orthogonal F n vs u
    from_rows u o = span_orthogonal n (vectors F rs) vs form.span u (each_of_map (λ v. dot F n u v ≡ nil) (λ r. r.at) rs o)

    -- the vectors at the free places span the dual
    pub dual_orthogonal : (u : Vector F) → Long F n u → Orthogonal F n vs u ↔ Comb F (vectors F (duals F n rs)) u
    dual_orthogonal u l = (
      (λ o. (dual_orth F n rs form.normal.0 form.within u l).0 (to_rows u o)),
      (λ k. from_rows u ((dual_orth F n rs form.normal.0 form.within u l).1 k)),
    )

    -- the normal form of the vectors at the free places is that of the dual
    pub dual_form : (os : List (Row F)) → NormalForm F n os (vectors F (duals F n rs)) → DualForm F n os vs
    dual_form os h = record {
      normal = h.normal;
      within = h.within;
      span = λ u. (
        (λ k. let l : Long F n u = comb_long n (vectors F os) u (rows_long n os h.within) k in
            (l, from_rows u ((dual_orth F n rs form.normal.0 form.within u l).1 ((h.span u).0 k)))),
        (λ t. (h.span u).1 ((dual_orth F n rs form.normal.0 form.within u t.0).0 (to_rows u t.1))),
      );
    }

    module _ (os : List (Row F)) (h : DualForm F n os vs) where
      same_dual : SameSpan F (vectors F os) (vectors F (duals F n rs))
      same_dual u = (
        (λ k. let t = (h.span u).0 k in (dual_orth F n rs form.normal.0 form.within u t.0).0 (to_rows u t.1)),
        (λ k. let l : Long F n u = comb_long n (vectors F (duals F n rs)) u (rows_long n (duals F n rs) (dual_within_lem F n rs form.within)) k in
            (h.span u).1 (l, from_rows u ((dual_orth F n rs form.normal.0 form.within u l).1 k))),
      )

      -- the dual of the dual: orthogonal to its rows are the combinations of vs
      pub double_dual : (u : Vector F) → Long F n u → Orthogonal F n (vectors F os) u ↔ Comb F vs u
      double_dual u l = (
        (λ o. (form.span u).0 ((orth_dual F n rs form.normal.0 form.within u l).0
            (each_from_map (λ v. dot F n u v ≡ nil) (λ r. r.at) (duals F n rs) (span_orthogonal n (vectors F os) (vectors F (duals F n rs)) same_dual u o)))),
        (λ k. span_orthogonal n (vectors F (duals F n rs)) (vectors F os) (back _ _ same_dual) u
            (each_of_map (λ v. dot F n u v ≡ nil) (λ r. r.at) (duals F n rs) ((orth_dual F n rs form.normal.0 form.within u l).1 ((form.span u).1 k)))),
      )

      -- equal dot products with the dual's rows: the difference is a combination of vs
      pub same_syndromes : (u v : Vector F) → Long F n u → Long F n v → Each (λ o. dot F n u o ≡ dot F n v o) (vectors F os) ↔ Comb F vs (less F u v)
      same_syndromes u v b c = (
        (λ e. (double_dual (less F u v) long).0 (each_map _ _ (vectors F os) (λ o q. split o ∙ ap (λ t. add t (neg (dot F n v o))) q ∙ simp ring) e)),
        (λ k. each_map _ _ (vectors F os) (λ o q. difference_nil F _ _ (sym (split o) ∙ q)) ((double_dual (less F u v) long).1 k)),
      )
        where
          long : Long F n (less F u v)
          long i k = ap₂ (λ x y. add x (neg y)) (b i k) (c i k) ∙ simp ring

          split : (o : Vector F) → dot F n (less F u v) o ≡ add (dot F n u o) (neg (dot F n v o))
          split o = dot_comm F n (less F u v) o ∙ dot_difference F n o u v ∙ ap₂ (λ x y. add x (neg y)) (dot_comm F n o u) (dot_comm F n o v)
