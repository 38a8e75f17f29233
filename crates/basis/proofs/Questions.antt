-- What rows in normal form leave of a vector, and that they leave nothing exactly of their combinations.
use Rattle.std.proofs.Common.{◌≡◌, ℕ, List, sym, ap, ◌∙◌, subst}
use mathlib.Core.Path.{fun_ext}
use Rattle.algebra.specs.Field.{Field}
use Rattle.algebra.specs.Vector.{Vector, Long}
use Rattle.algebra.specs.Space.{less, Comb}
use Rattle.algebra.specs.NormalForm.{Row, NormalForm, reduced}
use Rattle.algebra.proofs.Combinations.{places, comb_less}
use Rattle.algebra.proofs.Remainders.{clear_comb, reduced_is, remainder_clear, remainder_differs, remainder_long}
use Rattle.basis.specs.Answers.{Remains}

module _ (F : Field) (n : ℕ) (rs : List (Row F)) (vs : List (Vector F)) (form : NormalForm F n rs vs) (v : Vector F) where
  pub remains : (r : Vector F) → Long F n v → r ≡ reduced F rs v → Remains F n rs vs v r
  remains r l e = subst (Remains F n rs vs v) (sym (e ∙ reduced_is F rs form.normal.0 v)) (record {
    long = remainder_long F n rs v form.within l;
    differs = (form.span _).0 (remainder_differs F rs v);
    clear = remainder_clear F rs form.normal.0 v;
  })

  -- nothing is left of a combination, and only of one
  pub all_gone : (r : Vector F) → Remains F n rs vs v r → ((k : ℕ) → r k ≡ F.nil) → Comb F vs v
  all_gone r h z = subst (Comb F vs) (ap (less F v) (fun_ext z) ∙ fun_ext λ k. simp places) h.differs

  pub gone : (r : Vector F) → Remains F n rs vs v r → Comb F vs v → (k : ℕ) → r k ≡ F.nil
  gone r h c k = ap (λ f. f k) (clear_comb F rs form.normal.0 r h.clear ((form.span r).1 (subst (Comb F vs) (fun_ext λ i. simp places) (comb_less F vs v (less F v r) c h.differs))))
