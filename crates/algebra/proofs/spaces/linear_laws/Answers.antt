-- Each law where it is proved.
use Rattle.std.proofs.Common.{ℕ, List, ◌∷◌, refl, inl, inr, arith}
use mathlib.Core.Path.{fun_ext}
use native.Mathlib.Decide.{dec_lt}
use Rattle.algebra.specs.Field.{Field}
use Rattle.algebra.specs.Vector.{Vector, Long}
use Rattle.algebra.specs.NormalForm.{Row, NormalForm, remainder, lowest}
use Rattle.algebra.specs.Linear.{LinearLaws}
use Rattle.algebra.proofs.Combinations.{comb_to_sum, comb_from_sum}
use Rattle.algebra.proofs.Remainders.{remainder_differs, remainder_clear, remainder_only, remainder_of_comb, remainder_long}
use Rattle.algebra.proofs.Uniqueness.{unique}
use Rattle.algebra.proofs.Insertion.{known_form, grown_form, insert, scaled}
use Rattle.algebra.proofs.Duals.{dual_apart, dual_length}
use Rattle.algebra.proofs.DualForms.{dual_orthogonal, double_dual}
use Rattle.algebra.proofs.spaces.linear_laws.Goals as goal

one_more : (F : Field) (n : ℕ) (rs : List (Row F)) (vs : List (Vector F)) (v : Vector F) → NormalForm F n rs vs → Long F n v → (ss : List (Row F)) × NormalForm F n ss (v ∷ vs)
one_more F n rs vs v form long = elim (lowest F n (remainder F rs v)) [
  | inl z ↦ (rs, known_form F n rs vs v form ((remainder_of_comb F rs form.normal.0 v).1 (fun_ext λ k. elim (dec_lt k n) [ yes h ↦ z k h | no h ↦ remainder_long F n rs v form.within long k (omega arith) ])))
  | inr t ↦ (insert F (scaled F (remainder F rs v) t.0) rs, grown_form F n rs vs v t.0 form long t.1 t.2)
]

laws : (F : Field) → LinearLaws F
laws F = record {
  sums = λ vs v. (comb_to_sum F vs v, (λ t. comb_from_sum F vs v t.0 t.2));
  remains = λ rs n v. (remainder_differs F rs v, remainder_clear F rs n.0 v);
  remains_only = λ rs n. remainder_only F rs n.0;
  unique = unique F;
  inserted = one_more F;
  dual = dual_orthogonal F;
  dual_number = λ n rs vs form. (dual_apart F n rs, dual_length F n rs form.normal.1 form.within);
  double_dual = λ n rs ds vs form dual. double_dual F n rs vs form ds dual;
}

pub returns : goal.returns
returns c = record { count = refl; laws = laws }
