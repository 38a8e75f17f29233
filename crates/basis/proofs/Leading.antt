-- What code reads off a row, as the digits and leads of its vector: the lead, a multiple, a cleared place, the rows taken off so far.
use Rattle.std.proofs.Common.{◌≡◌, ℕ, ◌+◌, ◌<◌, ◌≤◌, List, [], ◌∷◌, ◌++◌, length, get_or, take, sym, refl, ap, ◌∙◌, arith}
use mathlib.Core.Path.{fun_ext}
use native.Mathlib.Decide.{dec_lt}
use Rattle.std.proofs.lemmas.List.{map_more}
use Rattle.algebra.specs.Field.{Field, value, of}
use Rattle.algebra.specs.Vector.{Vector, Leads}
use Rattle.algebra.specs.Space.{times, less}
use Rattle.algebra.specs.NormalForm.{Row, reduced, lead_in, row_in, rows_in}
use Rattle.algebra.proofs.Digits.{of_value}
use Rattle.algebra.proofs.Insertion.{scaled}
use Rattle.algebra.proofs.Leads.{lead_in_some}

module _ (F : Field) where
  open F use {nil, add, mul, neg, inv}

  lead_within : (w p d : ℕ) (f : Vector F) → ((k : ℕ) → w ≤ k → f k ≡ nil) → Leads F f p d → p < w
  lead_within w p d f z l = elim (dec_lt p w) [ yes h ↦ h | no h ↦ absurd (l.some (z p (omega arith))) ]

  pub lead_is : (w p d : ℕ) (f : Vector F) → ((k : ℕ) → w ≤ k → f k ≡ nil) → Leads F f p d → p ≡ lead_in F w f
  lead_is w p d f z l = sym (lead_in_some F w f p (lead_within w p d f z l) (l.some, l.below))

  pub lead_digit : (f : Vector F) (p d : ℕ) → Leads F f p d → d < F.size
  lead_digit f p d l = let h : value (f p) < F.size = (f p).1 in omega (arith, l.here)

  -- the inverse that code finds is the field's
  pub inverse_is : (d i : ℕ) → i ≡ value (inv (of F d)) → of F i ≡ inv (of F d)
  inverse_is d i e = ap (of F) e ∙ of_value F (inv (of F d))

  -- a vector scaled by the inverse of the digit at its lead
  pub monic_is : (f r : Vector F) (p d : ℕ) → Leads F f p d → ((k : ℕ) → r k ≡ mul (inv (of F d)) (f k)) → r ≡ (scaled F f p).at
  monic_is f r p d l h = fun_ext λ k. h k ∙ ap (λ c. mul (inv c) (f k)) (ap (of F) l.here ∙ of_value F (f p))

  -- a vector less the multiple that its digit at a place says
  pub cleared_is : (f by m r : Vector F) (p d : ℕ) → d ≡ value (f p) → ((k : ℕ) → m k ≡ mul (of F d) (by k)) → ((k : ℕ) → r k ≡ add (f k) (neg (m k))) → (k : ℕ) → r k ≡ less F f (times F (f p) by) k
  cleared_is f by m r p d e h g k = g k ∙ ap (λ x. add (f k) (neg x)) (h k ∙ ap (λ c. mul c (by k)) (ap (of F) e ∙ of_value F (f p)))

  reduced_last : (rs : List (Row F)) (r : Row F) (v : Vector F) → reduced F (rs ++ (r ∷ [])) v ≡ less F (reduced F rs v) (times F (reduced F rs v r.lead) r.at)
  reduced_last [] r v = refl
  reduced_last (s ∷ rs) r v = reduced_last rs r _

  -- one row more taken off
  pub reduced_more : (w : ℕ) {X : Type 0} (meant : X → Vector F) (xs : List X) (i p : ℕ) (v u t : Vector F) (x : X) → i < length xs → x ≡ get_or xs i x → p ≡ lead_in F w (meant x) → u ≡ reduced F (rows_in F w meant (take i xs)) v →
      ((k : ℕ) → t k ≡ less F u (times F (u p) (meant x)) k) → t ≡ reduced F (rows_in F w meant (take (i + 1) xs)) v
  reduced_more w meant xs i p v u t x h e l so_far is =
      fun_ext is ∙ ap (λ q. less F u (times F (u q) (meant x))) l ∙ ap (λ f. less F f (times F (f (lead_in F w (meant x))) (meant x))) so_far
      ∙ sym (ap (λ rs. reduced F rs v) (map_more (λ y. row_in F w (meant y)) xs i x h ∙ ap (λ y. rows_in F w meant (take i xs) ++ (row_in F w (meant y) ∷ [])) (sym e))
      ∙ reduced_last (rows_in F w meant (take i xs)) (row_in F w (meant x)) v)
