-- The dual's vectors at the free places, as code finds them and takes them in.
use Rattle.std.proofs.Common.{◌≡◌, ℕ, ◌+◌, ◌<◌, ◌≤◌, cond, List, [], ◌∷◌, ◌++◌, length, get_or, take, drop, Ok, Err, ◌⊎◌, Result, MatchResult, sym, refl, ap, ◌∙◌, subst, ap₂, inl, inr, add-one, arith, eq-eqb, ne_eqb}
use mathlib.Core.Path.{fun_ext}
use native.Mathlib.Decide.{ℕ_discrete}
use Rattle.std.proofs.lemmas.List.{map_more, length-map}
use Rattle.algebra.specs.Field.{Field, value, of}
use Rattle.algebra.specs.Vector.{Vector, Long, changed}
use Rattle.algebra.specs.Space.{Each, Comb}
use Rattle.algebra.specs.NormalForm.{vectors, NormalForm, row_in}
use Rattle.algebra.specs.Dual.{unit, Free, dual_at, duals}
use Rattle.algebra.proofs.Digits.{of_value, of_one}
use Rattle.algebra.proofs.Each.{each_map}
use Rattle.algebra.proofs.Duals.{leads_below, dual_at_last, dual_at_long, dual_length, dual_new, duals_free, duals_lead, duals_fewer}
use Rattle.algebra.proofs.DualForms.{dual_form}
use Rattle.std.specs.Result.{result_unwrap_or}
use Rattle.coding.specs.declared.vectors.Coding.{Ghosts as Coding}
use Rattle.coding.specs.Refusals.{number_of}
use Rattle.coding.specs.declared.refusals.Refusal.{Refusal}
use Rattle.basis.specs.Form.{Form, lead_of, meant_rows}
use Rattle.basis.specs.Inserted.{Moved, After}
use Rattle.basis.specs.Answers.{WroteDual}
use Rattle.basis.specs.declared.taken.Taken.{Taken}
use Rattle.basis.specs.declared.taken.Taken.TheVariants.{Known, Grown}
use Rattle.basis.proofs.Placing.{same_later}

module _ (F : Field) where
  open F use {nil, one}

  -- zero with one digit 1 is the unit vector
  pub unit_is : (f z : Vector F) (p : ℕ) → ((k : ℕ) → z k ≡ nil) → ((k : ℕ) → f k ≡ changed F z p (of F 1) k) → (k : ℕ) → f k ≡ unit F p k
  unit_is f z p zero is k = is k ∙ elim (ℕ_discrete k p) as (λ d. changed F z p (of F 1) k ≡ (elim d [ yes _ ↦ one | no _ ↦ nil ])) [
    | yes e ↦ ap (λ b. cond b (of F 1) (z k)) (eq-eqb k p e) ∙ of_one F
    | no e ↦ ap (λ b. cond b (of F 1) (z k)) (ne_eqb k p e) ∙ zero k
  ]

module _ {X : Type 0} (C : Coding X) where
  -- and is what code gets, since a digit 1 within the width is not refused
  pub unit_or : (p : ℕ) (r : Result X Refusal) (y z : X) → ((k : ℕ) → C.meant y k ≡ C.field.nil) →
      MatchResult r (λ x. (p < C.width) × (1 < C.field.size) × ((k : ℕ) → C.meant x k ≡ changed C.field (C.meant y) p (of C.field 1) k) × C.canonical x) (λ e. ((number_of e ≡ 9) × (C.width ≤ p)) ⊎ ((number_of e ≡ 10) × (p < C.width) × (C.field.size ≤ 1))) →
      p < C.width → (k : ℕ) → C.meant (result_unwrap_or r z) k ≡ unit C.field p k
  unit_or p (Ok x) y z zero changed h = unit_is C.field (C.meant x) (C.meant y) p zero changed.2
  unit_or p (Err e) y z zero why h = absurd (elim why [ inl b ↦ omega (arith, b.1) | inr b ↦ omega (arith, b.2, C.field.big) ])

  rows_more : (xs : List X) (i : ℕ) (x : X) → i < length xs → x ≡ get_or xs i x → meant_rows C (take (i + 1) xs) ≡ meant_rows C (take i xs) ++ (row_in C.field C.width (C.meant x) ∷ [])
  rows_more xs i x h e = map_more (λ y. row_in C.field C.width (C.meant y)) xs i x h ∙ ap (λ y. meant_rows C (take i xs) ++ (row_in C.field C.width (C.meant y) ∷ [])) (sym e)

  -- one row more taken off at its lead
  pub dual_more : (xs : List X) (i p d : ℕ) (x : X) (v u m t : Vector C.field) → i < length xs → x ≡ get_or xs i x → v ≡ dual_at C.field (meant_rows C (take i xs)) p → d ≡ value (C.meant x p) →
      ((k : ℕ) → u k ≡ unit C.field (lead_of C x) k) → ((k : ℕ) → m k ≡ C.field.mul (of C.field d) (u k)) → ((k : ℕ) → t k ≡ C.field.add (v k) (C.field.neg (m k))) → t ≡ dual_at C.field (meant_rows C (take (i + 1) xs)) p
  dual_more xs i p d x v u m t h e so_far digit at_lead multiple difference =
      fun_ext (λ k. difference k ∙ ap₂ (λ a b. C.field.add a (C.field.neg b)) (ap (λ f. f k) so_far) (multiple k ∙ ap₂ C.field.mul (ap (of C.field) digit ∙ of_value C.field (C.meant x p)) (at_lead k)))
      ∙ sym (ap (λ rs. dual_at C.field rs p) (rows_more xs i x h e) ∙ dual_at_last C.field (meant_rows C (take i xs)) (row_in C.field C.width (C.meant x)) p)

  -- the vectors at the free places below a place are taken in
  module _ (n : ℕ) (rows old : List X) where
    abbrev pub Begun : (place count : ℕ) → List X → Type 0
    Begun place count new =
        (vs : List (Vector C.field)) → n ≤ C.width → NormalForm C.field n (meant_rows C rows) vs → n ≤ length old + length rows →
        (count ≡ length (duals C.field place (meant_rows C rows))) × Form C n count new (vectors C.field (duals C.field place (meant_rows C rows))) × (drop count new ≡ drop count old)

    pub passed : (place count : ℕ) (new : List X) → (Free C.field (meant_rows C rows) place → ⊥) → Begun place count new → Begun (place + 1) count new
    passed place count new lead b vs fits form room =
        let t = b vs fits form room in
        let e : duals C.field (place + 1) (meant_rows C rows) ≡ duals C.field place (meant_rows C rows) = ap (λ p. duals C.field p (meant_rows C rows)) (add-one place) ∙ duals_lead C.field place (meant_rows C rows) lead in (
          t.0 ∙ ap length (sym e),
          subst (λ ds. Form C n count new (vectors C.field ds)) (sym e) t.1,
          t.2,
        )

    -- the vector at a free place is always one row more
    module _ (place count : ℕ) (mid new : List X) (x : X) (r : Result Taken Refusal) (below : place < n) (free : Free C.field (meant_rows C rows) place) (b : Begun place count mid)
        (is : place < C.width → Each (λ s. s.lead < C.width) (meant_rows C rows) → C.meant x ≡ dual_at C.field (meant_rows C rows) place)
        (same : length mid ≡ length old)
        (after : (m : ℕ) (vs : List (Vector C.field)) → Long C.field m (C.meant x) → Form C m count mid vs → After C m count new vs (C.meant x) r)
        (moved : Moved count mid new r)
        (vs : List (Vector C.field)) (fits : n ≤ C.width) (form : NormalForm C.field n (meant_rows C rows) vs) (room : n ≤ length old + length rows) where
      more : duals C.field (place + 1) (meant_rows C rows) ≡ (record { lead = place; at = dual_at C.field (meant_rows C rows) place } ∷ duals C.field place (meant_rows C rows))
      more = ap (λ p. duals C.field p (meant_rows C rows)) (add-one place) ∙ duals_free C.field place (meant_rows C rows) free

      vector : C.meant x ≡ dual_at C.field (meant_rows C rows) place
      vector = is (omega arith) (each_map _ _ (meant_rows C rows) (λ r l. omega arith) (leads_below C.field n (meant_rows C rows) form.within))

      now_after : After C n count new (vectors C.field (duals C.field place (meant_rows C rows))) (C.meant x) r
      now_after = after n _ (subst (Long C.field n) (sym vector) (dual_at_long C.field n (meant_rows C rows) place below form.within)) (b vs fits form room).1

      counted : length (duals C.field (place + 1) (meant_rows C rows)) ≡ count + 1
      counted = ap length more ∙ omega (arith, (b vs fits form room).0)

      enough : count < length mid
      enough = omega (arith, counted, duals_fewer C.field (place + 1) n (meant_rows C rows) (omega arith), dual_length C.field n (meant_rows C rows) form.normal.1 form.within, length-map rows (λ y. row_in C.field C.width (C.meant y)))

      pub always_grown : r ≡ Ok Grown
      always_grown = which r refl
        where
          which : (t : Result Taken Refusal) → r ≡ t → t ≡ Ok Grown
          which (Ok Known) e = absurd (dual_new C.field place (meant_rows C rows) free (subst (Comb C.field _) vector (subst (After C n count new _ (C.meant x)) e now_after).0))
          which (Ok Grown) e = refl
          which (Err refusal) e = absurd (omega (arith, enough, (subst (Moved count mid new) e moved).1))

      pub grown_more : (count + 1 ≡ length (duals C.field (place + 1) (meant_rows C rows))) × Form C n (count + 1) new (vectors C.field (duals C.field (place + 1) (meant_rows C rows))) × (drop (count + 1) new ≡ drop (count + 1) old)
      grown_more = (
        sym counted,
        subst (Form C n (count + 1) new) (ap (λ v. v ∷ vectors C.field (duals C.field place (meant_rows C rows))) vector ∙ ap (vectors C.field) (sym more)) (subst (After C n count new _ (C.meant x)) always_grown now_after).2,
        (subst (Moved count mid new) always_grown moved).1 ∙ same_later count (count + 1) old mid (omega arith) (b vs fits form room).2,
      )

    -- at the end they are the whole dual's normal form
    pub written : (count : ℕ) (new : List X) → Begun n count new → (vs : List (Vector C.field)) → n ≤ C.width → NormalForm C.field n (meant_rows C rows) vs → n ≤ length old + length rows →
        WroteDual C n (length rows) vs old new count
    written count new b vs fits form room = let t = b vs fits form room in record {
      number = omega (arith, t.0, dual_length C.field n (meant_rows C rows) form.normal.1 form.within, length-map rows (λ y. row_in C.field C.width (C.meant y)));
      room = t.1.room;
      form = dual_form C.field n (meant_rows C rows) vs form (meant_rows C (take count new)) t.1.normal;
      stored = t.1.stored;
      rest = t.2;
    }
