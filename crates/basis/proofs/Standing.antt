-- A basis through its calls: what it answers where it was made, and what it stands for afterwards.
use Rattle.std.proofs.Common.{◌≡◌, ℕ, ◌+◌, ◌<◌, ◌≤◌, List, ◌∷◌, ◌++◌, length, take, drop, Ok, sym, refl, ap, ◌∙◌, subst, inl, inr, arith, length-append, length-drop}
use Rattle.std.specs.List.{AllWithin}
use Rattle.std.proofs.lemmas.List.{get_or-take, get_or_append_left, length-take-le, take-append-le, take-append-drop, take-take}
use Rattle.algebra.specs.Vector.{Vector, zeros}
use Rattle.algebra.specs.NormalForm.{NormalForm}
use Rattle.coding.specs.declared.vectors.Coding.{Ghosts as Coding}
use Rattle.basis.specs.declared.taken.Taken.{Taken}
use Rattle.basis.specs.declared.taken.Taken.TheVariants.{Known, Grown}
use Rattle.basis.specs.Answers.{Tells}
use Rattle.basis.specs.Form.{Form, Rows, meant_rows}
use Rattle.basis.specs.Inserted.{Moved, After}
use Rattle.basis.proofs.Placing.{same_from}

module _ {X : Type 0} (C : Coding X) where
  -- the first n rows hold what all of them do
  pub part_form : (n rank m : ℕ) (rows : List X) (vs : List (Vector C.field)) → rank ≤ m → m ≤ length rows → Form C n rank rows vs → Form C n rank (take m rows) vs
  part_form n rank m rows vs h l f = record {
    fits = f.fits;
    room = omega (arith, length-take-le m rows l);
    normal = subst (λ xs. NormalForm C.field n (meant_rows C xs) vs) (sym (take-take rank m rows h)) f.normal;
    stored = λ i d low high. subst C.canonical (sym (get_or-take m rows i d (omega arith))) (f.stored i d low high);
  }

  -- what the first rows hold, all do
  whole_form : (n rank : ℕ) (part rest : List X) (vs : List (Vector C.field)) → Form C n rank part vs → Form C n rank (part ++ rest) vs
  whole_form n rank part rest vs f = let enough = f.room in record {
    fits = f.fits;
    room = omega (arith, enough, length-append part rest);
    normal = subst (λ xs. NormalForm C.field n (meant_rows C xs) vs) (sym (take-append-le rank part rest enough)) f.normal;
    stored = λ i d low high. subst C.canonical (sym (get_or_append_left part rest d i (omega arith))) (f.stored i d low high);
  }

  -- the first n of the old rows are now `part`, with what one vector more came to
  module _ (n rank : ℕ) (old part : List X) (vs : List (Vector C.field)) (v : Vector C.field) (h : Rows C n rank old vs) where
    known_rows : part ≡ take n old → Form C n rank part (v ∷ vs) → Rows C n rank (part ++ drop n old) (v ∷ vs)
    known_rows e f = record {
      some = h.some;
      ranked = h.ranked;
      room = subst (λ xs. n ≤ length xs) (sym same) h.room;
      form = whole_form n rank part (drop n old) (v ∷ vs) f;
      rest = subst (λ xs. AllWithin (λ x. (C.meant x ≡ zeros C.field) × C.canonical x) xs rank n) (sym same) h.rest;
    }
      where
        same : part ++ drop n old ≡ old
        same = ap (λ xs. xs ++ drop n old) e ∙ take-append-drop n old

    -- one row more holds what was taken in
    grown_rows : rank < n → drop (rank + 1) part ≡ drop (rank + 1) (take n old) → length part ≡ n → Form C n (rank + 1) part (v ∷ vs) → Rows C n (rank + 1) (part ++ drop n old) (v ∷ vs)
    grown_rows r e l f = record {
      some = h.some;
      ranked = omega arith;
      room = omega (arith, l, length-append part (drop n old), length-drop n old, h.room);
      form = whole_form n (rank + 1) part (drop n old) (v ∷ vs) f;
      rest = λ i d low high. subst (λ x. (C.meant x ≡ zeros C.field) × C.canonical x)
          (sym (get_or_append_left part (drop n old) d i (omega (arith, l)) ∙ same_from (rank + 1) i d (take n old) part low e ∙ get_or-take n old i d high)) (h.rest i d (omega arith) high);
    }

    pub known_taken : (t : Taken) → (t ≡ Grown → ⊥) → After C n rank part vs v (Ok t) → Moved rank (take n old) part (Ok t) → Tells C.field vs v t × Rows C n rank (part ++ drop n old) (v ∷ vs)
    known_taken Known other after moved = (inl (refl, after.0), known_rows moved after.1)
    known_taken Grown other after moved = absurd (other refl)

    pub grown_taken : (t : Taken) → t ≡ Grown → length part ≡ length (take n old) → After C n rank part vs v (Ok t) → Moved rank (take n old) part (Ok t) → Tells C.field vs v t × Rows C n (rank + 1) (part ++ drop n old) (v ∷ vs)
    grown_taken Known e same after moved = absurd (cc e)
    grown_taken Grown e same after moved = (inr (refl, after.0), grown_rows after.1 moved.1 (same ∙ length-take-le n old h.room) after.2)

    -- there is a row for a rank below the length
    pub never_full : rank < n → length (take n old) ≤ rank → ⊥
    never_full r full = omega (arith, length-take-le n old h.room)
