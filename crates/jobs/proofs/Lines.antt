-- The lines of an opened sheet, taken into a basis one after another.
use Rattle.std.proofs.Common.{◌≡◌, ℕ, ◌+◌, ◌<◌, ◌≤◌, ◌⊎◌, List, [], ◌∷◌, map, reverse, length, get_or, take, Ok, Err, Result, sym, refl, ap, ◌∙◌, subst, subst₂, inl, inr, arith, MatchResult}
use mathlib.Core.Path.{fun_ext}
use native.Mathlib.Decide.{dec_lt}
use Rattle.std.proofs.lemmas.List.{get_or_past, map_more, reverse-append, take_all}
use Rattle.std.proofs.lemmas.Result.{MatchResult-at_err, MatchResult-at_ok}
use Rattle.algebra.specs.Field.{Field, of}
use Rattle.algebra.specs.Vector.{Vector, Long}
use Rattle.algebra.proofs.Digits.{of_nil}
use Rattle.coding.specs.declared.vectors.Coding.{Ghosts as Coding}
use Rattle.coding.specs.Refusals.{number_of}
use Rattle.coding.specs.declared.refusals.Refusal.{Refusal}
use Rattle.basis.specs.declared.bases.Basis.{Basis}
use Rattle.basis.specs.declared.taken.Taken.{Taken}
use Rattle.coding.specs.Makings.{Unless}
use Rattle.basis.specs.Answers.{NotMade, Beyond, Tells}
use Rattle.basis.specs.Form.{Rows}
use Rattle.basis.specs.Stands.{Stands, Kept, NoRoom}
use Rattle.sheet.specs.declared.faults.Fault.{Fault}
use Rattle.sheet.specs.declared.opened.Opened.{Opened}
use Rattle.sheet.specs.Opened.{VectorOf, rows_of}
use Rattle.sheet.proofs.Places.{row_length, rows_length, some_names}
use Rattle.jobs.specs.Normal.{digits_of}
use Rattle.jobs.specs.Runs.{placed, TakenIn}

-- a vector read from a row is the vector of that row
pub vector_is : (F : Field) (v : Vector F) (row : List ℕ) → VectorOf F v row → v ≡ digits_of F row
vector_is F v row h = fun_ext λ k. elim (dec_lt k (length row)) [
  | yes l ↦ h.digits k l
  | no l ↦ let past : length row ≤ k = omega arith in h.nils k past ∙ sym (ap (of F) (get_or_past row k 0 past) ∙ of_nil F)
]

-- what was placed is an answer only where there was one, and a fault only where there was a refusal
pub placed_ok : {A : Type 0} (end : ℕ) (r : Result A Refusal) (a : A) → placed end r ≡ Ok a → r ≡ Ok a
placed_ok end (Ok b) a e = cc
placed_ok end (Err b) a e = let z : ◌≡◌ {A = ℕ} 0 1 = cc in absurd (omega arith)

pub placed_err : {A : Type 0} (end : ℕ) (r : Result A Refusal) (f : Fault) → placed end r ≡ Err f → (e : Refusal) × (r ≡ Err e)
placed_err end (Ok b) f q = let z : ◌≡◌ {A = ℕ} 0 1 = cc in absurd (omega arith)
placed_err end (Err b) f q = (b, refl)

module _ {X : Type 0} (C : Coding X) where
  -- the lines taken in, with one more
  one_more : (lines : List (List ℕ)) (i : ℕ) → i < length lines
      → digits_of C.field (get_or lines i []) ∷ reverse (map (digits_of C.field) (take i lines)) ≡ reverse (map (digits_of C.field) (take (i + 1) lines))
  one_more lines i h = sym (ap reverse (map_more (digits_of C.field) lines i [] h) ∙ reverse-append (map (digits_of C.field) (take i lines)) (digits_of C.field (get_or lines i []) ∷ []))

  -- one line taken in: x is its vector, and r what the basis answered
  module _ (opened : Opened) (i : ℕ) (within : i < opened.lines)
      (old new : Basis X) (t : TakenIn C old opened i)
      (x : X) (is : VectorOf C.field (C.meant x) (get_or (rows_of opened) i [])) (end : ℕ) (r : Result Taken Refusal)
      (stands : (vs : List (Vector C.field)) → Stands C old vs
      → MatchResult r (λ a. Tells C.field vs (C.meant x) a × Stands C new (C.meant x ∷ vs)) (λ e. number_of e ≡ 11)) where
    -- the vectors taken in before
    abbrev before : List (Vector C.field)
    before = reverse (map (digits_of C.field) (take i (rows_of opened)))

    pub line_taken : (a : Taken) → placed end r ≡ Ok a → Kept old new → TakenIn C new opened (i + 1)
    line_taken a e k = record {
      long = k.long ∙ t.long;
      stands = subst (Stands C new) (ap (λ v. v ∷ before) (vector_is C.field (C.meant x) (get_or (rows_of opened) i []) is) ∙ one_more (rows_of opened) i (omega (arith, rows_length opened)))
          (MatchResult-at_ok (λ a. Tells C.field before (C.meant x) a × Stands C new (C.meant x ∷ before)) (λ e. number_of e ≡ 11) a (placed_ok end r a e) (stands before t.stands)).1;
    }

    -- no line is refused: it has a digit for each name, and no more
    pub line_refused : (f : Fault) → placed end r ≡ Err f
        → Unless old.making r (λ _. Long C.field old.sizes.length (C.meant x))
        (λ e. Beyond C.field old.sizes.length (C.meant x) e ⊎ ((number_of e ≡ 8) × Long C.field old.sizes.length (C.meant x) × NoRoom old)) → ⊥
    line_refused f q answer =
        let refused = placed_err end r f q in
        let Fits : Taken → Type 0 = λ _. Long C.field old.sizes.length (C.meant x) in
        let Why : Refusal → Type 0 = λ e. Beyond C.field old.sizes.length (C.meant x) e ⊎ ((number_of e ≡ 8) × Long C.field old.sizes.length (C.meant x) × NoRoom old) in
        let beyond : number_of refused.0 ≡ 11 = MatchResult-at_err (λ a. Tells C.field before (C.meant x) a × Stands C new (C.meant x ∷ before)) (λ e. number_of e ≡ 11) refused.0 refused.1 (stands before t.stands) in
        elim (MatchResult-at_err Fits Why refused.0 refused.1 (MatchResult-at_ok (λ _. MatchResult r Fits Why) (λ e. r ≡ Err e) tt t.stands.live answer)) [
          | inl why ↦ why.1 (λ k h. is.nils k (omega (arith, t.long, row_length opened i within)))
          | inr why ↦ let room : number_of refused.0 ≡ 8 = why.0 in omega arith
        ]

  -- a run: the basis is made in enough rows of a coding that is wide enough, and takes every line in
  module _ (opened : Opened) (wide : opened.names ≤ C.width) where
    pub run_begins : (n rows : ℕ) (start : Basis X) (Untouched : Type 0) → n ≡ opened.names → opened.names ≤ rows
        → MatchResult start.making (λ _. Stands C start [] × (start.sizes.length ≡ n)) (λ e. NotMade C.width n rows e × Untouched)
        → TakenIn C start opened 0
    run_begins n rows start Untouched is room made = go start.making made
      where
        go : (made : Result Unit Refusal) → MatchResult made (λ _. Stands C start [] × (start.sizes.length ≡ n)) (λ e. NotMade C.width n rows e × Untouched)
            → TakenIn C start opened 0
        go (Ok _) h = record { long = h.1 ∙ is; stands = h.0 }
        go (Err e) h = elim h.0 [
          | inl why ↦ elim why.1 [ inl none ↦ absurd (omega (arith, is, some_names opened)) | inr over ↦ absurd (omega (arith, is)) ]
          | inr why ↦ let few : rows < n = why.2 in absurd (omega (arith, is))
        ]

    pub run_ends : (i : ℕ) (b : Basis X) (end : ℕ) (r : Result ℕ Refusal) → opened.lines ≤ i → TakenIn C b opened i
        → Unless b.making r (λ k. k ≡ b.sizes.rank) (λ _. ⊥)
        → MatchResult (placed end r) (λ rank. Rows C opened.names rank b.rows.now (reverse (map (digits_of C.field) (rows_of opened)))) (λ _. ⊥)
    run_ends i b end r past t answer =
        go r (MatchResult-at_ok (λ _. MatchResult r (λ k. k ≡ b.sizes.rank) (λ _. ⊥)) (λ e. r ≡ Err e) tt t.stands.live answer)
      where
        whole : Rows C opened.names b.sizes.rank b.rows.now (reverse (map (digits_of C.field) (rows_of opened)))
        whole =
            subst₂ (λ n ls. Rows C n b.sizes.rank b.rows.now (reverse (map (digits_of C.field) ls))) t.long
            (take_all i (rows_of opened) (omega (arith, rows_length opened))) t.stands.rows

        go : (r : Result ℕ Refusal) → MatchResult r (λ k. k ≡ b.sizes.rank) (λ _. ⊥)
            → MatchResult (placed end r) (λ rank. Rows C opened.names rank b.rows.now (reverse (map (digits_of C.field) (rows_of opened)))) (λ _. ⊥)
        go (Ok k) e = subst (λ rank. Rows C opened.names rank b.rows.now (reverse (map (digits_of C.field) (rows_of opened)))) (sym e) whole
        go (Err e) none = absurd none
