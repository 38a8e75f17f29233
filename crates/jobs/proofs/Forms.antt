-- The rows of a basis, written as a sheet: they are the normal form of the lines, and only room can be lacking.
use Rattle.std.proofs.Common.{◌≡◌, ℕ, ◌*◌, ◌<◌, ◌≤◌, ◌⊎◌, List, [], ◌∷◌, map, reverse, length, take, Ok, Err, Result, sym, refl, ap, ◌∙◌, subst, subst₂, ap₂, inr, mul-le-mul, arith, MatchResult}
use mathlib.Core.Path.{fun_ext}
use native.Mathlib.Decide.{dec_lt}
use Rattle.std.specs.List.{HoldsAt, AllByRecursion}
use Rattle.std.proofs.lemmas.List.FromFn.{get_or-map-range_with_len, length-map-range_with_len}
use Rattle.std.proofs.ByRecursion.{All-get_or}
use Rattle.std.proofs.lemmas.List.{append-nil, get_or_past, length-append, length-take-le}
use Rattle.algebra.specs.Field.{Field, value, of}
use Rattle.algebra.specs.Modulo.{f3}
use Rattle.algebra.specs.Vector.{Vector, Long}
use Rattle.algebra.specs.NormalForm.{Row, vectors, Within, NormalForm, row_in, rows_in}
use Rattle.algebra.proofs.Combinations.{reverse_span}
use Rattle.algebra.proofs.Digits.{of_value, of_nil}
use Rattle.algebra.proofs.Leads.{rows_back}
use Rattle.coding.specs.Refusals.{number_of}
use Rattle.coding.specs.declared.refusals.Refusal.{Refusal}
use Rattle.basis.specs.Form.{Rows, meant_rows}
use Rattle.sheet.specs.declared.opened.Opened.{Opened}
use Rattle.sheet.specs.Faults.{FaultOf}
use Rattle.sheet.specs.Format.{Name, Names, Sheet, line, written}
use Rattle.sheet.specs.Opened.{NoSheet, OpenedFrom, rows_of}
use Rattle.coding.specs.declared.vectors.Coding.{Ghosts as Coding}
use Rattle.coding.proofs.Members.{coding}
use Rattle.sheet.specs.Writes.{Heads, digits, text, Wrote, Refused, bad_names, length_out_of_range, text_too_long, too_little_room, beyond_length}
use Rattle.sheet.proofs.Bodies.{length_text, whole_rows}
use Rattle.sheet.proofs.Splits.{names_once}
use Rattle.jobs.specs.Normal.{digits_of, NormalOf, Normalized, NoRoom}
use Rattle.jobs.specs.Runs.{placed}

-- the order of the vectors makes no difference to their normal form
any_order : (F : Field) (n : ℕ) (rs : List (Row F)) (vs : List (Vector F)) → NormalForm F n rs (reverse vs) → NormalForm F n rs vs
any_order F n rs vs h = record {
  normal = h.normal;
  within = h.within;
  span = λ u. ((λ k. (reverse_span F vs u).0 ((h.span u).0 k)), (λ k. (h.span u).1 ((reverse_span F vs u).1 k)));
}

-- a names line is short
short_line : (names : List (List ℕ)) → 0 < length names → AllByRecursion Name names → length (line names) ≤ 9 * length names
short_line [] some h = absurd (omega arith)
short_line (w ∷ []) some h = omega (arith, length-append w (10 ∷ []), h.0.short)
short_line (w ∷ (v ∷ names)) some h = omega (arith, length-append w (32 ∷ line (v ∷ names)), h.0.short, short_line (v ∷ names) (omega arith) h.1)

-- two names lines that are equal are those of the same names
same_names : (names others : List (List ℕ)) (head : List ℕ) → Heads names head → Heads others head → names ≡ others
same_names names others head a b =
    (names_once names others [] [] a.rule.each b.rule.each a.rule.some b.rule.some
    (append-nil (line names) ∙ sym a.text_is ∙ b.text_is ∙ sym (append-nil (line others)))).0

module _ {X : Type 0} (C : Coding X) (n : ℕ) where
  -- the digits of a vector of length n are read back as that vector
  digits_back : (x : X) → Long C.field n (C.meant x) → digits_of C.field (digits C n x) ≡ C.meant x
  digits_back x long = fun_ext λ k. elim (dec_lt k n) [
    | yes l ↦ ap (of C.field) (get_or-map-range_with_len (λ k. value (C.meant x k)) 0 n k k 0 l (omega arith)) ∙ of_value C.field (C.meant x k)
    | no l ↦
        let past : n ≤ k = omega arith in
        ap (of C.field) (get_or_past (digits C n x) k 0 (omega (arith, length-map-range_with_len (λ k. value (C.meant x k)) 0 n))) ∙ of_nil C.field ∙ sym (long k past)
  ]

  rows_read : (xs : List X) → Within C.field n (meant_rows C xs) → rows_in C.field n (digits_of C.field) (map (digits C n) xs) ≡ map (row_in C.field n) (vectors C.field (meant_rows C xs))
  rows_read [] h = refl
  rows_read (x ∷ xs) (h, hs) = ap₂ (λ v rs. row_in C.field n v ∷ rs) (digits_back x h.1) (rows_read xs hs)

  -- stored rows in normal form, as digits, are in normal form
  form_read : (xs : List X) (vs : List (Vector C.field)) → NormalForm C.field n (meant_rows C xs) vs → NormalForm C.field n (rows_in C.field n (digits_of C.field) (map (digits C n) xs)) vs
  form_read xs vs h =
      subst (λ rs. NormalForm C.field n rs vs)
      (sym (rows_read xs h.within ∙ rows_back C.field n n (omega arith) (meant_rows C xs) h.normal h.within)) h

  all_long_lem : (xs : List X) → Within C.field n (meant_rows C xs) → AllByRecursion (λ x. Long C.field n (C.meant x)) xs
  all_long_lem [] h = tt
  all_long_lem (x ∷ xs) (h, hs) = (h.1, all_long_lem xs hs)

-- what holds of every element fails at none
at_none : {X : Type 0} (P : X → Type 0) (xs : List X) (i : ℕ) → i < length xs → AllByRecursion P xs → HoldsAt (λ x. P x → ⊥) xs i → ⊥
at_none P [] i within all fails = omega arith
at_none P (x ∷ xs) i within all fails = fails x (All-get_or P (x ∷ xs) i x within all)

-- the sheet that was opened, and the rows whose first hold its lines in normal form and are written
module _ {X : Type 0} (w : ℕ) (meant : X → Vector f3) (canonical : X → Type 0) (enough : 64 ≤ w)
    (source : List ℕ) (opened : Opened) (o : OpenedFrom source opened) (head : List ℕ) (head_is : head ≡ opened.head.now)
    (rank : ℕ) (rows : List X) (read : Rows (coding f3 w meant canonical) opened.names rank rows (reverse (map (digits_of f3) (rows_of opened)))) where
  abbrev K : Coding X
  K = coding f3 w meant canonical

  abbrev names : List (List ℕ)
  names = o.names

  abbrev xs : List X
  xs = take rank rows

  abbrev forms : List (List ℕ)
  forms = map (digits K (length names)) xs

  form : Rows K (length names) rank rows (reverse (map (digits_of f3) o.rows))
  form = subst₂ (λ n lines. Rows K n rank rows (reverse (map (digits_of f3) lines))) o.describes.names_are (sym o.read) read

  rule : Names names
  rule = o.describes.sheet.names_rule

  heads : Heads names head
  heads = record { rule = rule; text_is = head_is ∙ o.describes.head_is }

  same_sheet : Sheet names o.rows source
  same_sheet = subst (Sheet names o.rows) o.text_is o.describes.sheet

  kept : NormalForm f3 (length names) (rows_in f3 w meant xs) (map (digits_of f3) o.rows)
  kept = any_order f3 (length names) (rows_in f3 w meant xs) (map (digits_of f3) o.rows) form.form.normal

  normal : NormalOf (length names) o.rows forms
  normal = record {
    each = whole_rows K refl (length names) xs;
    form = form_read K (length names) xs (map (digits_of f3) o.rows) kept;
  }

  -- at most 64 rows, of at most 64 digits, under at most 64 names
  short : length (text K names xs) ≤ 65000
  short =
      let many : length xs ≡ rank = length-take-le rank rows form.form.room in
      let most : length names ≤ 64 = rule.most in
      let few : length xs ≤ 64 = omega (arith, form.ranked) in
      let wide : 2 * length names ≤ 128 = omega arith in
      omega (arith, length_text K heads (length names) refl xs, ap length heads.text_is, short_line names rule.some rule.each, mul-le-mul few wide)

  module _ (old new : List ℕ) where
    only_room : (number : ℕ) → Refused K head xs (length old) number → (number ≡ 8) × (length old < length (written names forms))
    only_room number (bad_names e none) = absurd (none names heads)
    only_room number (length_out_of_range e others h over) = absurd (omega (arith, ap length (same_names others names _ h heads), rule.most))
    only_room number (text_too_long e others h fit long) = absurd (omega (arith, ap (λ ns. length (text K ns xs)) (same_names others names _ h heads), short))
    only_room number (too_little_room e others h fit few little) = (e, subst (λ ns. length old < length (text K ns xs)) (same_names others names _ h heads) little)
    only_room number (beyond_length e others h fit few room i within fails) =
        absurd (at_none (λ x. Long f3 (length names) (meant x)) xs i within (all_long_lem K (length names) xs kept.within)
        (subst (λ ns. HoldsAt (λ x. Long f3 (length ns) (meant x) → ⊥) xs i) (same_names others names _ h heads) fails))

    pub written_out : (r : Result ℕ Refusal)
        → MatchResult r (λ m. Wrote K head xs old new m) (λ e. (new ≡ old) × Refused K head xs (length old) (number_of e))
        → MatchResult (placed (length source) r) (λ size. Normalized source old new size) (λ f. (new ≡ old) × ((FaultOf source f × NoSheet source) ⊎ NoRoom source old f))
    written_out (Ok size) h =
        let same = same_names h.names names _ h.head_is heads in record {
          names = names;
          rows = o.rows;
          forms = forms;
          sheet = same_sheet;
          normal = normal;
          whole = subst (λ ns. size ≡ length (text K ns xs)) same h.whole;
          output = subst (λ ns. Sheet ns (map (digits K (length ns)) xs) (take size new)) same h.sheet;
          rest = h.rest;
        }
    written_out (Err e) h =
        let why = only_room (number_of e) h.1 in (
          h.0,
          inr (record {
            names = names;
            rows = o.rows;
            forms = forms;
            sheet = same_sheet;
            normal = normal;
            number = why.0;
            layer = refl;
            place = refl;
            little = why.1;
            short = short;
          }),
        )
