-- The lines of an opened sheet as the rows of a matrix, and the permanent of that matrix.
use Rattle.std.proofs.Common.{◌≡◌, ℕ, zero, suc, ◌+◌, ◌%◌, ◌^◌, ◌<◌, ◌≤◌, Bool, true, false, cond, ltb, ◌⊎◌, List, [], map, length, get_or, set, Ok, Err, fold, Result, sym, ap, ◌∙◌, subst, subst₂, ap₂, inl, inr, true≢false, mod-eq_of_lt, arith, pow_mono, lt-ltb, eq-eqb, ne_eqb, MatchResult}
use native.Mathlib.Decide.{ℕ_discrete, dec_lt}
use Rattle.std.specs.List.{range_with_len}
use Rattle.std.proofs.ByRecursion.{All-get_or}
use Rattle.std.proofs.lemmas.List.{get_or-map, get_or_past, get_or-set_same, get_or-set_other, length-set}
use Rattle.std.proofs.lemmas.Result.{MatchResult-at_err, MatchResult-at_ok, MatchResult-weaker}
use Rattle.algebra.specs.Field.{value}
use Rattle.algebra.specs.Modulo.{f3}
use Rattle.algebra.specs.Permanent.{permanent}
use Rattle.algebra.specs.Vector.{Vector, zeros}
use Rattle.coding.specs.declared.vectors.Coding.{Ghosts as Coding}
use Rattle.coding.proofs.Members.{coding}
use Rattle.coding.specs.Refusals.{number_of}
use Rattle.coding.specs.Walks.{meaning}
use Rattle.coding.specs.declared.refusals.Refusal.{Refusal}
use Rattle.tally.specs.Booking.{booked, AllBooked, Missing}
use Rattle.tally.specs.Calls.{after_call, booked_by}
use Rattle.tally.specs.Matrix.{matrix}
use Rattle.tally.specs.Makings.{Makes, NotMade}
use Rattle.tally.specs.declared.calls.Call.{Call}
use Rattle.tally.specs.declared.calls.Call.TheVariants.{Work}
use Rattle.tally.proofs.Entries.{permanent_same}
use Rattle.sheet.specs.Format.{Sheet, Row}
use Rattle.sheet.specs.Opened.{OpenedFrom, VectorOf, rows_of}
use Rattle.sheet.specs.declared.faults.Fault.{Fault}
use Rattle.sheet.specs.declared.opened.Opened.{Opened}
use Rattle.jobs.specs.Permanents.{PermanentOf, LinesRead, entries}
use Rattle.jobs.specs.Runs.{placed}
use Rattle.jobs.proofs.Lines.{vector_is, placed_ok, placed_err}

-- one line more is read
pub lines_more : {X : Type 0} (C : Coding X) (old : List X) (rows : List (List ℕ)) (i : ℕ) (x : X) → i < length old
    → VectorOf C.field (C.meant x) (get_or rows i []) → LinesRead C old rows i → LinesRead C (set old i x) rows (i + 1)
lines_more C old rows i x within is so_far k l = elim (ℕ_discrete k i) [
  | yes q ↦ subst (λ j. VectorOf C.field (meaning C (set old i x) j) (get_or rows j [])) (sym q)
      (subst (λ v. VectorOf C.field v (get_or rows i [])) (sym (get_or-map C.meant (set old i x) i x (zeros C.field) (omega (arith, length-set old i x)) ∙ ap C.meant (get_or-set_same old i x x within))) is)
  | no q ↦ subst (λ v. VectorOf C.field v (get_or rows k []))
      (get_or-map C.meant old k x (zeros C.field) (omega arith) ∙ ap C.meant (sym (get_or-set_other old i k x x q)) ∙ sym (get_or-map C.meant (set old i x) k x (zeros C.field) (omega (arith, length-set old i x))))
      (so_far k (omega arith))
]

-- calls to work each share from a on book these, and leave those booked that were
booked_from : (s : ℕ) (b : ℕ → Bool) (a m k : ℕ) → k < 2 ^ s → (b k ≡ true) ⊎ ((a ≤ k) × (k < a + m)) → fold (after_call s) b (map Work (range_with_len a m)) k ≡ true
booked_from s b a zero k l (inl e) = e
booked_from s b a zero k l (inr (low, high)) = absurd (omega arith)
booked_from s b a (suc m) k l h = booked_from s (booked s b a) (a + 1) m k l (elim (ℕ_discrete k a) [
  | yes q ↦ inl (ap₂ (λ x y. cond x (cond y true (b k)) (b k)) (eq-eqb k a q) (lt-ltb a (2 ^ s) (subst (λ j. j < 2 ^ s) q l)))
  | no q ↦ on q h
])
  where
    on : (k ≡ a → ⊥) → (b k ≡ true) ⊎ ((a ≤ k) × (k < a + suc m)) → (booked s b a k ≡ true) ⊎ ((a + 1 ≤ k) × (k < a + 1 + m))
    on q (inl e) = inl (ap (λ x. cond x (cond (ltb a (2 ^ s)) true (b k)) (b k)) (ne_eqb k a q) ∙ e)
    on q (inr (low, high)) = inr (omega arith, omega arith)

-- at most 6 splits make at most 64 shares
few_shares : (s : ℕ) → s ≤ 6 → 2 ^ s ≤ 64
few_shares s h = pow_mono h

-- after calls to work all 64 shares none is missing, so a tally that can be made gives its permanent
module _ {X : Type 0} (C : Coding X) (n : ℕ) (stored : List X) (m : Makes C n 0 stored)
    (s : ℕ) (few : s ≤ 6) (within : s ≤ n) (calls : List Call) (are : calls ≡ map Work (range_with_len 0 64)) where
  all_booked : AllBooked s (booked_by s calls)
  all_booked k l =
      ap (λ cs. booked_by s cs k) are ∙ booked_from s (λ _. false) 0 64 k l (inr (omega arith, omega (arith, few_shares s few)))

  not_refused : (e : Refusal) → NotMade C n s stored e ⊎ (Makes C n s stored × (number_of e ≡ 15) × Missing s (booked_by s calls)) → ⊥
  not_refused e (inl (inl why)) = why.1 (m.range, m.small)
  not_refused e (inl (inr (fits, inl (number, inl over)))) = omega arith
  not_refused e (inl (inr (fits, inl (number, inr over)))) = omega arith
  not_refused e (inl (inr (fits, inr (splits, inl (number, little))))) = omega (arith, m.room)
  not_refused e (inl (inr (fits, inr (splits, inr (number, room, short))))) = short m.long
  not_refused e (inr (makes, number, (k, l, none))) = true≢false (sym (all_booked k l) ∙ none)

  pub all_worked : (Zeroed Left : Type 0) (r : Result ℕ Refusal) → MatchResult r
      (λ d. Makes C n s stored × Zeroed × AllBooked s (booked_by s calls) × (d ≡ permanent (matrix C stored) n % 3))
      (λ e. (NotMade C n s stored e × Left) ⊎ (Makes C n s stored × Zeroed × (number_of e ≡ 15) × Missing s (booked_by s calls)))
      → MatchResult r (λ d. d ≡ permanent (matrix C stored) n % 3) (λ _. ⊥)
  all_worked Zeroed Left r h = MatchResult-weaker r h (λ d k. k.3) (λ e k. not_refused e (elim k [ inl m ↦ inl m.0 | inr m ↦ inr (m.0, m.2, m.3) ]))

-- a digit of a row, and 0 from its end on
small_digit : (n : ℕ) (row : List ℕ) (c : ℕ) → Row n row → get_or row c 0 < 3
small_digit n row c h = elim (dec_lt c (length row)) [
  | yes l ↦ All-get_or (λ d. d < 3) row c 0 l h.small
  | no l ↦ omega (arith, get_or_past row c 0 (omega arith))
]

-- the sheet that was opened is square, and its lines were read
module _ {X : Type 0} (w : ℕ) (meant : X → Vector f3) (canonical : X → Type 0) (enough : 60 ≤ w) (source : List ℕ) (opened : Opened) (o : OpenedFrom source opened)
    (n : ℕ) (named : n ≡ opened.names) (square : opened.lines ≡ n) (small : n ≤ 60)
    (stored : List X) (room : length stored ≡ 61) (lines_read : LinesRead (coding f3 w meant canonical) stored (rows_of opened) opened.lines) where
  abbrev K : Coding X
  K = coding f3 w meant canonical

  read : LinesRead K stored o.rows (length o.rows)
  read = subst₂ (LinesRead K stored) (sym o.read) o.describes.rows_are lines_read

  size : n ≡ length o.names
  size = named ∙ o.describes.names_are

  many : length o.rows ≡ n
  many = sym o.describes.rows_are ∙ square

  makes : Makes K n 0 stored
  makes = record {
    range = record { some = omega (arith, size, o.describes.sheet.names_rule.some); most = omega arith };
    small = small;
    few = omega arith;
    within = omega arith;
    room = omega arith;
    long = λ k d low high j past.
        ap (λ v. v j) (sym (get_or-map meant stored k d (zeros f3) (omega arith)))
        ∙ (read k (omega (arith, many))).nils j (omega (arith, size, (All-get_or (Row (length o.names)) o.rows k [] (omega (arith, many)) o.describes.sheet.rows_rule).whole));
  }

  entry_is : (i c : ℕ) → i < length o.names → matrix K stored i c ≡ entries o.rows i c
  entry_is i c l =
      let there : i < length o.rows = omega (arith, size, many) in
      ap (λ v. value (v c)) (vector_is f3 (meaning K stored i) (get_or o.rows i []) (read i there))
      ∙ mod-eq_of_lt (small_digit (length o.names) (get_or o.rows i []) c (All-get_or (Row (length o.names)) o.rows i [] there o.describes.sheet.rows_rule))

  permanent_given : (d : ℕ) → d ≡ permanent (matrix K stored) n % 3 → PermanentOf source (record { size = n; digit = d })
  permanent_given d e = record {
    names = o.names;
    rows = o.rows;
    sheet = subst (Sheet o.names o.rows) o.text_is o.describes.sheet;
    square = many ∙ size;
    small = omega (arith, size);
    size = size;
    digit = e ∙ ap (λ m. permanent (matrix K stored) m % 3) size ∙ ap (λ x. x % 3) (permanent_same _ _ (length o.names) entry_is);
  }

  -- what the tally of these rows answered, as the job places it
  module _ (end : ℕ) (r : Result ℕ Refusal) (worked : Makes K n 0 stored → MatchResult r (λ d. d ≡ permanent (matrix K stored) n % 3) (λ _. ⊥)) where
    pub answered : (d : ℕ) → placed end r ≡ Ok d → PermanentOf source (record { size = n; digit = d })
    answered d e = permanent_given d (MatchResult-at_ok (λ d. d ≡ permanent (matrix K stored) n % 3) (λ _. ⊥) d (placed_ok end r d e) (worked makes))

    pub never_refused : (f : Fault) → placed end r ≡ Err f → ⊥
    never_refused f e =
        let refused = placed_err end r f e in
        MatchResult-at_err (λ d. d ≡ permanent (matrix K stored) n % 3) (λ _. ⊥) refused.0 refused.1 (worked makes)
