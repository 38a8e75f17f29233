-- A tally through a list of calls: what it stands for after each is what the calls alone say.
use Rattle.std.proofs.Common.{◌≡◌, ℕ, ◌+◌, ◌%◌, ◌<◌, ◌≤◌, Bool, false, ◌⊎◌, List, [], ◌∷◌, length, get_or, take, Ok, Err, fold, Result, sym, refl, ap, ◌∙◌, subst, subst₂, inl, inr, arith, MatchResult}
use Rattle.std.specs.List.{HoldsAt}
use Rattle.std.proofs.lemmas.List.{get_or-map}
use Rattle.std.proofs.lemmas.Result.{MatchResult-weaker}
use Rattle.std.proofs.lemmas.List.Sums.{fold_more}
use Rattle.algebra.specs.Field.{value}
use Rattle.algebra.specs.Vector.{zeros}
use Rattle.algebra.specs.Permanent.{permanent}
use Rattle.coding.specs.Refusals.{number_of}
use Rattle.coding.specs.declared.refusals.Refusal.{Refusal}
use Rattle.tally.specs.declared.calls.Call.{Call}
use Rattle.tally.specs.declared.tallies.Tally.{Tally}
use Rattle.tally.specs.Calls.{after_call, booked_by}
use Rattle.tally.specs.Booking.{AllBooked, Missing}
use Rattle.tally.specs.Matrix.{matrix}
use Rattle.coding.specs.declared.vectors.Coding.{Ghosts as Coding}
use Rattle.tally.specs.Makings.{Makes, NotMade}
use Rattle.tally.specs.Stands.{Stands, Kept}
use Rattle.tally.proofs.Entries.{permanent_same}

-- what one call keeps and the next keeps too, both keep
pub kept_on : {X : Type 0} {C : Coding X} {a b c : Tally X C} → Kept a b → Kept b c → Kept a c
kept_on h k = record { sizes = k.sizes ∙ h.sizes; making = k.making ∙ h.making; rows = k.rows ∙ h.rows; lent = k.lent ∙ h.lent }

-- one call more of a list
pub run_more : {X : Type 0} {C : Coding X} {start t u : Tally X C} (calls : List Call) (i : ℕ) (none : Call) (b : ℕ → Bool) → i < length calls → Kept start t
    → Stands t (fold (after_call start.sizes.splits) b (take i calls))
    → ((d : ℕ → Bool) → Stands t d → Stands u (after_call t.sizes.splits d (get_or calls i none)))
    → Stands u (fold (after_call start.sizes.splits) b (take (i + 1) calls))
run_more {start = start} {u = u} calls i none b h kept so_far step =
    let d = fold (after_call start.sizes.splits) b (take i calls) in
    subst (Stands u) (ap (λ s. after_call s d (get_or calls i none)) (ap (λ z. z.splits) kept.sizes) ∙ sym (fold_more (after_call start.sizes.splits) b calls i none h)) (step d so_far)

-- rows that differ from others in one row alone have the same matrix without it
matrix_same : {X : Type 0} (C : Coding X) (old new : List X) (n : ℕ) → n ≤ length old → n ≤ length new → ((k : ℕ) (d : X) → (k ≡ n → ⊥) → get_or new k d ≡ get_or old k d) →
    (i c : ℕ) → i < n → matrix C new i c ≡ matrix C old i c
matrix_same C [] new n a b same i c l = absurd (omega arith)
matrix_same C (x ∷ old) new n a b same i c l =
    ap (λ f. value (f c)) (get_or-map C.meant new i x (zeros C.field) (omega arith) ∙ ap C.meant (same i x (omega arith)) ∙ sym (get_or-map C.meant (x ∷ old) i x (zeros C.field) (omega arith)))

module _ {X : Type 0} (C : Coding X) (rows : List X) (n s : ℕ) (start end : Tally X C) (calls : List Call)
    (made : MatchResult start.making
    (λ _. Stands start (λ _. false) × (start.sizes.size ≡ n) × (start.sizes.splits ≡ s) × Makes C n s rows × ((k : ℕ) (d : X) → (k ≡ n → ⊥) → get_or start.rows.now k d ≡ get_or rows k d))
    (λ e. NotMade C n s rows e × (start.rows.now ≡ rows)))
    (stands : (b : ℕ → Bool) → Stands start b → Stands end (fold (after_call start.sizes.splits) b calls))
    (kept : Kept start end) (r : Result ℕ Refusal) (refused : (e : Refusal) → end.making ≡ Err e → r ≡ Err e)
    (answer : (b : ℕ → Bool) → Stands end b → MatchResult r
    (λ d. AllBooked end.sizes.splits b × (d ≡ permanent (matrix C end.rows.now) end.sizes.size % 3))
    (λ e. (number_of e ≡ 15) × Missing end.sizes.splits b)) where
  abbrev Ends : Result ℕ Refusal → Type 0
  Ends t = MatchResult t
      (λ d. Makes C n s rows × HoldsAt (λ x. C.meant x ≡ zeros C.field) end.rows.now n × AllBooked s (booked_by s calls) × (d ≡ permanent (matrix C rows) n % 3))
      (λ e. (NotMade C n s rows e × (end.rows.now ≡ rows)) ⊎ (Makes C n s rows × HoldsAt (λ x. C.meant x ≡ zeros C.field) end.rows.now n × (number_of e ≡ 15) × Missing s (booked_by s calls)))

  -- what the run ends in
  pub ended : Ends r
  ended = which start.making refl made
    where
      which : (o : Result (Unit {0}) Refusal) → start.making ≡ o → MatchResult o
          (λ _. Stands start (λ _. false) × (start.sizes.size ≡ n) × (start.sizes.splits ≡ s) × Makes C n s rows × ((k : ℕ) (d : X) → (k ≡ n → ⊥) → get_or start.rows.now k d ≡ get_or rows k d))
          (λ e. NotMade C n s rows e × (start.rows.now ≡ rows)) → Ends r
      which (Ok done) q (t, is_size, is_splits, makes, others) =
          MatchResult-weaker r (answer (fold (after_call start.sizes.splits) (λ _. false) calls) now_stands)
          (λ d h. (makes, spare, subst₂ AllBooked splits booked_is h.0, h.1 ∙ ap (λ m. permanent (matrix C end.rows.now) m % 3) size ∙ ap (λ x. x % 3) same))
          (λ e h. inr (makes, spare, h.0, subst₂ Missing splits booked_is h.1))
        where
          now_stands : Stands end (fold (after_call start.sizes.splits) (λ _. false) calls)
          now_stands = stands (λ _. false) t

          splits : end.sizes.splits ≡ s
          splits = ap (λ z. z.splits) kept.sizes ∙ is_splits

          size : end.sizes.size ≡ n
          size = ap (λ z. z.size) kept.sizes ∙ is_size

          spare : HoldsAt (λ x. C.meant x ≡ zeros C.field) end.rows.now n
          spare = subst (HoldsAt (λ x. C.meant x ≡ zeros C.field) end.rows.now) size (end.spare tt now_stands.live)

          booked_is : fold (after_call start.sizes.splits) (λ _. false) calls ≡ booked_by s calls
          booked_is = ap (λ m. fold (after_call m) (λ _. false) calls) is_splits

          there : (k : ℕ) (d : X) → (k ≡ n → ⊥) → get_or end.rows.now k d ≡ get_or rows k d
          there k d other = ap (λ xs. get_or xs k d) kept.rows ∙ others k d other

          same : permanent (matrix C end.rows.now) n ≡ permanent (matrix C rows) n
          same = permanent_same _ _ n (matrix_same C rows end.rows.now n (omega (arith, makes.room)) (omega (arith, end.room tt now_stands.live, size)) there)
      which (Err e) q (why, all) = subst Ends (sym (refused e (kept.making ∙ q))) (inl (why, kept.rows ∙ all))
