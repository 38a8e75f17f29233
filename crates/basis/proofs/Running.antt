-- A basis through a list of calls: what it stands for after each is what the calls alone say.
use Rattle.std.proofs.Common.{◌≡◌, ℕ, zero, suc, ◌+◌, ◌<◌, ◌≤◌, cond, ◌⊎◌, List, [], ◌∷◌, ◌++◌, length, get_or, take, drop, IfOk, IfErr, Ok, Err, fold, Result, sym, refl, ap, ◌∙◌, subst, ap₂, subst₂, inl, inr, arith, MatchResult}
use Rattle.std.proofs.lemmas.List.Sums.{fold_more}
use Rattle.std.proofs.lemmas.Result.{MatchResult-at_ok}
use Rattle.algebra.specs.Vector.{Vector, Long}
use Rattle.algebra.proofs.Lengths.{long_test, test_short}
use Rattle.coding.specs.declared.vectors.Coding.{Ghosts as Coding}
use Rattle.coding.specs.Lengths.{InRange}
use Rattle.coding.specs.Refusals.{number_of}
use Rattle.coding.specs.declared.refusals.Refusal.{Refusal}
use Rattle.basis.specs.declared.bases.Basis.{Basis}
use Rattle.basis.specs.declared.taken.Taken.{Taken}
use Rattle.basis.specs.declared.calls.Call.{Call}
use Rattle.basis.specs.declared.calls.Call.TheVariants.{TakeIn}
use Rattle.coding.specs.Makings.{Unless}
use Rattle.basis.specs.Answers.{NotMade, Beyond, Tells, WroteDual}
use Rattle.basis.specs.Calls.{after_call, accepted}
use Rattle.basis.specs.Form.{Rows}
use Rattle.basis.specs.Runs.{Ran}
use Rattle.basis.specs.Stands.{Stands, Kept, Same, NoRoom}
use Rattle.basis.proofs.Placing.{same_later}

module _ {X : Type 0} (C : Coding X) where
  -- a basis that has not changed stands for what it stood for
  pub still_stands : (b a : Basis X) (vs : List (Vector C.field)) → Same b a → Stands C b vs → Stands C a vs
  still_stands b a vs s h = record {
    live = s.making ∙ h.live;
    rows = subst₂ (λ sizes xs. Rows C sizes.length sizes.rank xs vs) (sym s.sizes) (sym s.rows) h.rows;
  }

  pub take_in_step : (b a : Basis X) (x : X) (r : Result Taken Refusal) (vs : List (Vector C.field)) → Long C.field C.width (C.meant x) →
      Unless b.making r (λ _. Long C.field b.sizes.length (C.meant x)) (λ e. Beyond C.field b.sizes.length (C.meant x) e ⊎ ((number_of e ≡ 8) × Long C.field b.sizes.length (C.meant x) × NoRoom b)) →
      IfErr r (λ _. Same b a) →
      MatchResult r (λ t. Tells C.field vs (C.meant x) t × Stands C a (C.meant x ∷ vs)) (λ e. number_of e ≡ 11) →
      Stands C b vs → Stands C a (after_call C b.sizes.length vs (TakeIn x))
  take_in_step b a x (Ok t) vs wide answer same stands s =
      subst (λ c. Stands C a (cond c (C.meant x ∷ vs) vs)) (sym (long_test C.field b.sizes.length (C.meant x) C.width wide (MatchResult-at_ok (λ _. Long C.field b.sizes.length (C.meant x)) (λ e. Ok t ≡ Err e) tt s.live answer))) stands.1
  take_in_step b a x (Err e) vs wide answer same number s =
      subst (λ c. Stands C a (cond c (C.meant x ∷ vs) vs)) (sym (test_short C.field b.sizes.length (C.meant x) C.width wide short)) (still_stands b a vs same s)
    where
      why : Beyond C.field b.sizes.length (C.meant x) e ⊎ ((number_of e ≡ 8) × Long C.field b.sizes.length (C.meant x) × NoRoom b)
      why = MatchResult-at_ok (λ _. Beyond C.field b.sizes.length (C.meant x) e ⊎ ((number_of e ≡ 8) × Long C.field b.sizes.length (C.meant x) × NoRoom b)) (λ f. Err e ≡ Err f) tt s.live answer

      short : Long C.field b.sizes.length (C.meant x) → ⊥
      short = elim why [ inl h ↦ h.1 | inr h ↦ absurd (omega (arith, number, h.0)) ]

  pub clear_step : {A : Type 0} (a : Basis X) (r : Result A Refusal) → MatchResult r (λ _. Stands C a []) (λ _. ⊥) → Stands C a []
  clear_step a (Ok t) h = h
  clear_step a (Err e) h = absurd h

  -- a dual writes no row from the length on
  pub dual_beyond : (n rank : ℕ) (vs : List (Vector C.field)) (old new : List X) (r : Result ℕ Refusal) →
      IfOk r (WroteDual C n rank vs old new) → IfErr r (λ _. new ≡ old) → drop n new ≡ drop n old
  dual_beyond n rank vs old new (Ok m) h same = let e = h.number in same_later m n old new (omega (arith, e)) h.rest
  dual_beyond n rank vs old new (Err e) h same = ap (drop n) same

  -- one call more of a list
  pub run_more : (start b a : Basis X) (calls : List (Call X)) (i : ℕ) (call : Call X) (vs : List (Vector C.field)) (old mid new : List X) → i < length calls → call ≡ get_or calls i call → b.sizes.length ≡ start.sizes.length →
      Stands C b (fold (after_call C start.sizes.length) vs (take i calls)) × (drop start.sizes.length mid ≡ drop start.sizes.length old) →
      ((ws : List (Vector C.field)) → Stands C b ws → Stands C a (after_call C b.sizes.length ws call) × (drop b.sizes.length new ≡ drop b.sizes.length mid)) →
      Stands C a (fold (after_call C start.sizes.length) vs (take (i + 1) calls)) × (drop start.sizes.length new ≡ drop start.sizes.length old)
  run_more start b a calls i call vs old mid new h is n so_far step =
      let ws = fold (after_call C start.sizes.length) vs (take i calls) in
      let t = step ws so_far.0 in (
        subst (Stands C a) (ap₂ (λ m k. after_call C m ws k) n is ∙ sym (fold_more (after_call C start.sizes.length) vs calls i call h)) t.0,
        subst (λ m. drop m new ≡ drop m mid) n t.1 ∙ so_far.1,
      )

-- what one call keeps and the next keeps too, both keep
pub kept_on : {X : Type 0} (a b c : Basis X) → Kept a b → Kept b c → Kept a c
kept_on a b c h k = record {
  long = k.long ∙ h.long;
  making = k.making ∙ h.making;
  beyond = subst (λ n. drop n c.rows.now ≡ drop n b.rows.now) h.long k.beyond ∙ h.beyond;
  lent = k.lent ∙ h.lent;
}

-- a first part changed below n leaves the whole from n on
pub part_beyond : {X : Type 0} (n : ℕ) (old new rest : List X) → length new ≡ length old → drop n new ≡ drop n old → drop n (new ++ rest) ≡ drop n (old ++ rest)
part_beyond zero old new rest l e = ap (λ xs. xs ++ rest) e
part_beyond (suc n) [] [] rest l e = refl
part_beyond (suc n) [] (y ∷ new) rest l e = absurd (omega arith)
part_beyond (suc n) (x ∷ old) [] rest l e = absurd (omega arith)
part_beyond (suc n) (x ∷ old) (y ∷ new) rest l e = part_beyond n old new rest (omega arith) e

module _ {X : Type 0} (C : Coding X) (n : ℕ) (rows : List X) (start : Basis X) (range : InRange C.width n) (room : n ≤ length rows) where
  abbrev pub Made : Type 0
  Made = MatchResult start.making (λ _. Stands C start [] × (start.sizes.length ≡ n)) (λ e. NotMade C.width n (length rows) e × (start.rows.now ≡ rows))

  -- where nothing is against it, a basis is made
  pub is_made : Made → Stands C start [] × (start.sizes.length ≡ n)
  is_made h = which start.making h
    where
      refused : (e : Refusal) → NotMade C.width n (length rows) e → ⊥
      refused e (inl h) = elim h.1 [ inl z ↦ omega (arith, range.some) | inr z ↦ omega (arith, range.most) ]
      refused e (inr h) = omega (arith, h.2)

      which : (made : Result Unit Refusal) → MatchResult made (λ _. Stands C start [] × (start.sizes.length ≡ n)) (λ e. NotMade C.width n (length rows) e × (start.rows.now ≡ rows)) → Stands C start [] × (start.sizes.length ≡ n)
      which (Ok _) h = h
      which (Err e) h = absurd (refused e h.0)

  -- a whole run
  abbrev pub ran : (end : Basis X) (calls : List (Call X)) (old_scratch scratch : List X) → Made → drop n start.rows.now ≡ drop n rows →
      ((vs : List (Vector C.field)) → Stands C start vs → Stands C end (fold (after_call C start.sizes.length) vs calls) × (drop start.sizes.length scratch ≡ drop start.sizes.length old_scratch)) →
      Kept start end → Ran C n calls rows end.rows.now old_scratch scratch
  ran end calls old_scratch scratch made beyond stands kept =
      let m = is_made made in
      let t = stands [] m.0 in
      record {
        rank = end.sizes.rank;
        stands = subst₂ (λ k vs. Rows C k end.sizes.rank end.rows.now vs) (kept.long ∙ m.1) (ap (λ k. accepted C k calls) m.1) t.0.rows;
        beyond = subst (λ k. drop k end.rows.now ≡ drop k start.rows.now) m.1 kept.beyond ∙ beyond;
        scratch_beyond = subst (λ k. drop k scratch ≡ drop k old_scratch) m.1 t.1;
      }
