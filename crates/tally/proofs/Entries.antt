-- What a table tells of its shares, and which rows the sums over a matrix look at.
use Rattle.std.proofs.Common.{◌≡◌, ℕ, zero, suc, ◌+◌, ◌*◌, ◌%◌, ◌^◌, ◌<◌, ◌≤◌, Bool, true, false, List, [], ◌∷◌, map, length, get_or, replicate, take, Option, Some, None, Result, sym, refl, ap, ◌∙◌, subst, ap₂, arith, MatchResult}
use Rattle.std.proofs.lemmas.List.{get_or-replicate, get_or_past, get_or-take, length-replicate, length-take-le, take-map}
use native.Mathlib.Decide.{dec_lt}
use Rattle.std.proofs.lemmas.Result.{MatchResult-weaker}
use Rattle.std.specs.List.{range_with_len, HoldsAt, AllWithin}
use Rattle.algebra.specs.Field.{value}
use Rattle.algebra.specs.Vector.{zeros}
use Rattle.coding.specs.Refusals.{number_of}
use Rattle.coding.specs.declared.refusals.Refusal.{Refusal}
use Rattle.coding.specs.declared.vectors.Coding.{Ghosts as Coding}
use Rattle.algebra.specs.Permanent.{over, arrangements, permanent, sum_over, product_over}
use Rattle.algebra.specs.Gray.{term, share, sign, bit, gray_code}
use mathlib.Core.Path.{fun_ext}
use Rattle.algebra.proofs.Shares.{shares}
use Rattle.algebra.proofs.Formula.{formula}
use Rattle.tally.specs.Booking.{digit_of, is_booked, total_of, AllBooked, Missing}
use Rattle.tally.specs.Matrix.{matrix, share_digit}
use Rattle.tally.specs.Stands.{Stands}
use Rattle.tally.specs.declared.tallies.Tally.{Tally}

-- what is joined over a count looks at its numbers alone
over_count : {Y : Type 0} (op : Y → Y → Y) (last : Y) {f g : ℕ → Y} (n : ℕ) → ((k : ℕ) → k < n → f k ≡ g k)
    → over op last f (range_with_len 0 n) ≡ over op last g (range_with_len 0 n)
over_count op last {f} {g} n same = from 0 n (λ k _ l. same k (omega arith))
  where
    from : (a m : ℕ) → ((k : ℕ) → a ≤ k → k < a + m → f k ≡ g k) → over op last f (range_with_len a m) ≡ over op last g (range_with_len a m)
    from a zero h = refl
    from a (suc m) h = ap₂ op (h a (omega arith) (omega arith)) (from (a + 1) m (λ k low high. h k (omega arith) (omega arith)))

-- a table with no entry holds nothing
pub nothing : (n k : ℕ) → ◌≡◌ {A = Option ℕ} (get_or (replicate n None) k None) None
nothing n k = elim (dec_lt k n) [
  | yes l ↦ get_or-replicate n k None None l
  | no m ↦ get_or_past (replicate n None) k None (omega (arith, length-replicate {A = Option ℕ} n None, m))
]

-- the digit of a booked entry
digit_held : (o : Option ℕ) (x : ℕ) → is_booked o ≡ true → ((d : ℕ) → o ≡ Some d → d ≡ x) → digit_of o ≡ x
digit_held None x h held = cc
digit_held (Some d) x h held = held d refl

-- a tally's table tells which shares are booked, and its full sum is the permanent
module _ {X : Type 0} {C : Coding X} {t : Tally X C} {b : ℕ → Bool} (s : Stands t b) where
  pub all_told : AllBooked t.sizes.splits (λ k. is_booked (get_or t.table.entries k None)) → AllBooked t.sizes.splits b
  all_told all k l = sym (s.marked k) ∙ all k l

  pub all_entered : AllBooked t.sizes.splits b → AllBooked t.sizes.splits (λ k. is_booked (get_or t.table.entries k None))
  all_entered all k l = s.marked k ∙ all k l

  pub missing_told : Missing t.sizes.splits (λ k. is_booked (get_or t.table.entries k None)) → Missing t.sizes.splits b
  missing_told (k, l, e) = (k, l, sym (s.marked k) ∙ e)

  pub total_permanent : AllBooked t.sizes.splits b → total_of t.sizes.splits t.table.entries ≡ permanent (matrix C t.rows.now) t.sizes.size % 3
  total_permanent all =
      let A = matrix C t.rows.now in
      ap (λ x. x % 3) (over_count ◌+◌ 0 (2 ^ t.sizes.splits) (λ k l. digit_held (get_or t.table.entries k None) (share_digit A t.sizes.size t.sizes.splits k) (s.marked k ∙ all k l) (t.digits k)))
      ∙ shares (term A t.sizes.size) t.sizes.size t.sizes.splits t.sizes.within ∙ formula A t.sizes.size

-- what the first 2 ^ s entries tell is what the table tells
pub first_told : (s : ℕ) {m : ℕ} (entries : List (Option ℕ)) → m ≡ 2 ^ s → m ≤ length entries → (r : Result ℕ Refusal)
    → MatchResult r
    (λ d. ((k : ℕ) → k < length (take m entries) → is_booked (get_or (take m entries) k None) ≡ true)
    × (d ≡ sum_over (λ k. digit_of (get_or (take m entries) k None)) (range_with_len 0 (length (take m entries))) % 3))
    (λ e. (number_of e ≡ 15) × ((k : ℕ) × (k < length (take m entries)) × (is_booked (get_or (take m entries) k None) ≡ false)))
    → MatchResult r
    (λ d. AllBooked s (λ k. is_booked (get_or entries k None)) × (d ≡ total_of s entries))
    (λ e. (number_of e ≡ 15) × Missing s (λ k. is_booked (get_or entries k None)))
first_told s {m} entries e h r told =
    let long : length (take m entries) ≡ 2 ^ s = length-take-le m entries h ∙ e in
    MatchResult-weaker r told
    (λ d (all, is). (
      λ k l. ap is_booked (sym (get_or-take m entries k None (omega arith))) ∙ all k (omega arith),
      is ∙ ap (λ n. sum_over (λ k. digit_of (get_or (take m entries) k None)) (range_with_len 0 n) % 3) long
          ∙ ap (λ x. x % 3) (over_count ◌+◌ 0 (2 ^ s) (λ k l. ap digit_of (get_or-take m entries k None (omega arith)))),
    ))
    (λ f (is, (k, l, none)). (is, (k, omega arith, ap is_booked (sym (get_or-take m entries k None (omega arith))) ∙ none)))

-- what the table tells is what the calls tell, and its full sum is the permanent
pub result_stands : {X : Type 0} {C : Coding X} {t : Tally X C} {b : ℕ → Bool} → Stands t b → (r : Result ℕ Refusal)
    → MatchResult r
    (λ d. AllBooked t.sizes.splits (λ k. is_booked (get_or t.table.entries k None)) × (d ≡ total_of t.sizes.splits t.table.entries))
    (λ e. (number_of e ≡ 15) × Missing t.sizes.splits (λ k. is_booked (get_or t.table.entries k None)))
    → MatchResult r
    (λ d. AllBooked t.sizes.splits b × (d ≡ permanent (matrix C t.rows.now) t.sizes.size % 3))
    (λ e. (number_of e ≡ 15) × Missing t.sizes.splits b)
result_stands s r told =
    MatchResult-weaker r told (λ d h. (all_told s h.0, h.1 ∙ total_permanent s (all_told s h.0))) (λ e h. (h.0, missing_told s h.1))

-- the permanent looks at the first n rows alone
pub permanent_same : (A B : ℕ → ℕ → ℕ) (n : ℕ) → ((i c : ℕ) → i < n → A i c ≡ B i c) → permanent A n ≡ permanent B n
permanent_same A B n same =
    ap (λ f. sum_over f (arrangements (range_with_len 0 n))) (fun_ext (λ p. over_count ◌*◌ 1 n (λ i l. same i (get_or p i 0) l)))

-- the digit of a share looks at the first n rows alone
share_same : (A B : ℕ → ℕ → ℕ) (n s k : ℕ) → ((i c : ℕ) → i < n → A i c ≡ B i c) → share_digit A n s k ≡ share_digit B n s k
share_same A B n s k same =
    ap (λ f. sum_over f (share n s k) % 3) (fun_ext (λ i. ap (λ p. sign (n + i) * p) (ap (λ f. product_over f (range_with_len 0 n))
    (fun_ext (λ c. over_count ◌+◌ 0 n (λ j l. ap (λ x. bit j (gray_code i) * x) (same j c l)))))))

pub share_of_first : {X : Type 0} (C : Coding X) (rows : List X) (n s k : ℕ) → n < length rows
    → share_digit (matrix C (take n rows)) (length (take n rows)) s k ≡ share_digit (matrix C rows) n s k
share_of_first C rows n s k h =
    ap (λ m. share_digit (matrix C (take n rows)) m s k) (length-take-le n rows (omega arith))
    ∙ share_same _ _ n s k (λ i c l.
    ap (λ vs. value (get_or vs i (zeros C.field) c)) (sym (take-map C.meant n rows))
    ∙ ap (λ v. value (v c)) (get_or-take n (map C.meant rows) i (zeros C.field) l))

-- a row among the first n that has not P
pub one_short : {X : Type 0} (P : X → Type 0) (rows : List X) (n : ℕ) → n < length rows
    → (i : ℕ) × (i < length (take n rows)) × HoldsAt (λ x. P x → ⊥) (take n rows) i → AllWithin P rows 0 n → ⊥
one_short P [] n h one all = absurd (omega arith)
one_short P (x ∷ rows) n h (i, l, none) all =
    let m : i < n = omega (arith, length-take-le n (x ∷ rows) (omega arith)) in
    none x (subst P (sym (get_or-take n (x ∷ rows) i x m)) (all i x (omega arith) m))
