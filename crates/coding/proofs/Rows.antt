-- The rows of a walk under way: the first row, one row more, and the whole.
use Rattle.std.proofs.Common.{◌≡◌, ℕ, suc, ◌+◌, ◌^◌, ◌<◌, ◌≤◌, ◌≢◌, List, map, length, get_or, drop, set, sym, refl, ap, ◌∙◌, subst, subst₂, arith}
use native.Mathlib.Decide.{dec_lt}
use Rattle.std.specs.List.{AllWithin}
use Rattle.std.proofs.lemmas.List.Elements.{AllWithin-more_set, AllWithin-none}
use Rattle.std.proofs.lemmas.List.{drop-drop, drop-set-lt, get_or-set_same, get_or-set_other, length-map, length-set, map-set}
use Rattle.algebra.specs.Field.{Field}
use Rattle.algebra.specs.Modulo.{f3}
use Rattle.algebra.specs.Vector.{Vector, Long, zeros}
use Rattle.algebra.specs.Successor.{Next, Last}
use Rattle.algebra.proofs.Order.{position, position_zero, position_below, position_next, long_next, walk_is}
use Rattle.coding.specs.declared.vectors.Coding.{Ghosts as Coding}
use Rattle.coding.specs.Walks.{meaning, Walked}

-- w is the successor of v within n places
abbrev pub Follows : (F : Field) → ℕ → Vector F → Vector F → Type 0
Follows F n v w = (d : ℕ) × Next F n v d w

meaning_same : {X : Type 0} (C : Coding X) (rows : List X) (i j : ℕ) (x : X) → i < length rows → j ≡ i
    → meaning C (set rows i x) j ≡ C.meant x
meaning_same C rows i j x h e =
    let l : i < length (map C.meant rows) = simp length-map h in
    ap (meaning C (set rows i x)) e
    ∙ ap (λ vs. get_or vs i (zeros C.field)) (map-set C.meant rows i x)
    ∙ get_or-set_same (map C.meant rows) i (C.meant x) (zeros C.field) l

meaning_other : {X : Type 0} (C : Coding X) (rows : List X) (i j : ℕ) (x : X) → j ≢ i
    → meaning C (set rows i x) j ≡ meaning C rows j
meaning_other C rows i j x h =
    ap (λ vs. get_or vs j (zeros C.field)) (map-set C.meant rows i x) ∙ get_or-set_other (map C.meant rows) i j (C.meant x) (zeros C.field) h

rest_more : {X : Type 0} (i : ℕ) (x : X) (old new : List X) → drop i new ≡ drop i old
    → drop (i + 1) (set new i x) ≡ drop (i + 1) old
rest_more i x old new e =
    drop-set-lt (i + 1) new i x (omega arith) ∙ sym (drop-drop 1 i new) ∙ ap (drop 1) e ∙ drop-drop 1 i old

-- the first `count` of the new rows begin the walk, x is the last of them, and there is room for the whole
pub record Begun {X : Type 0} (C : Coding X) (n count : ℕ) (x : X) (old new : List X) : Type 0 where
  pub room : C.field.size ^ n ≤ length new
  pub number : count ≡ suc (position C.field n (C.meant x))
  pub long : Long C.field n (C.meant x)
  pub first : (k : ℕ) → meaning C new 0 k ≡ C.field.nil
  pub follows : (i : ℕ) → suc i < count → Follows C.field n (meaning C new i) (meaning C new (suc i))
  pub here : (i : ℕ) → suc i ≡ count → meaning C new i ≡ C.meant x
  pub stored : AllWithin C.canonical new 0 count
  pub rest : drop count new ≡ drop count old

pub room_some : (F : Field) (n m : ℕ) → F.size ^ n ≤ m → 0 < m
room_some F n m h = omega (arith, position_below F n (zeros F))

pub begun : {X : Type 0} (C : Coding X) (n : ℕ) (x : X) (rows : List X)
    → C.field.size ^ n ≤ length rows
    → ((k : ℕ) → C.meant x k ≡ C.field.nil)
    → C.canonical x
    → Begun C n 1 x (set rows 0 x) (set rows 0 x)
begun C n x rows room nil stored =
    let some : 0 < length rows = room_some C.field n (length rows) room in
    record {
      room = simp length-set room;
      number = ap suc (sym (position_zero C.field n (C.meant x) nil));
      long = λ k l. nil k;
      first = λ k. ap (λ v. v k) (meaning_same C rows 0 0 x some refl) ∙ nil k;
      follows = λ i l. absurd (omega arith);
      here = λ i e. meaning_same C rows 0 i x some (omega arith);
      stored = AllWithin-more_set rows 0 x some C.canonical (AllWithin-none C.canonical rows 0) stored;
      rest = refl;
    }

module _ {X : Type 0} {C : Coding X} {n count : ℕ} {x : X} {old new : List X} (three : C.field ≡ f3) (b : Begun C n count x old new) where
  next_number : (y : X) → Follows C.field n (C.meant x) (C.meant y) → count ≡ position C.field n (C.meant y)
  next_number y next = b.number ∙ sym (position_next C.field three next.1)

  pub next_below : (y : X) → Follows C.field n (C.meant x) (C.meant y) → count < C.field.size ^ n
  next_below y next = omega (arith, next_number y next, position_below C.field n (C.meant y))

  pub begun_more : (y : X) → Follows C.field n (C.meant x) (C.meant y) → C.canonical y
      → Begun C n (count + 1) y old (set new count y)
  begun_more y next stored =
      let within : count < length new = omega (arith, next_below y next, b.room) in
      let same = λ (i : ℕ) (e : i ≡ count). meaning_same C new count i y within e in
      let kept = λ (i : ℕ) (h : i ≢ count). sym (meaning_other C new count i y h) in
      record {
        room = simp length-set b.room;
        number = omega (arith, next_number y next);
        long = long_next C.field b.long next.1;
        first = λ k. ap (λ v. v k) (sym (kept 0 (omega (arith, b.number)))) ∙ b.first k;
        follows = λ i h.
            elim (dec_lt (suc i) count) [
              | yes t ↦ subst₂ (Follows C.field n) (kept i (omega arith)) (kept (suc i) (omega arith)) (b.follows i t)
              | no t ↦ subst₂ (Follows C.field n) (sym (b.here i (omega arith)) ∙ kept i (omega arith)) (sym (same (suc i) (omega arith))) next
            ];
        here = λ i e. same i (omega arith);
        stored = AllWithin-more_set new count y within C.canonical b.stored stored;
        rest = rest_more count y old new b.rest;
      }

-- after the last vector; the rows behind are as they were before the first was written, too
pub walked : {X : Type 0} {C : Coding X} {n count : ℕ} {x : X} {new : List X} (rows : List X) (z : X)
    → C.field ≡ f3
    → Begun C n count x (set rows 0 z) new
    → Last C.field n (C.meant x)
    → Walked C n count rows new
walked {C = C} {n = n} {count} {x} {new} rows z three b last =
    let some : 0 < count = omega (arith, b.number) in
    record {
      room = omega (arith, b.number, position_below C.field n (C.meant x), b.room);
      vectors = walk_is C.field three n count (meaning C new) some b.first b.follows (λ i e. subst (Last C.field n) (sym (b.here i e)) last);
      stored = b.stored;
      rest = b.rest ∙ drop-set-lt count rows 0 z some;
    }
