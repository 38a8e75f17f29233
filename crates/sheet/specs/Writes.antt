-- What the writer leaves in the caller's bytes, and why it refuses.
use Rattle.std.specs.Prelude.{◌≡◌, ℕ, ◌<◌, ◌≤◌, List, map, length, take, drop}
use Rattle.std.specs.List.{range_with_len, HoldsAt, AllByRecursion}
use Rattle.algebra.specs.Field.{value}
use Rattle.algebra.specs.Vector.{Long}
use Rattle.coding.specs.declared.vectors.Coding.{Ghosts as Coding}
use Rattle.sheet.specs.Format.{Names, Sheet, line, written}
use Rattle.sheet.specs.Opened.{ReadsBack}

-- the text is the names line of these names
pub record Heads (names : List (List ℕ)) (text : List ℕ) : Type 0 where
  pub rule : Names names
  pub text_is : text ≡ line names

module _ {X : Type 0} (C : Coding X) where
  -- the digits of a row at the places below n, in their order
  abbrev pub digits : ℕ → X → List ℕ
  digits n row = map (λ k. value (C.meant row k)) (range_with_len 0 n)

  -- the sheet of these names and rows
  abbrev pub text : List (List ℕ) → List X → List ℕ
  text names rows = written names (map (digits (length names)) rows)

  -- the first `size` bytes are the sheet of the head's names and the rows, and later bytes are as they were
  pub record Wrote (head : List ℕ) (rows : List X) (old new : List ℕ) (size : ℕ) : Type 0 where
    pub names : List (List ℕ)
    pub head_is : Heads names head
    pub fit : length names ≤ C.width
    pub long : AllByRecursion (λ row. Long C.field (length names) (C.meant row)) rows
    pub whole : size ≡ length (text names rows)
    pub sheet : Sheet names (map (digits (length names)) rows) (take size new)
    pub back : ReadsBack names (map (digits (length names)) rows) (take size new)
    pub rest : drop size new ≡ drop size old

  -- the number of a refusal with its reason; each reason says that those before it do not hold
  pub data Refused (head : List ℕ) (rows : List X) (room : ℕ) (number : ℕ) : Type 0 where
    bad_names : number ≡ 3
        → ((names : List (List ℕ)) → Heads names head → ⊥)
        → Refused head rows room number
    length_out_of_range : number ≡ 6 → (names : List (List ℕ)) → Heads names head
        → C.width < length names
        → Refused head rows room number
    text_too_long : number ≡ 1 → (names : List (List ℕ)) → Heads names head
        → length names ≤ C.width
        → 65000 < length (text names rows)
        → Refused head rows room number
    too_little_room : number ≡ 8 → (names : List (List ℕ)) → Heads names head
        → length names ≤ C.width
        → length (text names rows) ≤ 65000
        → room < length (text names rows)
        → Refused head rows room number
    beyond_length : number ≡ 11 → (names : List (List ℕ)) → Heads names head
        → length names ≤ C.width
        → length (text names rows) ≤ 65000
        → length (text names rows) ≤ room
        → (i : ℕ) → i < length rows → HoldsAt (λ row. Long C.field (length names) (C.meant row) → ⊥) rows i
        → Refused head rows room number
