-- Which rows make a tally, and why others do not.
use Rattle.std.specs.Prelude.{◌≡◌, ℕ, ◌<◌, ◌≤◌, ◌⊎◌, List, length}
use Rattle.std.specs.List.{AllWithin}
use Rattle.algebra.specs.Vector.{Long}
use Rattle.coding.specs.declared.vectors.Coding.{Ghosts as Coding}
use Rattle.coding.specs.Lengths.{InRange}
use Rattle.coding.specs.Refusals.{number_of}
use Rattle.coding.specs.declared.refusals.Refusal.{Refusal}

-- the rows make a tally of size n and splits s
pub record Makes {X : Type 0} (C : Coding X) (n s : ℕ) (rows : List X) : Type 0 where
  pub range : InRange C.width n
  pub small : n ≤ 60
  pub few : s ≤ 6
  pub within : s ≤ n
  pub room : n < length rows
  pub long : AllWithin (λ x. Long C.field n (C.meant x)) rows 0 n

-- why no tally of size n and splits s is made over so many rows: size, splits, room, then a row of the matrix that has not length n
abbrev pub NotMade : {X : Type 0} (C : Coding X) (n s : ℕ) → List X → Refusal → Type 0
NotMade C n s rows e =
    ((number_of e ≡ 6) × (InRange C.width n × (n ≤ 60) → ⊥))
    ⊎ ((InRange C.width n × (n ≤ 60))
    × (((number_of e ≡ 7) × ((6 < s) ⊎ (n < s)))
    ⊎ (((s ≤ 6) × (s ≤ n))
    × (((number_of e ≡ 8) × (length rows ≤ n))
    ⊎ ((number_of e ≡ 11) × (n < length rows) × (AllWithin (λ x. Long C.field n (C.meant x)) rows 0 n → ⊥))))))
