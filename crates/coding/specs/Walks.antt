-- What a walk through all vectors of length n leaves in the caller's rows.
use Rattle.std.specs.Prelude.{◌≡◌, ℕ, ◌≤◌, List, map, length, drop, slice_index_or}
use Rattle.std.specs.List.{AllWithin}
use Rattle.algebra.specs.Vector.{Vector, zeros}
use Rattle.algebra.specs.Successor.{Walk}
use Rattle.coding.specs.declared.vectors.Coding.{Ghosts as Coding}

-- the vector that row i means, and zero past the last row
abbrev pub meaning : {X : Type 0} (C : Coding X) → List X → ℕ → Vector C.field
meaning C rows i = slice_index_or (map C.meant rows) i (zeros C.field)

-- the first `count` rows are the walk, each stored as an answer is, and the rows from there on are as they were
pub record Walked {X : Type 0} (C : Coding X) (n count : ℕ) (old new : List X) : Type 0 where
  pub room : count ≤ length new
  pub vectors : Walk C.field n count (meaning C new)
  pub stored : AllWithin C.canonical new 0 count
  pub rest : drop count new ≡ drop count old
