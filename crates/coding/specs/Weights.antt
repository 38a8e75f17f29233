-- The numbers of a list's vectors by their weight.
use Rattle.std.specs.Prelude.{◌≡◌, ℕ, suc, ◌<◌, ◌≤◌, List, length, drop, count_by, nat_eq, slice_index}
use Rattle.algebra.specs.Vector.{weight}
use Rattle.coding.specs.declared.vectors.Coding.{Ghosts as Coding}

-- number i counts the rows of weight i, for every weight that a vector of this width can have, and later numbers are as they were
pub record Counted {X : Type 0} (C : Coding X) (rows : List X) (old new : List ℕ) : Type 0 where
  pub room : C.width < length new
  pub counts : (i : ℕ) → i ≤ C.width → slice_index new i ≡ count_by (λ x. nat_eq (weight C.field C.width (C.meant x)) i) rows
  pub rest : drop (suc C.width) new ≡ drop (suc C.width) old
