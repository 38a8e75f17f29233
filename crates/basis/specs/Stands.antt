-- What a basis stands for, and what its calls leave alone.
use Rattle.std.specs.Prelude.{◌≡◌, ◌≤◌, List, drop, Ok}
use Rattle.algebra.specs.Vector.{Vector}
use Rattle.coding.specs.declared.vectors.Coding.{Ghosts as Coding}
use Rattle.basis.specs.Form.{Rows}
use Rattle.basis.specs.declared.bases.Basis.{Basis}

-- it is not void, and its rows are the normal form of vs
pub record Stands {X : Type 0} (C : Coding X) (b : Basis X) (vs : List (Vector C.field)) : Type 0 where
  pub live : b.making ≡ Ok tt
  pub rows : Rows C b.sizes.length b.sizes.rank b.rows.now vs

-- what no call changes: the length, the answer of its making, the rows beyond the length, and whose rows they are
pub record Kept {X : Type 0} (old new : Basis X) : Type 0 where
  pub long : new.sizes.length ≡ old.sizes.length
  pub making : new.making ≡ old.making
  pub beyond : drop old.sizes.length new.rows.now ≡ drop old.sizes.length old.rows.now
  pub lent : new.rows.ghost_name ≡ old.rows.ghost_name

-- nothing has changed
pub record Same {X : Type 0} (old new : Basis X) : Type 0 where
  pub rows : new.rows.now ≡ old.rows.now
  pub sizes : new.sizes ≡ old.sizes
  pub making : new.making ≡ old.making

-- there is no row for one vector more; of a basis that was made, no vector that is not known finds that
abbrev pub NoRoom : {X : Type 0} → Basis X → Type 0
NoRoom b = b.sizes.length ≤ b.sizes.rank
