-- The caller's rows as the normal form of some vectors.
use Rattle.std.specs.Prelude.{◌≡◌, ℕ, ◌<◌, ◌≤◌, List, length, take}
use Rattle.std.specs.List.{AllWithin}
use Rattle.algebra.specs.Vector.{Vector, zeros}
use Rattle.algebra.specs.NormalForm.{Row, NormalForm, lead_in, rows_in}
use Rattle.coding.specs.declared.vectors.Coding.{Ghosts as Coding}

module _ {X : Type 0} (C : Coding X) where
  -- what stored rows mean, each with the place of its lead
  abbrev pub meant_rows : List X → List (Row C.field)
  meant_rows rows = rows_in C.field C.width C.meant rows

  -- the place of a stored row's lead
  abbrev pub lead_of : X → ℕ
  lead_of row = lead_in C.field C.width (C.meant row)

  -- the first rows are the normal form of vs, as vectors of length n, and are stored as answers are
  pub record Form (n rank : ℕ) (rows : List X) (vs : List (Vector C.field)) : Type 0 where
    pub fits : n ≤ C.width
    pub room : rank ≤ length rows
    pub normal : NormalForm C.field n (meant_rows (take rank rows)) vs
    pub stored : AllWithin C.canonical rows 0 rank

  -- the rows of a basis of length n: those from the rank up to n are zero, and are stored as answers are too
  pub record Rows (n rank : ℕ) (rows : List X) (vs : List (Vector C.field)) : Type 0 where
    pub some : 0 < n
    pub ranked : rank ≤ n
    pub room : n ≤ length rows
    pub form : Form n rank rows vs
    pub rest : AllWithin (λ x. (C.meant x ≡ zeros C.field) × C.canonical x) rows rank n
