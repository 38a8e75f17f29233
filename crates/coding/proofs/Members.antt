-- A coding from its members.
use Rattle.std.proofs.Common.{ℕ}
use Rattle.algebra.specs.Field.{Field}
use Rattle.algebra.specs.Vector.{Vector}
use Rattle.coding.specs.declared.vectors.Coding.{Ghosts as Coding}

abbrev pub coding : (F : Field) (width : ℕ) {X : Type 0} (meant : X → Vector F) (canonical : X → Type 0) → Coding X
coding F width meant canonical = record { field = F; width = width; meant = meant; canonical = canonical }
