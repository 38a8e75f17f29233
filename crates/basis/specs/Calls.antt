-- What a list of calls has had accepted, from the calls alone.
use Rattle.std.specs.Prelude.{ℕ, cond, List, [], ◌∷◌, fold}
use Rattle.algebra.specs.Vector.{Vector, long_within}
use Rattle.coding.specs.declared.vectors.Coding.{Ghosts as Coding}
use Rattle.basis.specs.declared.calls.Call.{Call}
use Rattle.basis.specs.declared.calls.Call.TheVariants.{TakeIn, Clear, Dual, Ask}

module _ {X : Type 0} (C : Coding X) (n : ℕ) where
  -- taking in accepts a vector of length n, and clearing drops all; every other call, and every refused one, changes nothing
  abbrev pub after_call : List (Vector C.field) → Call X → List (Vector C.field)
  after_call vs (TakeIn x) = cond (long_within C.field C.width n (C.meant x)) (C.meant x ∷ vs) vs
  after_call vs Clear = []
  after_call vs (Dual room) = vs
  after_call vs (Ask question) = vs

  -- the accepted vectors, the last first
  abbrev pub accepted : List (Call X) → List (Vector C.field)
  accepted calls = fold after_call [] calls
