-- What one vector more comes to among rows in normal form.
use Rattle.std.specs.Prelude.{◌≡◌, ℕ, ◌+◌, ◌<◌, ◌≤◌, List, ◌∷◌, length, drop, Ok, Err, Result}
use Rattle.algebra.specs.Vector.{Vector}
use Rattle.algebra.specs.Space.{Comb}
use Rattle.coding.specs.declared.vectors.Coding.{Ghosts as Coding}
use Rattle.coding.specs.Refusals.{number_of}
use Rattle.coding.specs.declared.refusals.Refusal.{Refusal}
use Rattle.basis.specs.Form.{Form}
use Rattle.basis.specs.declared.taken.Taken.{Taken}
use Rattle.basis.specs.declared.taken.Taken.TheVariants.{Known, Grown}

-- only a row more changes the rows, only those up to it, and only where there is room for it
abbrev pub Moved : {X : Type 0} → (rank : ℕ) (old new : List X) → Result Taken Refusal → Type 0
Moved rank old new (Ok Known) = new ≡ old
Moved rank old new (Ok Grown) = (rank < length old) × (drop (rank + 1) new ≡ drop (rank + 1) old)
Moved rank old new (Err e) = (number_of e ≡ 8) × (length old ≤ rank) × (new ≡ old)

-- a combination of vs is known, and any other vector is one row more, or is refused for want of room
abbrev pub After : {X : Type 0} (C : Coding X) (n rank : ℕ) (new : List X) (vs : List (Vector C.field)) (v : Vector C.field) → Result Taken Refusal → Type 0
After C n rank new vs v (Ok Known) = Comb C.field vs v × Form C n rank new (v ∷ vs)
After C n rank new vs v (Ok Grown) = (Comb C.field vs v → ⊥) × (rank < n) × Form C n (rank + 1) new (v ∷ vs)
After C n rank new vs v (Err e) = (Comb C.field vs v → ⊥) × (rank < n)
