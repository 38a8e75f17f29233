-- Rows and spans of two codings, which may be of different types.
use Rattle.std.specs.Prelude.{◌≡◌, ℕ, ◌<◌, ◌↔◌, List, slice_index_or}
use Rattle.algebra.specs.Field.{Field, value, of}
use Rattle.algebra.specs.Vector.{Vector}
use Rattle.algebra.specs.Space.{Comb}
use Rattle.coding.specs.declared.vectors.Coding.{Ghosts as Coding}

-- the rows with numbers below n hold equal digits at the places below n
abbrev pub SameDigits : {X Y : Type 0} → Coding X → Coding Y → ℕ → List X → List Y → Type 0
SameDigits {X} {Y} C D n xs ys = (i k : ℕ) (d : X) (e : Y) → i < n → k < n → value (C.meant (slice_index_or xs i d) k) ≡ value (D.meant (slice_index_or ys i e) k)

-- the same vectors of numbers, taken as digits, are combinations
abbrev pub SameSpans : (F G : Field) → List (Vector F) → List (Vector G) → Type 0
SameSpans F G vs ws = (u : ℕ → ℕ) → Comb F vs (λ k. of F (u k)) ↔ Comb G ws (λ k. of G (u k))
