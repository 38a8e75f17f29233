-- Vectors added and multiplied place by place, their combinations, and when two lists span the same space.
use Rattle.std.specs.Prelude.{◌≡◌, ℕ, ◌↔◌, List, [], ◌∷◌}
use Rattle.algebra.specs.Field.{Field, Digit}
use Rattle.algebra.specs.Vector.{Vector, zeros, dot}

-- what holds of each element
abbrev pub Each : {X : Type 0} → (X → Type 0) → List X → Type 0
Each P [] = Unit {0}
Each P (x ∷ xs) = P x × Each P xs

module _ (F : Field) where
  abbrev pub plus : Vector F → Vector F → Vector F
  plus u v k = F.add (u k) (v k)

  abbrev pub times : Digit F.size → Vector F → Vector F
  times c v k = F.mul c (v k)

  abbrev pub less : Vector F → Vector F → Vector F
  less u v k = F.add (u k) (F.neg (v k))

  -- v is a combination of the vectors: v less some multiple of the first is one of the others, and none have only zero
  abbrev pub Comb : List (Vector F) → Vector F → Type 0
  Comb [] v = v ≡ zeros F
  Comb (u ∷ us) v = (c : Digit F.size) × Comb us (less v (times c u))

  -- the sum of the vectors, each times its digit
  abbrev pub combination : List (Digit F.size) → List (Vector F) → Vector F
  combination [] us = zeros F
  combination (c ∷ cs) [] = zeros F
  combination (c ∷ cs) (u ∷ us) = plus (times c u) (combination cs us)

  abbrev pub SameSpan : List (Vector F) → List (Vector F) → Type 0
  SameSpan us vs = (v : Vector F) → Comb us v ↔ Comb vs v

  -- the dot product with each of the vectors, over the places below n, is 0
  abbrev pub Orthogonal : ℕ → List (Vector F) → Vector F → Type 0
  Orthogonal n us v = Each (λ u. dot F n v u ≡ F.nil) us
