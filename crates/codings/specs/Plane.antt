-- What a plane vector means, and how an answer stores it.
use Rattle.std.specs.Prelude.{◌≡◌, ℕ}
use Rattle.algebra.specs.Field.{Digit}
use Rattle.algebra.specs.Modulo.{f3}
use Rattle.algebra.specs.Vector.{Vector}
use Rattle.codings.specs.TwoPlanes.{digits, spelled1, spelled2}
use Rattle.codings.specs.declared.planes.Planes.{Planes}

abbrev pub meant_by : Planes → ℕ → Digit 3
meant_by x = digits 64 x.first x.second

-- the one plane vector that an answer with these digits is
abbrev pub spelled : Vector f3 → Planes
spelled v = record { first = spelled1 64 v; second = spelled2 64 v }

abbrev pub Canonical : Planes → Type 0
Canonical x = x ≡ spelled (meant_by x)
