-- What a single vector means, and how an answer stores it: V1 is the upper half of the word, and V2 the lower.
use Rattle.std.specs.Prelude.{◌≡◌, ℕ, ◌+◌, ◌*◌, ◌^◌}
use Rattle.algebra.specs.Field.{Digit}
use Rattle.algebra.specs.Modulo.{f3}
use Rattle.algebra.specs.Vector.{Vector}
use Rattle.codings.specs.TwoPlanes.{digits, Full, spelled1, spelled2}
use Rattle.codings.specs.Halves.{upper, lower}
use Rattle.codings.specs.declared.singles.Single.{Single}

-- the digits that a word means
abbrev pub in_halves : ℕ → ℕ → Digit 3
in_halves n = digits 32 (upper n) (lower n)

-- at every place a bit is set in one half or in both
abbrev pub FullHalves : ℕ → Type 0
FullHalves n = Full 32 (upper n) (lower n)

-- a word with full halves that mean v
pub record Means (n : ℕ) (v : Vector f3) : Type 0 where
  pub full : FullHalves n
  pub meaning : (k : ℕ) → in_halves n k ≡ v k

abbrev pub spelled_word : Vector f3 → ℕ
spelled_word v = spelled1 32 v * 2 ^ 32 + spelled2 32 v

abbrev pub meant_by : Single → ℕ → Digit 3
meant_by x = in_halves x.word

-- the one single vector that an answer with these digits is
abbrev pub spelled : Vector f3 → Single
spelled v = record { word = spelled_word v }

abbrev pub Canonical : Single → Type 0
Canonical x = x ≡ spelled (meant_by x)
