-- Which lengths a coding of some width takes.
use Rattle.std.specs.Prelude.{◌≡◌, ℕ, ◌<◌, ◌≤◌, ◌⊎◌}

pub record InRange (width n : ℕ) : Type 0 where
  pub some : 0 < n
  pub most : n ≤ width

abbrev pub OutOfRange : (width n : ℕ) → Type 0
OutOfRange width n = (n ≡ 0) ⊎ (width < n)
