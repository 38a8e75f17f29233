-- The two halves of a word of 64 bits.
use Rattle.std.specs.Prelude.{◌≡◌, ℕ, ◌/◌, ◌%◌, ◌^◌}

abbrev pub upper : ℕ → ℕ
upper n = n / 2 ^ 32

abbrev pub lower : ℕ → ℕ
lower n = n % 2 ^ 32

pub record Halves (n a b : ℕ) : Type 0 where
  pub upper_is : upper n ≡ a
  pub lower_is : lower n ≡ b
