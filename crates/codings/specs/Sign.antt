-- What a sign vector means, and what of it its digits leave open.
use Rattle.std.specs.Prelude.{◌≡◌, ℕ, ◌<◌, true}
use Rattle.words.specs.Bit.{bit}
use Rattle.algebra.specs.Field.{Digit}
use Rattle.codings.specs.SignWords.{digits}
use Rattle.codings.specs.declared.signs.Signs.{Signs}

abbrev pub meant_by : Signs → ℕ → Digit 3
meant_by x = digits 64 x.magnitude x.sign

-- two vectors that differ in their loose bits at most: one magnitude, and one sign wherever that is set
pub record Alike (x y : Signs) : Type 0 where
  pub magnitude : x.magnitude ≡ y.magnitude
  pub sign : (k : ℕ) → k < 64 → bit k y.magnitude ≡ true → bit k x.sign ≡ bit k y.sign
