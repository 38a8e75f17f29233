-- The successor of a vector within n places, and what it is to walk through all vectors of length n.
use Rattle.std.specs.Prelude.{◌≡◌, ℕ, suc, ◌^◌, ◌<◌, ◌≢◌}
use Rattle.algebra.specs.Field.{Field, of}
use Rattle.algebra.specs.Vector.{Vector, Long}

-- w follows v within n places, and d is the lowest place below n whose digit in v is not 2
pub record Next (F : Field) (n : ℕ) (v : Vector F) (d : ℕ) (w : Vector F) : Type 0 where
  pub within : d < n
  pub twos : (k : ℕ) → k < d → v k ≡ of F 2
  pub room : v d ≢ of F 2
  pub cleared : (k : ℕ) → k < d → w k ≡ F.nil
  pub raised : w d ≡ F.add (v d) F.one
  pub negated : (k : ℕ) → d < k → w k ≡ F.neg (v k)

-- the last vector within n places: all digits below n are 2
abbrev pub Last : (F : Field) → ℕ → Vector F → Type 0
Last F n v = (k : ℕ) → k < n → v k ≡ of F 2

-- rows 0 to count - 1, each the successor of the one before, are the vectors of length n, each once and none other
pub record Walk (F : Field) (n count : ℕ) (row : ℕ → Vector F) : Type 0 where
  pub whole : count ≡ F.size ^ n
  pub first : (k : ℕ) → row 0 k ≡ F.nil
  pub follows : (i : ℕ) → suc i < count → (d : ℕ) × Next F n (row i) d (row (suc i))
  pub last : (i : ℕ) → suc i ≡ count → Last F n (row i)
  pub long : (i : ℕ) → i < count → Long F n (row i)
  pub each : (v : Vector F) → Long F n v → (i : ℕ) × (i < count) × ((k : ℕ) → row i k ≡ v k)
  pub once : (i j : ℕ) → i < count → j < count → ((k : ℕ) → row i k ≡ row j k) → i ≡ j
