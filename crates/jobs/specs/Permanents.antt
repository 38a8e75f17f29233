-- The permanent of a sheet's matrix modulo 3, and when a sheet has none that is given.
use Rattle.std.specs.Prelude.{◌≡◌, ℕ, ◌%◌, ◌<◌, ◌≤◌, ◌≢◌, ◌⊎◌, List, [], length, slice_index, slice_index_or}
use Rattle.algebra.specs.Permanent.{permanent}
use Rattle.coding.specs.declared.vectors.Coding.{Ghosts as Coding}
use Rattle.coding.specs.Refusals.{number_of}
use Rattle.coding.specs.Walks.{meaning}
use Rattle.sheet.specs.declared.faults.Fault.{Fault}
use Rattle.sheet.specs.declared.faults.Layer.TheVariants.{Job}
use Rattle.sheet.specs.Format.{Sheet}
use Rattle.sheet.specs.Opened.{VectorOf}
use Rattle.jobs.specs.declared.sizes.Permanent.{Permanent}

-- the digit of row i at column j
abbrev pub entries : List (List ℕ) → ℕ → ℕ → ℕ
entries rows i j = slice_index (slice_index_or rows i []) j

-- the text is a sheet of as many rows as names, at most 60, with its size and its permanent modulo 3
pub record PermanentOf (text : List ℕ) (p : Permanent) : Type 0 where
  pub names : List (List ℕ)
  pub rows : List (List ℕ)
  pub sheet : Sheet names rows text
  pub square : length rows ≡ length names
  pub small : length names ≤ 60
  pub size : p.size ≡ length names
  pub digit : p.digit ≡ permanent (entries rows) (length names) % 3

-- the text is a sheet; 5: it has not as many rows as names; 6: it has, and more than 60
pub record NoPermanent (text : List ℕ) (f : Fault) : Type 0 where
  pub names : List (List ℕ)
  pub rows : List (List ℕ)
  pub sheet : Sheet names rows text
  pub layer : f.layer ≡ Job
  pub place : f.place ≡ length text
  pub why : ((number_of f.refusal ≡ 5) × (length rows ≢ length names)) ⊎ ((number_of f.refusal ≡ 6) × (length rows ≡ length names) × (60 < length names))

-- the first stored rows are the vectors of the first rows of digits
abbrev pub LinesRead : {X : Type 0} (C : Coding X) → List X → List (List ℕ) → ℕ → Type 0
LinesRead C stored rows count = (k : ℕ) → k < count → VectorOf C.field (meaning C stored k) (slice_index_or rows k [])
