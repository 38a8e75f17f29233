-- The normal form of a sheet's rows, and what the job that writes it leaves in the output.
use Rattle.std.specs.Prelude.{◌≡◌, ℕ, ◌<◌, ◌≤◌, List, map, length, take, drop, slice_index}
use Rattle.std.specs.List.{AllByRecursion}
use Rattle.algebra.specs.Field.{Field, of}
use Rattle.algebra.specs.Modulo.{f3}
use Rattle.algebra.specs.Vector.{Vector}
use Rattle.algebra.specs.NormalForm.{NormalForm, rows_in}
use Rattle.coding.specs.Refusals.{number_of}
use Rattle.sheet.specs.declared.faults.Fault.{Fault}
use Rattle.sheet.specs.declared.faults.Layer.TheVariants.{Job}
use Rattle.sheet.specs.Format.{Row, Sheet, written}

-- the vector of a row of digits: 0 from its end on
abbrev pub digits_of : (F : Field) → List ℕ → Vector F
digits_of F row k = of F (slice_index row k)

-- the forms are the rows in normal form with the combinations of these rows, all of n digits
pub record NormalOf (n : ℕ) (rows forms : List (List ℕ)) : Type 0 where
  pub each : AllByRecursion (Row n) forms
  pub form : NormalForm f3 n (rows_in f3 n (digits_of f3) forms) (map (digits_of f3) rows)

-- the text is a sheet; the first `size` bytes of the output are the sheet of its names and the normal form of its rows, and later bytes are as they were
pub record Normalized (text old new : List ℕ) (size : ℕ) : Type 0 where
  pub names : List (List ℕ)
  pub rows : List (List ℕ)
  pub forms : List (List ℕ)
  pub sheet : Sheet names rows text
  pub normal : NormalOf (length names) rows forms
  pub whole : size ≡ length (written names forms)
  pub output : Sheet names forms (take size new)
  pub rest : drop size new ≡ drop size old

-- 8: the text is a sheet, and the output has too few bytes for the sheet of its names and the normal form of its rows; 65,000 would do
pub record NoRoom (text old : List ℕ) (f : Fault) : Type 0 where
  pub names : List (List ℕ)
  pub rows : List (List ℕ)
  pub forms : List (List ℕ)
  pub sheet : Sheet names rows text
  pub normal : NormalOf (length names) rows forms
  pub number : number_of f.refusal ≡ 8
  pub layer : f.layer ≡ Job
  pub place : f.place ≡ length text
  pub little : length old < length (written names forms)
  pub short : length (written names forms) ≤ 65000
