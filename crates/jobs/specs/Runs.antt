-- What a run over the lines of an opened sheet has come to.
use Rattle.std.specs.Prelude.{◌≡◌, ℕ, map, reverse, take, Ok, Err, Result}
use Rattle.coding.specs.declared.vectors.Coding.{Ghosts as Coding}
use Rattle.coding.specs.declared.refusals.Refusal.{Refusal}
use Rattle.basis.specs.declared.bases.Basis.{Basis}
use Rattle.basis.specs.Stands.{Stands}
use Rattle.sheet.specs.declared.faults.Fault.{Fault}
use Rattle.sheet.specs.declared.faults.Layer.TheVariants.{Job}
use Rattle.sheet.specs.declared.opened.Opened.{Opened}
use Rattle.sheet.specs.Opened.{rows_of}
use Rattle.jobs.specs.Normal.{digits_of}

-- a refusal as a fault of the job, at the end of the text
abbrev pub placed : {A : Type 0} → ℕ → Result A Refusal → Result A Fault
placed end (Ok a) = Ok a
placed end (Err e) = Err (record { refusal = e; layer = Job; place = end })

-- the basis has a place for each name of a sheet, and stands for its first rows, the last of them first
pub record TakenIn {X : Type 0} (C : Coding X) (b : Basis X) (sheet : Opened) (count : ℕ) : Type 0 where
  pub long : b.sizes.length ≡ sheet.names
  pub stands : Stands C b (reverse (map (digits_of C.field) (take count (rows_of sheet))))
