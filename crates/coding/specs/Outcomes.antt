-- The bytes that a program prints for what a call came to.
use Rattle.std.specs.Prelude.{ℕ, List, ◌++◌, Option, Some, Ok, Err, Result, codes, decimal}
use Rattle.coding.specs.Refusals.{number_of}
use Rattle.coding.specs.declared.refusals.Refusal.{Refusal}

-- what was answered, if it has a text, or the number of the refusal
abbrev pub printed : {A : Type 0} → (A → Option (List ℕ)) → Result A Refusal → Option (List ℕ)
printed text (Ok x) = text x
printed text (Err e) = Some (codes "refused by " ++ decimal (number_of e))
