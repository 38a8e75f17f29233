-- The bytes that a program prints for a refused sheet.
use Rattle.std.specs.Prelude.{ℕ, List, [], ◌∷◌, ◌++◌, codes, decimal}
use Rattle.coding.specs.Refusals.{number_of}
use Rattle.sheet.specs.declared.faults.Fault.{Fault}
use Rattle.sheet.specs.Format.{line}
use Rattle.sheet.specs.Layers.{word_of}

-- the names of three values, then the values: a word, and two numbers in decimal digits
abbrev pub named : List ℕ → ℕ → ℕ → List ℕ
named layer refusal place =
    line (codes "layer" ∷ codes "refusal" ∷ codes "place" ∷ [])
    ++ line (layer ∷ decimal refusal ∷ decimal place ∷ [])

-- the two lines of a fault
abbrev pub printed : Fault → List ℕ
printed f = named (word_of f.layer) (number_of f.refusal) f.place
