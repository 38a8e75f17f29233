-- The names before this turn are passed, and none of them is the word.
use Rattle.std.proofs.Common.{◌≡◌, ℕ, ◌<◌, List, [], ◌++◌, length, get_or, drop}
use Rattle.std.specs.List.{AllByRecursion}
use Rattle.sheet.specs.Format.{Name}
use Rattle.sheet.specs.Reading.{spaced}
use Rattle.sheet.proofs.sheets.is_among.Given as goal

abbrev pub invariant-loop : goal.invariant-loop
invariant-loop l =
    (names : List (List ℕ)) (rest : List ℕ) → AllByRecursion Name names → length names ≡ l.count → l.text ≡ spaced names ++ rest
    → (drop l.next l.text ≡ spaced (drop l.counter names) ++ rest)
    × ((k : ℕ) → k < l.counter → get_or names k [] ≡ l.word → ⊥)
