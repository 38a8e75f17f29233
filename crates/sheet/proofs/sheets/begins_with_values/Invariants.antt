-- The digits before this turn, each with a blank after it.
use Rattle.sheet.proofs.Digits.{Spelt}
use Rattle.sheet.proofs.sheets.begins_with_values.Given as goal

abbrev pub invariant-loop : goal.invariant-loop
invariant-loop l = Spelt l.text l.counter l.rest
