-- The names before this turn are different, each with a blank after it.
use Rattle.sheet.proofs.Headings.{Walked}
use Rattle.sheet.proofs.sheets.names_line.Given as goal

abbrev pub invariant-loop-count : goal.invariant-loop-count
invariant-loop-count l = Walked l.text l.count l.next
