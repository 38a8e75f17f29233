-- The digits so far stand first, with a blank after each.
use Rattle.std.proofs.Common.{◌≡◌, ◌*◌, ◌++◌, drop}
use Rattle.sheet.specs.Writes.{digits}
use Rattle.sheet.proofs.Values.{figures}
use Rattle.sheet.proofs.writes.write_row.Given as goal

abbrev pub invariant-loop-k : goal.invariant-loop-k
invariant-loop-k g l = l.output ≡ figures (digits g.C.Coding l.k l.row) ++ drop (2 * l.k) l.initial.output
