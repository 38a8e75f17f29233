-- The value lines so far stand after the head.
use Rattle.sheet.proofs.Bodies.{Put}
use Rattle.sheet.proofs.writes.write.Given as goal

abbrev pub invariant-loop-number : goal.invariant-loop-number
invariant-loop-number g l = Put g.C.Coding l.names l.rows l.head l.fn.output l.number l.output
