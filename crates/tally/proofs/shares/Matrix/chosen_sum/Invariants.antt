-- The chosen rows so far are added up.
use Rattle.tally.proofs.RowSums.{SumsTo}
use Rattle.tally.proofs.shares.Matrix.chosen_sum.Given as goal

abbrev pub invariant-loop-j : goal.invariant-loop-j
invariant-loop-j g l = SumsTo g.C.Coding l.self.rows.now l.code l.j (g.C.Coding.meant l.sum)
