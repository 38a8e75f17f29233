-- A chosen row is added, and any other is left.
use Rattle.std.proofs.Common.{◌+◌, sym, refl, subst}
use Rattle.std.proofs.lemmas.Bool.{false≢true}
use Rattle.tally.proofs.RowSums.{SumsTo, row_chosen, row_left}
use Rattle.tally.proofs.shares.Matrix.chosen_sum.Goals as goal
use Rattle.tally.proofs.shares.Matrix.chosen_sum.Goals.{then-chooses, else-chooses}

pub loop-j-preserved : goal.loop-j-preserved
loop-j-preserved g c =
    let To = λ (x : g.row.C.Denot). SumsTo g.C.Coding c.args.self.now.rows.now c.args.code (c.loop-j.j + 1) (g.C.Coding.meant x) in
    elim c.if-chooses.branch [
      | then-chooses w ↦ subst To (sym w.sum-is)
          (row_chosen g.met.C.Ternary.three (g.C.Coding.meant w.sum-sum.result) c.loop-j-test.true c.row-item.is (w.if-chooses.ensures.0 refl) w.sum-sum.ensures.digits c.loop-j.invariant)
      | else-chooses w ↦ subst To (sym w.sum-is)
          (row_left (λ chosen. false≢true (w.if-chooses.ensures.1 chosen)) c.loop-j.invariant)
    ]
