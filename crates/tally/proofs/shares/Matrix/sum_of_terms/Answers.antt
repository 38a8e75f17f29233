-- One term more is added.
use Rattle.std.proofs.Common.{◌≡◌, ◌+◌, ◌-◌, length, subst, arith}
use Rattle.algebra.specs.Gray.{gray_code, term}
use Rattle.tally.specs.Matrix.{matrix, Sums}
use Rattle.tally.proofs.RowSums.{total_more}
use Rattle.tally.proofs.shares.Matrix.sum_of_terms.Goals as goal

pub loop-position-preserved : goal.loop-position-preserved
loop-position-preserved g c =
    let rows = c.args.self.now.rows.now in
    let same : c.loop-position.position ≡ c.loop-position.position + 1 - 1 = omega arith in
    record {
      sums = subst (λ p. Sums g.C.Coding rows (length rows) (gray_code p) (g.C.Coding.meant c.mended-sum.result)) same c.mended-sum.ensures;
      added = total_more (term (matrix g.C.Coding rows) (length rows)) (omega (arith, c.loop-position.auto.position)) c.loop-position.invariant.added c.term.ensures;
    }
