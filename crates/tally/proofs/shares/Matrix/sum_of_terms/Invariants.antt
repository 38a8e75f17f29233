-- The terms before the position are added up, and the sum is that of the position before.
use Rattle.std.proofs.Common.{◌≡◌, ◌-◌, ◌%◌, length}
use Rattle.std.specs.List.{range_with_len}
use Rattle.algebra.specs.Permanent.{sum_over}
use Rattle.algebra.specs.Gray.{gray_code, term}
use Rattle.tally.specs.Matrix.{matrix, Sums}
use Rattle.tally.proofs.shares.Matrix.sum_of_terms.Given as goal

abbrev pub invariant-loop-position : goal.invariant-loop-position
invariant-loop-position g l =
    let rows = l.self.rows.now in
    record {
      sums : Sums g.C.Coding rows (length rows) (gray_code (l.position - 1)) (g.C.Coding.meant l.sum);
      added : l.total ≡ sum_over (term (matrix g.C.Coding rows) (length rows)) (range_with_len l.start (l.position - l.start)) % 3;
    }
