-- A share lies within the positions.
use Rattle.std.proofs.Common.{arith}
use Rattle.tally.proofs.RowSums.{share_ends}
use Rattle.tally.proofs.shares.Matrix.share_digit.Goals as goal

pub overflow_mul-start : goal.overflow_mul-start
overflow_mul-start g c = omega (arith, share_ends c.args.self.now.small c.requires c.share_size-size.ensures)

pub overflow_add-start : goal.overflow_add-start
overflow_add-start g c = omega (arith, share_ends c.args.self.now.small c.requires c.share_size-size.ensures)

pub sum_of_terms-requires : goal.sum_of_terms-requires
sum_of_terms-requires g c = let t = share_ends c.args.self.now.small c.requires c.share_size-size.ensures in (omega (arith, t.some), t.most)
