use Rattle.codings.specs.TwoPlanesLemmas.{shared_sum_digits, shared_sum_full, shared_difference_digits, shared_difference_full}
use Rattle.codings.proofs.full.FullPlanes.sum_and_difference.Goals as goal

pub invariant_of-sum : goal.invariant_of-sum
invariant_of-sum c = record { full = shared_sum_full 64 _ _ _ _ c.args.self.full c.args.other.full }

pub invariant_of-difference : goal.invariant_of-difference
invariant_of-difference c = record { full = shared_difference_full 64 _ _ _ _ c.args.self.full c.args.other.full }

pub returns-clause-sums : goal.returns-clause-sums
returns-clause-sums c = shared_sum_digits 64 _ _ _ _ c.args.self.full c.args.other.full

pub returns-clause-differences : goal.returns-clause-differences
returns-clause-differences c = shared_difference_digits 64 _ _ _ _ c.args.self.full c.args.other.full
