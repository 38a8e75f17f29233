use Rattle.std.proofs.Common.{◌∙◌}
use Rattle.codings.proofs.OneWord.{cut_full, cut_digits}
use Rattle.codings.proofs.singles.narrow.Goals as goal

pub invariant_of-cut : goal.invariant_of-cut
invariant_of-cut c = record { full = cut_full _ _ _ c.read-v1.ensures.full c.paired.ensures }

pub returns-clause-digits : goal.returns-clause-digits
returns-clause-digits c = λ long k. c.stored.ensures.digits k ∙ cut_digits _ _ _ _ c.read-v1.ensures.digits long c.paired.ensures k
