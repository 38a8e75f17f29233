use Rattle.std.proofs.Common.{◌∙◌}
use Rattle.codings.proofs.OneWord.{zero_word}
use Rattle.codings.proofs.singles.SingleCoding.zero.Goals as goal

pub invariant_of-stored : goal.invariant_of-stored
invariant_of-stored c = record { full = zero_word.full }

pub returns-clause-digits : goal.returns-clause-digits
returns-clause-digits c = λ k. c.stored.ensures.digits k ∙ zero_word.meaning k
