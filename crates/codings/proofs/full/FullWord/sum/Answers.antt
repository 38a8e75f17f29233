use Rattle.codings.proofs.OneWord.{sum_word}
use Rattle.codings.proofs.full.FullWord.sum.Goals as goal

pub invariant_of-result : goal.invariant_of-result
invariant_of-result c =
    record { full = (sum_word _ _ c.args.self.full c.args.other.full _ _ c.swapped.ensures c.swapped-2.ensures).full }

pub returns : goal.returns
returns c = (sum_word _ _ c.args.self.full c.args.other.full _ _ c.swapped.ensures c.swapped-2.ensures).meaning
