use Rattle.codings.proofs.OneWord.{negation_word}
use Rattle.codings.proofs.full.FullWord.negation.Goals as goal

pub returns : goal.returns
returns c = (negation_word _ _ c.swapped.ensures c.args.self.full).meaning
