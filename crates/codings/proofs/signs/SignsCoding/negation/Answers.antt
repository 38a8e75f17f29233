use Rattle.codings.specs.SignWordsLemmas.{negation_digits}
use Rattle.codings.proofs.signs.SignsCoding.negation.Goals as goal

pub returns-clause-digits : goal.returns-clause-digits
returns-clause-digits c = negation_digits 64 c.args.self.magnitude c.args.self.sign
