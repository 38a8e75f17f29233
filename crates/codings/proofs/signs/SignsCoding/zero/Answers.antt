use Rattle.codings.specs.SignWordsLemmas.{zero_digits}
use Rattle.codings.proofs.signs.SignsCoding.zero.Goals as goal

pub returns-clause-digits : goal.returns-clause-digits
returns-clause-digits c = zero_digits 64
