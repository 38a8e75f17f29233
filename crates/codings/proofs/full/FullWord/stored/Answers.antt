use Rattle.std.proofs.Common.{ap, rules}
use Rattle.codings.proofs.OneWord.{full_spelled}
use Rattle.codings.proofs.full.FullWord.stored.Goals as goal

pub returns-clause-stored : goal.returns-clause-stored
returns-clause-stored c = ap (λ n. record { word = n }) (full_spelled c.args.self.word (search rules) c.args.self.full)
