use Rattle.std.proofs.Common.{◌∙◌, rules}
use Rattle.codings.proofs.SignPlanes.{weight_ones}
use Rattle.codings.proofs.signs.SignsCoding.weight.Goals as goal

pub returns : goal.returns
returns c = c.count.ensures.value ∙ weight_ones 64 c.args.self.magnitude c.args.self.sign (search rules) (search rules)
