use Rattle.std.proofs.Common.{true, false, sym, ◌∙◌, arith, rules}
use Rattle.codings.proofs.SignPlanes.{lead_none, lead_some}
use Rattle.codings.proofs.signs.SignsCoding.lead.Goals as goal

pub returns-then-self-eq0 : goal.returns-then-self-eq0
returns-then-self-eq0 c =
    lead_none 64 c.args.self.magnitude c.args.self.sign (search rules) (search rules) c.if-self-eq0.true

pub returns-then-holds : goal.returns-then-holds
returns-then-holds c =
    lead_some 64 c.args.self.magnitude c.args.self.sign (search rules) (search rules)
    (omega (arith, c.if-self-eq0.false)) true (sym c.holds.ensures ∙ c.if-holds.true)

pub returns-else-holds : goal.returns-else-holds
returns-else-holds c =
    lead_some 64 c.args.self.magnitude c.args.self.sign (search rules) (search rules)
    (omega (arith, c.if-self-eq0.false)) false (sym c.holds.ensures ∙ c.if-holds.false)
