-- Zero with one digit changed to 1.
use Rattle.std.proofs.Common.{ap, ◌∙◌}
use Rattle.basis.proofs.Freely.{unit_or}
use Rattle.basis.proofs.duals.unit.Goals as goal

pub returns-clause-digits : goal.returns-clause-digits
returns-clause-digits g c h k =
    ap (λ x. g.C.Coding.meant x k) c.unwrap_or.ensures
    ∙ unit_or g.C.Coding c.args.place c.change.result c.zero.result c.zero-2.result c.zero.ensures.digits c.change.ensures h k
