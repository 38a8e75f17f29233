-- What the first rows leave of the vector.
use Rattle.std.proofs.Common.{take}
use Rattle.basis.specs.Form.{meant_rows}
use Rattle.basis.proofs.Questions.{remains}
use Rattle.basis.proofs.bases.Basis.remainder.Goals as goal

pub returns-clause-stands : goal.returns-clause-stands
returns-clause-stands g c vs s =
    remains g.C.Coding.field c.args.self.now.sizes.length (meant_rows g.C.Coding (take c.args.self.now.sizes.rank c.args.self.now.rows.now)) vs s.rows.form.normal (g.C.Coding.meant c.args.vector) (g.C.Coding.meant c.left_over.result)
    c.in_ok-check_long.ensures c.left_over.ensures.digits
