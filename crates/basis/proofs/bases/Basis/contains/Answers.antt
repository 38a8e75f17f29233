-- Nothing is left exactly of a combination.
use Rattle.std.proofs.Common.{take}
use Rattle.basis.specs.Form.{meant_rows}
use Rattle.basis.proofs.Questions.{all_gone, gone}
use Rattle.basis.proofs.bases.Basis.contains.Goals as goal

pub returns-clause-stands : goal.returns-clause-stands
returns-clause-stands g c vs s =
    let rows = meant_rows g.C.Coding (take c.args.self.now.sizes.rank c.args.self.now.rows.now) in
    let remains = c.in_ok-remainder.ensures.stands vs s in (
      (λ e. all_gone g.C.Coding.field c.args.self.now.sizes.length rows vs s.rows.form.normal (g.C.Coding.meant c.args.vector) (g.C.Coding.meant c.in_ok-remainder.field-0) remains (c.is_zero.ensures.0 e)),
      (λ k. c.is_zero.ensures.1 (gone g.C.Coding.field c.args.self.now.sizes.length rows vs s.rows.form.normal (g.C.Coding.meant c.args.vector) (g.C.Coding.meant c.in_ok-remainder.field-0) remains k)),
    )
