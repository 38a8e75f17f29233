-- What is written is the dual of the first rows, which are as many as the rank.
use Rattle.std.proofs.Common.{subst, arith}
use Rattle.std.proofs.lemmas.List.{length-take-le}
use Rattle.basis.specs.Answers.{WroteDual}
use Rattle.basis.proofs.bases.Basis.dual.Goals as goal

pub returns-clause-stands : goal.returns-clause-stands
returns-clause-stands g c vs s =
    let size = length-take-le c.args.self.now.sizes.rank c.args.self.now.rows.now s.rows.form.room in
    subst (λ k. WroteDual g.C.Coding c.args.self.now.sizes.length k vs c.args.output.now c.write_dual.new.output c.write_dual.result) size
    (c.write_dual.ensures vs s.rows.form.fits s.rows.form.normal (omega (arith, size, c.in_ok-check_room.ensures)))
