-- The basis is made, and stands for what the calls have had accepted.
use Rattle.std.proofs.Common.{rules}
use Rattle.basis.proofs.Running.{ran}
use Rattle.basis.proofs.runs.run.Goals as goal

pub returns : goal.returns
returns g c =
    let t = ran g.C.Coding c.args.n c.args.rows.now c.make-basis.result c.requires.0 c.requires.1 c.apply_all.new.basis c.args.calls.now c.args.scratch.now c.apply_all.new.scratch c.make-basis.ensures.made c.make-basis.ensures.beyond c.apply_all.ensures.stands c.apply_all.ensures.kept in
    search rules
