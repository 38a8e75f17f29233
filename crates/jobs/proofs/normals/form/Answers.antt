-- A basis that was made stands for all lines at the end, and nothing is refused on the way.
use Rattle.std.proofs.Common.{◌≤◌, arith, rules}
use Rattle.jobs.proofs.Lines.{run_begins, run_ends}
use Rattle.jobs.proofs.normals.form.Goals as goal

pub returns : goal.returns
returns g c wide room =
    let begun = run_begins g.C.Coding c.args.sheet.now wide c.names.result _ c.make-basis.result _ c.names.ensures room c.make-basis.ensures.made in
    let past : c.args.sheet.now.lines ≤ c.loop-number.number = omega (arith, c.lines-number-end.ensures) in
    let ends = run_ends g.C.Coding c.args.sheet.now wide c.loop-number.number c.loop-number.basis c.end.result c.rank.result past (c.loop-number.invariant.1 wide begun) c.rank.ensures in
    search rules
