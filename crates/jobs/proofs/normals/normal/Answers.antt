-- What is written are the rows of the basis, which the lines came to.
use Rattle.std.proofs.Common.{◌≤◌, arith}
use Rattle.codings.specs.Plane.{meant_by, Canonical}
use Rattle.jobs.proofs.Forms.{written_out}
use Rattle.jobs.proofs.normals.normal.Goals as goal

pub returns : goal.returns
returns c =
    let o = c.in_ok-sheet.ensures in
    let most : c.in_ok-sheet.sheet.names ≤ 64 = omega (arith, o.describes.names_are, o.describes.sheet.names_rule.most) in
    let done = written_out 64 meant_by Canonical (omega arith) c.args.text.now c.in_ok-sheet.sheet o c.head.result.now c.head.ensures
    c.in_ok-rank.rank c.form.new.rows (c.in_ok-rank.ensures most most) c.args.output.now c.write.new.output c.write.result c.write.ensures in
    rw c.at_end.ensures done
