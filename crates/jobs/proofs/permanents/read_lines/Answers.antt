-- One line more is read, and none is refused.
use Rattle.std.proofs.Common.{arith}
use Rattle.sheet.specs.Opened.{rows_of}
use Rattle.jobs.proofs.Squares.{lines_more}
use Rattle.jobs.proofs.permanents.read_lines.Goals as goal

pub loop-number-preserved : goal.loop-number-preserved
loop-number-preserved g c wide =
    lines_more g.C.Coding c.loop-number.rows (rows_of c.args.sheet.now) c.loop-number.number c.in_ok-rows.field-0
    (omega (arith, c.loop-number-test.true, c.requires, c.lines-number-end.ensures, c.loop-number.auto.rows))
    c.in_ok-rows.ensures.1 (c.loop-number.invariant wide)
