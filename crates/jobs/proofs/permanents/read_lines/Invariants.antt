-- The lines so far are read, and the rows are as many as they were.
use Rattle.std.proofs.Common.{◌≤◌}
use Rattle.sheet.specs.Opened.{rows_of}
use Rattle.jobs.specs.Permanents.{LinesRead}
use Rattle.jobs.proofs.permanents.read_lines.Given as goal

abbrev pub invariant-loop-number : goal.invariant-loop-number
invariant-loop-number g l =
    l.sheet.names ≤ g.C.Coding.width → LinesRead g.C.Coding l.rows (rows_of l.sheet) l.number
