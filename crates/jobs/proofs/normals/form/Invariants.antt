-- The basis stands for the lines so far if it did for none at first, and its rows are those that were lent.
use Rattle.std.proofs.Common.{◌≡◌, ◌≤◌}
use Rattle.jobs.specs.Runs.{TakenIn}
use Rattle.jobs.proofs.normals.form.Given as goal

abbrev pub invariant-loop-number : goal.invariant-loop-number
invariant-loop-number g l =
    (l.basis.rows.ghost_name ≡ l.initial.basis.rows.ghost_name)
    × (l.sheet.names ≤ g.C.Coding.width
    → TakenIn g.C.Coding l.initial.basis l.sheet 0
    → TakenIn g.C.Coding l.basis l.sheet l.number)
