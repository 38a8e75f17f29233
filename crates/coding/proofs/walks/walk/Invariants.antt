-- The rows so far begin the walk; each turn leaves one vector fewer to write.
use Rattle.std.proofs.Common.{◌-◌, ◌^◌}
use Rattle.coding.proofs.Rows.{Begun}
use Rattle.coding.proofs.walks.walk.Given as goal

abbrev pub invariant-loop-y : goal.invariant-loop-y
invariant-loop-y g l = Begun g.C.Coding l.n l.count l.x l.initial.output l.output

abbrev pub decreases-loop-y : goal.decreases-loop-y
decreases-loop-y g l = g.C.Coding.field.size ^ l.n - l.count
