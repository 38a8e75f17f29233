-- The vectors at the free places so far are taken in.
use Rattle.std.proofs.Common.{◌≤◌, length}
use Rattle.basis.proofs.Freely.{Begun}
use Rattle.basis.proofs.duals.write_dual.Given as goal

abbrev pub invariant-loop-place : goal.invariant-loop-place
invariant-loop-place g l =
    (l.count ≤ length l.output)
    × Begun g.C.Coding l.n l.rows l.initial.output l.place l.count l.output
