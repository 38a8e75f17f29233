-- The calls so far are run.
use Rattle.std.proofs.Common.{◌≡◌, List, take, drop, fold}
use Rattle.algebra.specs.Vector.{Vector}
use Rattle.basis.specs.Stands.{Stands, Kept}
use Rattle.basis.specs.Calls.{after_call}
use Rattle.basis.proofs.calls.apply_all.Given as goal

abbrev pub invariant-loop-call : goal.invariant-loop-call
invariant-loop-call g l =
    Kept l.initial.basis l.basis
    × ((vs : List (Vector g.C.Coding.field)) → Stands g.C.Coding l.initial.basis vs
    → Stands g.C.Coding l.basis (fold (after_call g.C.Coding l.initial.basis.sizes.length) vs (take l.call-index l.calls))
    × (drop l.initial.basis.sizes.length l.scratch ≡ drop l.initial.basis.sizes.length l.initial.scratch))
