-- Every vector so far has the length.
use Rattle.std.proofs.Common.{take}
use Rattle.std.specs.List.{AllByRecursion}
use Rattle.algebra.specs.Vector.{Long}
use Rattle.coding.proofs.lengths.all_long.Given as goal

abbrev pub invariant-loop-vector : goal.invariant-loop-vector
invariant-loop-vector g l = AllByRecursion (λ x. Long g.C.Coding.field l.n (g.C.Coding.meant x)) (take l.vector-index l.vectors)
