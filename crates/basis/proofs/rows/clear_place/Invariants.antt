-- The rows so far are cleared, and the others are as they were.
use Rattle.std.proofs.Common.{◌≡◌, map, take, drop}
use Rattle.std.specs.List.{AllWithin}
use Rattle.algebra.specs.Space.{less, times}
use Rattle.basis.proofs.rows.clear_place.Given as goal

abbrev pub invariant-loop-row : goal.invariant-loop-row
invariant-loop-row g l =
    (map g.C.Coding.meant (take l.row-index l.rows) ≡ map (λ x. less g.C.Coding.field (g.C.Coding.meant x) (times g.C.Coding.field (g.C.Coding.meant x l.place) (g.C.Coding.meant l.by))) (take l.row-index l.initial.rows))
    × (drop l.row-index l.rows ≡ drop l.row-index l.initial.rows)
    × AllWithin g.C.Coding.canonical l.rows 0 l.row-index
