-- So far the rows before have been taken off.
use Rattle.std.proofs.Common.{◌≡◌, take}
use Rattle.algebra.specs.NormalForm.{reduced}
use Rattle.basis.specs.Form.{meant_rows}
use Rattle.basis.proofs.rows.left_over.Given as goal

abbrev pub invariant-loop-row : goal.invariant-loop-row
invariant-loop-row g l =
    (g.C.Coding.meant l.left ≡ reduced g.C.Coding.field (meant_rows g.C.Coding (take l.row-index l.rows)) (g.C.Coding.meant l.initial.left))
    × g.C.Coding.canonical l.left
