-- The digit at the place is below the field's size, so its multiple is the one that is taken off.
use Rattle.std.proofs.Common.{◌<◌, arith}
use Rattle.algebra.specs.Field.{value}
use Rattle.basis.proofs.Leading.{cleared_is}
use Rattle.basis.proofs.rows.cleared.Goals as goal

pub returns-clause-digits : goal.returns-clause-digits
returns-clause-digits g c =
    let d : value (g.C.Coding.meant c.args.vector c.args.place) < g.C.Coding.field.size = (g.C.Coding.meant c.args.vector c.args.place).1 in
    cleared_is g.C.Coding.field (g.C.Coding.meant c.args.vector) (g.C.Coding.meant c.args.row) (g.C.Coding.meant c.multiple.result) (g.C.Coding.meant c.difference.result) c.args.place c.digit_at.result
    c.digit_at.ensures (c.multiple.ensures.digits (omega (arith, d, c.digit_at.ensures))) c.difference.ensures.digits
