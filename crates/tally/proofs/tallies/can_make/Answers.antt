-- A row of the matrix has not its length.
use Rattle.std.proofs.Common.{refl, inr, arith}
use Rattle.algebra.specs.Vector.{Long}
use Rattle.tally.proofs.Entries.{one_short}
use Rattle.tally.proofs.tallies.can_make.Goals as goal

pub returns-then-not-all_long : goal.returns-then-not-all_long
returns-then-not-all_long g c =
    inr (
      c.in_ok-check_size.ensures,
      inr (
        (c.if-splits-gt6.false, c.if-splits-size.false),
        inr (
          refl,
          omega (arith, c.in_ok-check_room.ensures),
          one_short (λ x. Long g.C.Coding.field c.args.size (g.C.Coding.meant x)) c.args.rows.now c.args.size (omega (arith, c.in_ok-check_room.ensures)) c.if-not-all_long.ensures,
        ),
      ),
    )
