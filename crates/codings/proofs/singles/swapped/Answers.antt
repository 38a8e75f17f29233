use Rattle.std.proofs.Common.{sym, subst, arith}
use Rattle.codings.specs.Halves.{upper, lower, Halves}
use Rattle.codings.proofs.Halves.{beside}
use Rattle.codings.proofs.singles.swapped.Goals as goal

pub returns : goal.returns
returns c =
    let n = c.args.word in
    subst (λ r. Halves r (lower n) (upper n)) (sym c.rotate_left.ensures) (beside n (upper n) (omega arith))
