use Rattle.std.proofs.Common.{ap, ◌∙◌, arith}
use Rattle.algebra.specs.Field.{value}
use Rattle.codings.proofs.Cases.{either_way}
use Rattle.codings.proofs.singles.SingleCoding.digit.Goals as goal

pub returns : goal.returns
returns c =
    either_way c.digit.result
    (λ d h. (c.in_ok-check_place.ensures, h.1 ∙ ap value (c.from.ensures c.args.place)))
    (λ e h. absurd (omega (arith, h.1, c.in_ok-check_place.ensures)))
    c.digit.ensures
