use Rattle.std.proofs.Common.{◌∙◌}
use lib.Bits.{bit_and, and_mask, mask_lt}
use Rattle.codings.proofs.Halves.{beside}
use Rattle.codings.proofs.singles.paired.Goals as goal

pub returns : goal.returns
returns c =
    let m = c.args.second in
    let x = beside c.args.first (bit_and m 4294967295) (mask_lt m 32) in
    record { upper_is = x.upper_is; lower_is = x.lower_is ∙ and_mask m 32 }
