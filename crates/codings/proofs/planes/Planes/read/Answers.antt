use Rattle.std.proofs.Common.{◌≡◌, ℕ, ◌-◌, ◌^◌, ◌<◌, not, ◌||◌, ap, ◌∙◌, rules}
use mathlib.Core.Path.{fun_ext}
use lib.Bits.{bit_or, or_lt}
use lib.Pow.{ones_sub-lt}
use Rattle.words.specs.Bit.{bit}
use Rattle.words.proofs.Operations.{bit_or_lem, bit_not}
use Rattle.codings.specs.TwoPlanes.{spelled1, spelled2}
use Rattle.codings.specs.TwoPlanesLemmas.{read_digits, read_full, full_spelled1, full_spelled2}
use Rattle.codings.proofs.planes.Planes.read.Goals as goal

pub returns : goal.returns
returns c =
    let x = c.args.self.first in
    let v2 = c.args.self.second in
    let v1 = bit_or x ((2 ^ 64 - 1) - v2) in
    let fits : x < 2 ^ 64 = search rules in
    let fits2 : v2 < 2 ^ 64 = search rules in
    let bits : (k : ℕ) → k < 64 → bit k v1 ≡ (bit k x || not (bit k v2)) =
    λ k h. bit_or_lem k x ((2 ^ 64 - 1) - v2) ∙ ap (λ b. bit k x || b) (bit_not 64 k v2 fits2 h) in
    let full = read_full 64 x v2 v1 bits in
    let same = fun_ext (read_digits 64 x v2 v1 bits) in
    record {
      digits = read_digits 64 x v2 v1 bits;
      full = full;
      words = (
        full_spelled1 64 v1 v2 full (or_lt 64 x _ fits (ones_sub-lt 64 v2)) ∙ ap (spelled1 64) same,
        full_spelled2 64 v1 v2 fits2 ∙ ap (spelled2 64) same,
      );
    }
