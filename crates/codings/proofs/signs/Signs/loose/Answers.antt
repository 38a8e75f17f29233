use Rattle.std.proofs.Common.{◌&&◌, ap, ◌∙◌, rules}
use Rattle.words.specs.Bit.{bit}
use Rattle.words.proofs.Operations.{bit_and_lem, bit_not}
use Rattle.codings.proofs.signs.Signs.loose.Goals as goal

pub returns-clause-bits : goal.returns-clause-bits
returns-clause-bits c k h =
    let m = c.args.self.magnitude in
    let s = c.args.self.sign in
    bit_and_lem k _ s ∙ ap (λ b. b && bit k s) (bit_not 64 k m (search rules) h)
