use Rattle.std.proofs.Common.{◌-◌, ◌<◌, sym, ap, ◌∙◌, arith}
use Rattle.std.proofs.lemmas.Nat.{one_shl}
use Rattle.std.proofs.lemmas.Bool.{lt-ltb}
use Rattle.words.specs.Bit.{bit}
use Rattle.words.proofs.Masks.{bit_ones, bit_below}
use Rattle.words.proofs.below.Goals as goal

pub returns-then-n-lt64 : goal.returns-then-n-lt64
returns-then-n-lt64 c = λ k h. ap (λ x. bit k (x - 1)) (one_shl c.args.n 64 c.if-n-lt64.true) ∙ bit_below c.args.n k

pub returns-else-n-lt64 : goal.returns-else-n-lt64
returns-else-n-lt64 c = λ k h. let l : k < c.args.n = omega (arith, c.if-n-lt64.false) in bit_ones 64 k h ∙ sym (lt-ltb k c.args.n l)
