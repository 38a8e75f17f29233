use Rattle.std.proofs.Common.{arith, rules}
use Rattle.words.proofs.Operations.{bit_and_lem}
use Rattle.codings.specs.SignWordsLemmas.{loose_digits, magnitude_pinned, sign_pinned}
use Rattle.codings.proofs.signs.Signs.read.Goals as goal

pub returns : goal.returns
returns c =
    let m = c.args.self.magnitude in
    let s = c.args.self.sign in
    record {
      digits = loose_digits 64 m s _ (λ k h set. let b = bit_and_lem k m s in grind arith);
      words = (magnitude_pinned 64 m s (search rules), sign_pinned 64 m s (search rules) (search rules));
    }
