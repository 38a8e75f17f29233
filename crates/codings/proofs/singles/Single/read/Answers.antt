use Rattle.std.proofs.Common.{◌^◌, ◌<◌, ap, ◌∙◌, mod-lt, lit<, rules}
use mathlib.Core.Path.{fun_ext}
use lib.Bits.{or_lt}
use Rattle.codings.specs.Single.{spelled_word}
use Rattle.codings.proofs.OneWord.{full_spelled, read_word}
use Rattle.codings.proofs.singles.Single.read.Goals as goal

pub returns : goal.returns
returns c =
    let n = c.args.self.word in
    let fits : n < 2 ^ 64 = search rules in
    let x = read_word n fits in
    record {
      digits = x.meaning;
      full = x.full;
      word = full_spelled _ (or_lt 64 n _ fits (mod-lt _ (lit< tt))) x.full ∙ ap spelled_word (fun_ext x.meaning);
    }
