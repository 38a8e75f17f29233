use Rattle.std.proofs.Common.{sym, ◌∙◌, rules}
use Rattle.std.proofs.lemmas.Bool.{le-ltb}
use Rattle.words.proofs.Operations.{bit_by_shift}
use Rattle.words.proofs.Masks.{bit_high}
use Rattle.words.proofs.holds.Goals as goal

pub returns-then-place-lt64 : goal.returns-then-place-lt64
returns-then-place-lt64 c = bit_by_shift c.args.place c.args.word

pub returns-else-place-lt64 : goal.returns-else-place-lt64
returns-else-place-lt64 c =
    le-ltb c.args.place 64 c.if-place-lt64.false ∙ sym (bit_high 64 c.args.place c.args.word (search rules) c.if-place-lt64.false)
