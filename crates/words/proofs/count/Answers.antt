use Rattle.std.proofs.Common.{refl, rules}
use lib.Count.{ones-le}
use lib.Pow.{ones_sub-lt}
use mir.Facts.{Fits-below}
use Rattle.words.proofs.count.Goals as goal

pub overflow_cast-result : goal.overflow_cast-result
overflow_cast-result c = Fits-below tt (ones-le 64 _ (search (rules, ones_sub-lt)))

pub returns : goal.returns
returns c = record { value = refl; bound = ones-le 64 c.args.word (search rules) }
