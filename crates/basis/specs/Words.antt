-- The word of what a vector taken in came to.
use Rattle.std.specs.Prelude.{ℕ, List, codes}
use Rattle.basis.specs.declared.taken.Taken.{Taken}
use Rattle.basis.specs.declared.taken.Taken.TheVariants.{Known, Grown}

abbrev pub word_of : Taken → List ℕ
word_of Known = codes "known"
word_of Grown = codes "grown"
