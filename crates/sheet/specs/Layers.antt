-- The word of each layer.
use Rattle.std.specs.Prelude.{ℕ, List, codes}
use Rattle.sheet.specs.declared.faults.Layer.{Layer}
use Rattle.sheet.specs.declared.faults.Layer.TheVariants.{Text, Sheet, Job}

abbrev pub word_of : Layer → List ℕ
word_of Text = codes "text"
word_of Sheet = codes "sheet"
word_of Job = codes "job"
