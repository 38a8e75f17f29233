-- A blank and a line end are one byte each, and a word begins with neither.
use Rattle.std.proofs.Common.{subst}
use Rattle.sheet.specs.Reading.{IsToken}
use Rattle.sheet.proofs.Splits.{word_no_break}
use Rattle.sheet.proofs.tokens.break_at.Goals as goal

pub returns-in-Word : goal.returns-in-Word
returns-in-Word c =
    word_no_break c.args.text.now c.args.start c.in-Word.field-0.now
    (subst (IsToken c.args.text.now c.args.start) c.in-Word.is c.in_ok-found.ensures.2)
