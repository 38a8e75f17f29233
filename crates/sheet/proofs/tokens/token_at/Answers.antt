-- The kind of the first byte tells the token.
use Rattle.std.proofs.Common.{◌∙◌, sym, refl, subst}
use Rattle.sheet.specs.Reading.{IsToken}
use Rattle.sheet.proofs.Splits.{word_between}
use Rattle.sheet.proofs.tokens.token_at.Goals as goal
use Rattle.sheet.proofs.tokens.token_at.Goals.{in-Letter, in-Blank, in-LineEnd}

found : (c : goal.Joined-from) → IsToken c.args.text.now c.args.place c.match-from.token
found c =
    elim c.match-from.branch [
      | in-Letter w ↦ subst (IsToken c.args.text.now c.args.place) (sym w.token-is)
          (word_between c.args.text.now c.args.place w.word_end.result w.word_end.ensures.within.0 w.word_end.ensures.within.1 w.word_end.ensures.word w.word_end.ensures.ends)
      | in-Blank w ↦ subst (IsToken c.args.text.now c.args.place) (sym w.token-is) (sym (c.in_ok-get.ensures.lookup.3.1 0) ∙ w.in-Blank.ensures)
      | in-LineEnd w ↦ subst (IsToken c.args.text.now c.args.place) (sym w.token-is) (sym (c.in_ok-get.ensures.lookup.3.1 0) ∙ w.in-LineEnd.ensures)
    ]

pub returns : goal.returns
returns c = (refl, c.in_ok-get.ensures.lookup.3.0, found c)
