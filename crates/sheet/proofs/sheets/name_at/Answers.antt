-- A name with its ending is the longest word there, so that word decides.
use Rattle.std.proofs.Common.{◌++◌, sym, ap, ◌∙◌, subst, refl}
use Rattle.std.proofs.lemmas.Bool.{both_ways}
use Rattle.sheet.specs.Format.{Name}
use Rattle.sheet.proofs.Splits.{rest_after, whole_word}
use Rattle.sheet.proofs.sheets.name_at.Goals as goal

pub returns-then-not-is_name : goal.returns-then-not-is_name
returns-then-not-is_name c w rest end n e =
    let q = whole_word c.args.text.now c.args.start c.in_ok-word.word.now w rest end c.in_ok-word.ensures n e in
    both_ways c.is_name.result c.if-not-is_name.true (c.is_name.ensures.1 (subst Name q.0 n))

pub returns-in_err-end : goal.returns-in_err-end
returns-in_err-end c =
    rw c.from_residual-in_err-end.ensures (λ w rest end n e.
    let q = whole_word c.args.text.now c.args.start c.in_ok-word.word.now w rest end c.in_ok-word.ensures n e in
    c.in_err-end.ensures end rest q.1)

pub returns : goal.returns
returns c =
    let a = c.in_ok-word.ensures in
    let b = c.in_ok-end.ensures in
    record {
      name = c.is_name.ensures.0 c.if-not-is_name.false;
      there = a.there ∙ ap (λ t. c.in_ok-word.word.now ++ t) (sym (rest_after c.args.text.now c.args.start c.in_ok-word.word.now a.rest a.there) ∙ b);
      next = refl;
    }
