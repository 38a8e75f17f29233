-- A names line begins the text once at most, so the text is one exactly if it ends where that line does.
use Rattle.std.proofs.Common.{[], ◌++◌, length, sym, ap, ◌∙◌, arith}
use Rattle.std.proofs.lemmas.List.{append-nil, drop_all}
use Rattle.sheet.specs.Format.{line}
use Rattle.sheet.proofs.Splits.{names_once}
use Rattle.sheet.proofs.sheets.count_names.Goals as goal

pub returns-in_err-head : goal.returns-in_err-head
returns-in_err-head c =
    rw c.from_residual.ensures (λ names heads.
    c.in_err-head.ensures names [] heads.rule (heads.text_is ∙ sym (append-nil (line names))))

pub returns-then-head-text : goal.returns-then-head-text
returns-then-head-text c =
    let found = c.in_ok-head.ensures in
    let none = drop_all c.in_ok-head.head.end c.args.text.now (omega (arith, c.if-head-text.true)) in (
      found.names,
      record { rule = found.rule; text_is = found.text_is ∙ ap (λ t. line found.names ++ t) none ∙ append-nil (line found.names) },
      sym found.count,
    )

pub returns-else-head-text : goal.returns-else-head-text
returns-else-head-text c = λ names heads.
    let found = c.in_ok-head.ensures in
    let once = names_once found.names names _ [] found.rule.each heads.rule.each found.rule.some heads.rule.some
    (sym found.text_is ∙ heads.text_is ∙ sym (append-nil (line names))) in
    c.if-head-text.false (found.end ∙ ap (λ ns. length (line ns)) once.0 ∙ sym (ap length heads.text_is))
