-- The first byte is 48 and the digit.
use Rattle.std.proofs.Common.{◌≤◌, length, get_or, refl, rules}
use Rattle.sheet.proofs.Digits.{digit_first}
use Rattle.sheet.proofs.sheets.begins_with_digit.Goals as goal

pub returns-in-48-to-50 : goal.returns-in-48-to-50
returns-in-48-to-50 c =
    let l : 2 ≤ length c.args.text.now = search rules in
    let low : 48 ≤ get_or c.args.text.now 0 0 = search rules in
    let high : get_or c.args.text.now 0 0 ≤ 50 = search rules in
    (λ _. digit_first c.args.text.now c.args.after l low high c.if-next-after.true, λ _. refl)
