-- The value line lies within the text, and has a digit 0, 1 or 2 for each name.
use Rattle.std.proofs.Common.{◌≡◌, ◌+◌, ◌-◌, ◌*◌, length, get_or, take, drop, ap, ◌∙◌, arith, rules}
use Rattle.sheet.proofs.Places.{line_within, line_digit, digit_small}
use Rattle.sheet.proofs.opened.Opened.value_line.Goals as goal

pub overflow_mul-start : goal.overflow_mul-start
overflow_mul-start c = let h = line_within c.args.self.now c.args.number c.requires in search rules

pub overflow_add-start : goal.overflow_add-start
overflow_add-start c = let h = line_within c.args.self.now c.args.number c.requires in search rules

pub overflow_add-result : goal.overflow_add-result
overflow_add-result c = let h = line_within c.args.self.now c.args.number c.requires in search rules

pub slice_bounds-result-end : goal.slice_bounds-result-end
slice_bounds-result-end c = let h = line_within c.args.self.now c.args.number c.requires in search rules

pub returns-clause-digits : goal.returns-clause-digits
returns-clause-digits c k l =
    let o = c.args.self.now in
    let start = length o.head.now + c.args.number * (2 * o.names) in
    let size : start + 2 * o.names - start ≡ 2 * o.names = omega arith in
    ap (λ n. get_or (take n (drop start o.text.now)) (2 * k) 0) size ∙ line_digit o c.args.number k c.requires l

pub returns-clause-small : goal.returns-clause-small
returns-clause-small c k l = digit_small c.args.self.now c.args.number k c.requires l
