-- No call is refused where there is room, and what they answer agrees.
use Rattle.std.proofs.Common.{◌≡◌, length, take, drop, Decides, subst, subst₂}
use Rattle.std.proofs.lemmas.Bool.Decides.{Decides-eqb}
use Rattle.std.proofs.lemmas.Slice.Eq.{slice_eq-Decides}
use Rattle.basis.specs.Answers.{Remains, WroteDual, check_digits_of}
use Rattle.basis.specs.Form.{Rows, meant_rows}
use Rattle.basis.proofs.Comparing.{compared, never_short}
use Rattle.basis.proofs.runs.compare.Goals as goal

pub returns-in_err-check_digits : goal.returns-in_err-check_digits
returns-in_err-check_digits g c vs s is room first second long_first long_second =
    absurd (never_short g.C.Coding c.args.basis.now.sizes.length c.args.n c.args.basis.now.sizes.rank vs c.args.scratch.now c.dual.new.output c.in_ok-count.count c.first_of-dual.result.now (length c.args.first_digits.now)
    is (c.in_ok-count.ensures.stands vs s) c.first_of-dual.ensures first c.in_err-check_digits.ensures.1)

pub returns-in_err-check_digits-2 : goal.returns-in_err-check_digits-2
returns-in_err-check_digits-2 g c vs s is room first second long_first long_second =
    absurd (never_short g.C.Coding c.args.basis.now.sizes.length c.args.n c.args.basis.now.sizes.rank vs c.args.scratch.now c.dual.new.output c.in_ok-count.count c.first_of-dual.result.now (length c.args.second_digits.now)
    is (c.in_ok-count.ensures.stands vs s) c.first_of-dual.ensures second c.in_err-check_digits-2.ensures.1)

pub returns : goal.returns
returns g c vs s is room first second long_first long_second =
    compared g.C.Coding c.args.n c.args.basis.now.sizes.rank c.args.basis.now.rows.now vs
    (subst (λ k. Rows g.C.Coding k c.args.basis.now.sizes.rank c.args.basis.now.rows.now vs) is s.rows)
    (g.C.Coding.meant c.args.first) (g.C.Coding.meant c.args.second) long_first long_second c.args.scratch.now c.dual.new.output c.in_ok-count.count
    (subst (λ k. WroteDual g.C.Coding k c.args.basis.now.sizes.rank vs c.args.scratch.now c.dual.new.output c.in_ok-count.count) is (c.in_ok-count.ensures.stands vs s))
    c.args.first_digits.now c.check_digits.new.output c.args.second_digits.now c.check_digits-2.new.output
    (subst (λ rows. (take (length rows) c.check_digits.new.output ≡ check_digits_of g.C.Coding rows (g.C.Coding.meant c.args.first)) × (drop (length rows) c.check_digits.new.output ≡ drop (length rows) c.args.first_digits.now)) c.first_of-dual.ensures c.in_ok-check_digits.ensures)
    (subst (λ rows. (take (length rows) c.check_digits-2.new.output ≡ check_digits_of g.C.Coding rows (g.C.Coding.meant c.args.second)) × (drop (length rows) c.check_digits-2.new.output ≡ drop (length rows) c.args.second_digits.now)) c.first_of-dual.ensures c.in_ok-check_digits-2.ensures)
    c.eq.result (subst₂ (λ a b. Decides c.eq.result (a ≡ b)) c.first_of.ensures c.first_of-2.ensures (slice_eq-Decides Decides-eqb _ _ _ c.eq.ensures))
    (g.C.Coding.meant c.in_ok-left.left) (g.C.Coding.meant c.in_ok-right.right)
    (subst (λ k. Remains g.C.Coding.field k (meant_rows g.C.Coding (take c.args.basis.now.sizes.rank c.args.basis.now.rows.now)) vs (g.C.Coding.meant c.args.first) (g.C.Coding.meant c.in_ok-left.left)) is (c.in_ok-left.ensures.stands vs s))
    (subst (λ k. Remains g.C.Coding.field k (meant_rows g.C.Coding (take c.args.basis.now.sizes.rank c.args.basis.now.rows.now)) vs (g.C.Coding.meant c.args.second) (g.C.Coding.meant c.in_ok-right.right)) is (c.in_ok-right.ensures.stands vs s))
    c.same_digits.result c.same_digits.ensures
