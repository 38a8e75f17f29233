-- The run stands for what was accepted, and then the comparison holds.
use Rattle.std.proofs.Common.{arith, rules}
use Rattle.basis.proofs.Comparing.{cosets}
use Rattle.basis.proofs.runs.same_coset.Goals as goal

pub returns : goal.returns
returns g c =
    let made = c.in_ok-can_make.ensures in
    let long_first = c.in_ok-check_long.ensures in
    let long_second = c.in_ok-check_long-2.ensures in
    let t = cosets g.C.Coding c.args.n c.args.rows.now c.make-basis.result made.0 made.1 c.apply_all.new.basis c.args.calls.now (g.C.Coding.meant c.args.first) (g.C.Coding.meant c.args.second)
    c.args.scratch.now c.apply_all.new.scratch c.compare.new.scratch c.args.first_digits.now c.compare.new.first_digits c.args.second_digits.now c.compare.new.second_digits c.compare.result
    c.make-basis.ensures.made c.make-basis.ensures.beyond c.apply_all.ensures.stands c.apply_all.ensures.kept
    (λ vs s is. c.compare.ensures vs s is (omega (arith, c.in_ok-check_room.ensures)) (omega (arith, c.in_ok-check_room-2.ensures)) (omega (arith, c.in_ok-check_room-3.ensures)) long_first long_second) in
    record {
      answer = simp t.1 (let whole = t.2 in search rules);
      room = simp t.1 (c.in_ok-check_room.ensures, c.in_ok-check_room-2.ensures, c.in_ok-check_room-3.ensures, long_first, long_second);
      refused = simp t.1 tt;
    }
