-- What is left of the vector says whether it is known; what is put in is that, scaled.
use Rattle.std.proofs.Common.{◌≡◌, ◌+◌, ◌++◌, length, drop, arith}
use Rattle.std.proofs.lemmas.List.{length-take-le}
use Rattle.basis.proofs.Leading.{lead_digit, monic_is}
use Rattle.basis.proofs.Placing.{was_put}
use Rattle.basis.proofs.Growth.{known_after, no_room_after, grown_after}
use Rattle.basis.proofs.rows.insert.Goals as goal

pub returns-in_default-clause-stands : goal.returns-in_default-clause-stands
returns-in_default-clause-stands g c n vs long form =
    known_after g.C.Coding n c.args.rank c.args.rows.now vs (g.C.Coding.meant c.args.vector) (g.C.Coding.meant c.left_over-left.result) long form
    c.left_over-left.ensures.digits c.in_default.ensures

pub returns-then-rank-rows-clause-stands : goal.returns-then-rank-rows-clause-stands
returns-then-rank-rows-clause-stands g c n vs long form =
    no_room_after g.C.Coding n c.args.rank c.args.rows.now vs (g.C.Coding.meant c.args.vector) (g.C.Coding.meant c.left_over-left.result) long form
    c.left_over-left.ensures.digits c.in-Some.lead.place c.in-Some.lead.digit c.in-Some.ensures

pub returns-clause-stands : goal.returns-clause-stands
returns-clause-stands g c n vs long form =
    let size : length c.clear_place.new.rows ≡ c.args.rank = omega (arith, c.clear_place.auto.rows, length-take-le c.args.rank c.args.rows.now c.requires) in
    let put = was_put c.args.rows.now c.clear_place.new.rows c.put_at.new.rows c.args.rank c.rows_before-at.result c.monic-row.result (omega arith) size c.put_at.ensures c.put_at.auto.rows in
    grown_after g.C.Coding n c.args.rank c.args.rows.now vs (g.C.Coding.meant c.args.vector) (g.C.Coding.meant c.left_over-left.result) long form
    c.left_over-left.ensures.digits c.in-Some.lead.place c.in-Some.lead.digit c.in-Some.ensures
    c.rows_before-at.result c.monic-row.result c.clear_place.new.rows c.put_at.new.rows (drop (c.args.rank + 1) (c.clear_place.new.rows ++ drop c.args.rank c.args.rows.now))
    (monic_is g.C.Coding.field (g.C.Coding.meant c.left_over-left.result) (g.C.Coding.meant c.monic-row.result) c.in-Some.lead.place c.in-Some.lead.digit c.in-Some.ensures
    (c.monic-row.ensures.digits (lead_digit g.C.Coding.field (g.C.Coding.meant c.left_over-left.result) c.in-Some.lead.place c.in-Some.lead.digit c.in-Some.ensures)))
    c.monic-row.ensures.stored c.rows_before-at.ensures.within c.rows_before-at.ensures.before c.rows_before-at.ensures.after
    c.clear_place.ensures.cleared c.clear_place.ensures.stored put.0 put.1
