-- One row more agrees.
use Rattle.std.proofs.Common.{rules, ◌≡◌, length, get_or, sym, refl, ap, ◌∙◌, subst₂, arith}
use Rattle.std.proofs.lemmas.List.{length_push}
use native.Mathlib.Decide.{dec_lt}
use Rattle.std.proofs.lemmas.Slice.Zip.{zip_turn}
use Rattle.algebra.specs.Field.{value}
use Rattle.basis.proofs.runs.rows_agree.Goals as goal

pub loop-row-preserved : goal.loop-row-preserved
loop-row-preserved g c i k d e below within =
    let turn = zip_turn c.args.first.now c.args.second.now c.loop-row.yielded c.into_iter-row-iterator.result c.loop-row.row-iterator c.next.new.self c.next.result (search rules) (search rules) c.loop-row.yielded_by (c.in-Some.row, c.in-Some.other) c.in-Some.is c.next.ensures.steps in
    elim (dec_lt i (length c.loop-row.yielded)) [
      | yes before ↦ c.loop-row.invariant i k d e before within
      | no last ↦ (let here : i ≡ length c.loop-row.yielded = omega (arith, below, length_push c.loop-row.yielded (c.in-Some.row, c.in-Some.other)) in
          subst₂ (λ x y. value (g.C.Coding.meant x k) ≡ value (g.D.Coding.meant y k)) (turn.2 d ∙ ap (λ n. get_or c.args.first.now n d) (sym here)) (turn.3 e ∙ ap (λ n. get_or c.args.second.now n e) (sym here)) (c.if-not-same_digits.ensures.0 refl k within))
    ]
