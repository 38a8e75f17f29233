-- A row whose lead is the place, or one row more whose lead is another.
use Rattle.std.proofs.Common.{◌≡◌, ℕ, get_or, sym, ap, ◌∙◌, arith}
use Rattle.algebra.proofs.Steps.{each_at}
use Rattle.basis.specs.Form.{lead_of}
use Rattle.basis.proofs.duals.is_free.Goals as goal

pub returns-then-lead_place-place : goal.returns-then-lead_place-place
returns-then-lead_place-place g c =
    let here : lead_of g.C.Coding (get_or c.args.rows.now c.loop-row.row-index c.row-item.result) ≡ c.args.place =
    ap (λ x. lead_of g.C.Coding x) (sym c.row-item.is) ∙ sym c.lead_place.ensures ∙ c.if-lead_place-place.true in (
      (λ e. absurd (let z : ◌≡◌ {A = ℕ} 0 1 = cc e in omega arith)),
      (λ free. absurd (each_at g.C.Coding.field g.C.Coding.width g.C.Coding.meant (λ r. r.lead ≡ c.args.place → ⊥) c.args.rows.now free c.loop-row.row-index c.row-item.result c.loop-row-test.true here)),
    )
