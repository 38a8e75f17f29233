-- The vector at a free place is one row more, and a lead is passed.
use Rattle.std.proofs.Common.{◌≡◌, ◌+◌, ◌<◌, length, Ok, sym, refl, ap, ◌∙◌, subst, subst₂, arith}
use Rattle.std.proofs.lemmas.Bool.{false≢true}
use Rattle.basis.specs.Inserted.{Moved}
use Rattle.basis.specs.declared.taken.Taken.TheVariants.{Grown}
use Rattle.basis.proofs.Freely.{Begun, passed, always_grown, grown_more, written}
use Rattle.basis.proofs.duals.write_dual.Goals as goal
use Rattle.basis.proofs.duals.write_dual.Goals.{then-is_free+in-Ok-Grown, then-is_free+in-Err-1, then-is_free+in-Ok+in-Known-1, else-is_free}

pub loop-place-preserved : goal.loop-place-preserved
loop-place-preserved g c = elim c.if-is_free.branch [
  | then-is_free+in-Ok-Grown w ↦
      let grown : w.insert.result ≡ Ok Grown = w.in-Ok-Grown.is ∙ ap Ok w.in-Ok-Grown.field-0-is in
      let room : c.loop-place.count < length c.loop-place.output = (subst (Moved c.loop-place.count c.loop-place.output w.insert.new.rows) grown w.insert.ensures.moved).0 in (
        omega (arith, w.count-is, ap length w.output-is, w.insert.auto.rows, room),
        subst₂ (Begun g.C.Coding c.args.n c.args.rows.now c.args.output.now (c.loop-place.place + 1)) (sym w.count-is) (sym w.output-is)
            (grown_more g.C.Coding c.args.n c.args.rows.now c.args.output.now c.loop-place.place c.loop-place.count c.loop-place.output w.insert.new.rows w.dual_vector.result w.insert.result
            c.loop-place-test.true (w.if-is_free.ensures.0 refl) c.loop-place.invariant.1 w.dual_vector.ensures.digits c.loop-place.auto.output w.insert.ensures.stands w.insert.ensures.moved),
      )
  | then-is_free+in-Err-1 w ↦ (
    omega (arith, w.count-is, ap length w.output-is, w.insert.auto.rows, c.loop-place.invariant.0),
    λ vs fits form room.
        let grown : w.insert.result ≡ Ok Grown = always_grown g.C.Coding c.args.n c.args.rows.now c.args.output.now c.loop-place.place c.loop-place.count c.loop-place.output w.insert.new.rows w.dual_vector.result w.insert.result
        c.loop-place-test.true (w.if-is_free.ensures.0 refl) c.loop-place.invariant.1 w.dual_vector.ensures.digits c.loop-place.auto.output w.insert.ensures.stands w.insert.ensures.moved vs fits form room in absurd (cc grown),
  )
  | then-is_free+in-Ok+in-Known-1 w ↦ (
    omega (arith, w.count-is, ap length w.output-is, w.insert.auto.rows, c.loop-place.invariant.0),
    λ vs fits form room.
        let grown : w.insert.result ≡ Ok Grown = always_grown g.C.Coding c.args.n c.args.rows.now c.args.output.now c.loop-place.place c.loop-place.count c.loop-place.output w.insert.new.rows w.dual_vector.result w.insert.result
        c.loop-place-test.true (w.if-is_free.ensures.0 refl) c.loop-place.invariant.1 w.dual_vector.ensures.digits c.loop-place.auto.output w.insert.ensures.stands w.insert.ensures.moved vs fits form room in absurd (cc grown),
  )
  | else-is_free w ↦ (
    omega (arith, w.count-is, ap length w.output-is, c.loop-place.invariant.0),
    subst₂ (Begun g.C.Coding c.args.n c.args.rows.now c.args.output.now (c.loop-place.place + 1)) (sym w.count-is) (sym w.output-is)
        (passed g.C.Coding c.args.n c.args.rows.now c.args.output.now c.loop-place.place c.loop-place.count c.loop-place.output (λ free. false≢true (w.if-is_free.ensures.1 free)) c.loop-place.invariant.1),
  )
]

pub returns : goal.returns
returns g c =
    let e : c.loop-place.place ≡ c.args.n = omega (arith, c.loop-place-test.false, c.loop-place.auto.place-end) in
    written g.C.Coding c.args.n c.args.rows.now c.args.output.now c.loop-place.count c.loop-place.output
    (subst (λ p. Begun g.C.Coding c.args.n c.args.rows.now c.args.output.now p c.loop-place.count c.loop-place.output) e c.loop-place.invariant.1)
