-- There is a name, so only too many are refused; after the last turn the vector has a digit for each.
use Rattle.std.proofs.Common.{inl, inr, arith}
use Rattle.std.proofs.lemmas.Result.{err_from_is_err_and}
use Rattle.sheet.proofs.Places.{row_length, some_names}
use Rattle.sheet.proofs.opened.Opened.vector.Goals as goal

pub returns-in_err-check_length : goal.returns-in_err-check_length
returns-in_err-check_length g c =
    let p = err_from_is_err_and c.from_residual.result c.from_residual.ensures.1 in
    let e = c.in_err-check_length.ensures in
    rw (p.1, p.2) (inl (
      e.0,
      elim e.1 [
        | inl none ↦ absurd (omega (arith, none, some_names c.args.self.now))
        | inr over ↦ omega (arith, over, c.width.ensures)
      ],
    ))

pub returns : goal.returns
returns g c =
    let w = row_length c.args.self.now c.args.number c.in_ok-check_place.ensures in (
      record { wide = omega (arith, c.width.ensures, c.in_ok-check_length.ensures.most); there = c.in_ok-check_place.ensures },
      record { digits = λ k h. c.loop-place.invariant.0 k (omega arith); nils = λ k h. c.loop-place.invariant.1 k (omega arith) },
      c.loop-place.invariant.2,
    )
