-- The row at the trailing zeros of the position is the one that enters or leaves.
use Rattle.std.proofs.Common.{◌≡◌, sym, refl, subst, arith}
use Rattle.std.proofs.lemmas.Bool.{false≢true}
use Rattle.algebra.specs.Gray.{bit}
use Rattle.tally.proofs.RowSums.{step_to, entered, left}
use Rattle.tally.proofs.shares.Matrix.mended.Goals as goal

pub bounds-rows-toggled : goal.bounds-rows-toggled
bounds-rows-toggled g c = (step_to c.toggled_row-toggled.ensures.toggles c.args.self.now.small c.requires.inside).0

pub offset_bounds-rows-toggled : goal.offset_bounds-rows-toggled
offset_bounds-rows-toggled g c =
    let t = step_to c.toggled_row-toggled.ensures.toggles c.args.self.now.small c.requires.inside in omega (arith, t.0)

pub returns-then-chooses : goal.returns-then-chooses
returns-then-chooses g c =
    entered g.C.Coding g.met.C.Ternary.three c.args.self.now.rows.now (g.C.Coding.meant c.args.sum) (g.C.Coding.meant c.sum.result) c.index-rows-toggled.is (step_to c.toggled_row-toggled.ensures.toggles c.args.self.now.small c.requires.inside) c.requires.before
    (subst (λ code. bit c.toggled_row-toggled.result code ≡ 1) c.gray.ensures (c.if-chooses.ensures.0 refl)) c.sum.ensures.digits

pub returns-else-chooses : goal.returns-else-chooses
returns-else-chooses g c =
    left g.C.Coding g.met.C.Ternary.three c.args.self.now.rows.now (g.C.Coding.meant c.args.sum) (g.C.Coding.meant c.difference.result) c.index-rows-toggled.is (step_to c.toggled_row-toggled.ensures.toggles c.args.self.now.small c.requires.inside) c.requires.before
    (λ chosen. false≢true (c.if-chooses.ensures.1 (subst (λ code. bit c.toggled_row-toggled.result code ≡ 1) (sym c.gray.ensures) chosen))) c.difference.ensures.digits
