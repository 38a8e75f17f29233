use Rattle.std.proofs.Common.{◌≡◌, ℕ, suc, ◌+◌, ◌≤◌, eqb, get_or, take, set, count_by, sym, ◌∙◌, subst, arith, length-take, rules}
use Rattle.std.proofs.lemmas.List.{drop-set-lt}
use Rattle.std.proofs.lemmas.List.Sums.{count_by-le-length}
use Rattle.algebra.specs.Vector.{weight}
use Rattle.coding.proofs.Counting.{weight_most, count_more}
use Rattle.coding.proofs.weights.count_weights.Goals as goal

pub offset_bounds-counts-weight : goal.offset_bounds-counts-weight
offset_bounds-counts-weight g c =
    let low = weight_most g.C.Coding.field g.C.Coding.width (g.C.Coding.meant c.row-item.result) in
    omega (arith, low, c.weight-weight.ensures, g.met.C.Coding.wide)

pub bounds-counts-weight : goal.bounds-counts-weight
bounds-counts-weight g c =
    let low = weight_most g.C.Coding.field g.C.Coding.width (g.C.Coding.meant c.row-item.result) in
    omega (arith, low, c.weight-weight.ensures, c.width-width.ensures)

pub bounds-counts-weight-in-loop-row : goal.bounds-counts-weight-in-loop-row
bounds-counts-weight-in-loop-row g c =
    let low = weight_most g.C.Coding.field g.C.Coding.width (g.C.Coding.meant c.row-item.result) in
    omega (arith, low, c.weight-weight.ensures, c.width-width.ensures)

pub overflow_add-counts : goal.overflow_add-counts
overflow_add-counts g c =
    let w = c.weight-weight.result in
    let low = weight_most g.C.Coding.field g.C.Coding.width (g.C.Coding.meant c.row-item.result) in
    let counted = c.loop-row.invariant.0 w (omega (arith, low, c.weight-weight.ensures)) in
    let few = count_by-le-length (λ x. eqb (weight g.C.Coding.field g.C.Coding.width (g.C.Coding.meant x)) w) (take c.loop-row.row-index c.args.rows.now) in
    let most : get_or c.loop-row.counts w 0 ≤ c.loop-row.row-index = omega (arith, counted, few, length-take c.loop-row.row-index c.args.rows.now) in
    search rules

pub loop-row-preserved : goal.loop-row-preserved
loop-row-preserved g c =
    let W = g.C.Coding.width in
    let weigh = λ (x : g.row.C.Denot). weight g.C.Coding.field W (g.C.Coding.meant x) in
    let x = c.row-item.result in
    let counts = c.loop-row.counts in
    let low = weight_most g.C.Coding.field W (g.C.Coding.meant x) in (
      subst (λ (w : ℕ). (j : ℕ) → j ≤ W → get_or (set counts w (get_or counts w 0 + 1)) j 0 ≡ count_by (λ y. eqb (weigh y) j) (take (c.loop-row.row-index + 1) c.args.rows.now))
          (sym c.weight-weight.ensures)
          (count_more weigh c.args.rows.now c.loop-row.row-index x c.loop-row-test.true c.row-item.is W counts (omega (arith, c.width-width.ensures)) low c.loop-row.invariant.0),
      drop-set-lt (suc W) counts c.weight-weight.result _ (omega (arith, low, c.weight-weight.ensures)) ∙ c.loop-row.invariant.1,
    )
