-- Each turn writes the successor of the row before it, at its position; no successor is refused on the way.
use Rattle.std.proofs.Common.{◌^◌, ◌<◌, ◌≤◌, length, sym, refl, subst, arith, rules}
use Rattle.std.proofs.lemmas.Option.{MatchOption-at_some, MatchOption-at_none}
use Rattle.algebra.specs.Field.{Field}
use Rattle.algebra.specs.Successor.{Last}
use Rattle.coding.proofs.Rows.{Follows, room_some, begun, begun_more, next_below, walked}
use Rattle.coding.proofs.walks.walk.Goals as goal

room : (g : _) (c : goal.After-zero-x g) → g.C.Coding.field.size ^ c.args.n ≤ length c.args.output.now
room g c =
    subst (λ (F : Field). F.size ^ c.args.n ≤ length c.args.output.now) (sym g.met.C.Ternary.three) (c.if-not-enough.ensures.0 refl)

pub bounds-output-0 : goal.bounds-output-0
bounds-output-0 g c = let h = room_some g.C.Coding.field c.args.n (length c.args.output.now) (room g c) in search rules

pub loop-y-init : goal.loop-y-init
loop-y-init g c =
    begun g.C.Coding c.args.n c.zero-x.result c.args.output.now (room g c) c.zero-x.ensures.digits c.zero-x.ensures.stored

follows : (g : _) (c : goal.In-Some g)
    → Follows g.C.Coding.field c.args.n (g.C.Coding.meant c.loop-y.x) (g.C.Coding.meant c.in-Some.y)
    × g.C.Coding.canonical c.in-Some.y
follows g c = MatchOption-at_some _ _ c.in-Some.y c.in-Some.is c.in_ok-y.ensures.2

below : (g : _) (c : goal.In-Some g) → c.loop-y.count < g.C.Coding.field.size ^ c.args.n
below g c = next_below g.met.C.Ternary.three c.loop-y.invariant c.in-Some.y (follows g c).0

pub bounds-output-count : goal.bounds-output-count
bounds-output-count g c = omega (arith, below g c, c.loop-y.invariant.room)

pub offset_bounds-output-count : goal.offset_bounds-output-count
offset_bounds-output-count g c = let h = bounds-output-count g c in search rules

pub overflow_add-count : goal.overflow_add-count
overflow_add-count g c = let h = bounds-output-count g c in search rules

pub loop-y-smaller : goal.loop-y-smaller
loop-y-smaller g c = omega (arith, below g c)

pub loop-y-preserved : goal.loop-y-preserved
loop-y-preserved g c =
    begun_more g.met.C.Ternary.three c.loop-y.invariant c.in-Some.y (follows g c).0 (follows g c).1

last : (g : _) (c : goal.In_default g) → Last g.C.Coding.field c.args.n (g.C.Coding.meant c.loop-y.x)
last g c = MatchOption-at_none _ _ c.in_default.is c.in_ok-y.ensures.2

pub returns : goal.returns
returns g c =
    (c.in_ok-y.ensures.0, walked c.args.output.now c.zero-x.result g.met.C.Ternary.three c.loop-y.invariant (last g c))
