use Rattle.std.proofs.Common.{◌∙◌, ap₂, rules}
use mathlib.Core.Path.{fun_ext}
use Rattle.algebra.specs.Modulo.{f3}
use Rattle.algebra.specs.Vector.{distance}
use Rattle.codings.specs.TwoPlanesLemmas.{FullWords, distance_ones}
use Rattle.codings.proofs.planes.PlanesCoding.distance.Goals as goal

pub returns : goal.returns
returns c =
    let v : FullWords 64 c.full-v.result.v1 c.full-v.result.v2 = record { full = c.full-v.result.full; fits1 = search rules; fits2 = search rules } in
    let w : FullWords 64 c.full-w.result.v1 c.full-w.result.v2 = record { full = c.full-w.result.full; fits1 = search rules; fits2 = search rules } in
    c.count.ensures.value
    ∙ distance_ones v w
    ∙ ap₂ (distance f3 64) (fun_ext c.full-v.ensures) (fun_ext c.full-w.ensures)
