use Rattle.std.proofs.Common.{ap, ◌∙◌, rules}
use mathlib.Core.Path.{fun_ext}
use Rattle.algebra.specs.Modulo.{f3}
use Rattle.algebra.specs.Vector.{weight}
use Rattle.codings.specs.TwoPlanesLemmas.{FullWords, weight_ones}
use Rattle.codings.proofs.planes.PlanesCoding.weight.Goals as goal

pub returns : goal.returns
returns c =
    let v : FullWords 64 c.full-v.result.v1 c.full-v.result.v2 = record { full = c.full-v.result.full; fits1 = search rules; fits2 = search rules } in
    c.count.ensures.value ∙ weight_ones v ∙ ap (weight f3 64) (fun_ext c.full-v.ensures)
