use Rattle.std.proofs.Common.{◌+◌, ◌%◌, ap, ◌∙◌, ap₂, rules}
use mathlib.Core.Path.{fun_ext}
use Rattle.algebra.specs.Field.{value}
use Rattle.algebra.specs.Modulo.{f3}
use Rattle.algebra.specs.Vector.{joined}
use Rattle.codings.specs.TwoPlanesLemmas.{FullWords, sum_ones}
use Rattle.codings.proofs.planes.PlanesCoding.dot.Goals as goal

pub returns : goal.returns
returns c =
    let p : FullWords 64 c.product-p.result.v1 c.product-p.result.v2 = record { full = c.product-p.result.full; fits1 = search rules; fits2 = search rules } in
    ap₂ (λ a b. (a + b) % 3) c.count-nonzero.ensures.value c.count-twos.ensures.value
    ∙ sum_ones p
    ∙ ap (λ x. value (joined f3.add f3.nil 64 x)) (fun_ext (λ k. c.product-p.ensures k ∙ ap₂ f3.mul (c.full.ensures k) (c.full-2.ensures k)))
