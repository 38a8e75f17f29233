use Rattle.std.proofs.Common.{◌+◌, ◌%◌, ap, ◌∙◌, ap₂, rules}
use mathlib.Core.Path.{fun_ext}
use Rattle.algebra.specs.Field.{value}
use Rattle.algebra.specs.Modulo.{f3}
use Rattle.algebra.specs.Vector.{joined}
use Rattle.codings.proofs.SignPlanes.{sum_ones}
use Rattle.codings.proofs.signs.SignsCoding.dot.Goals as goal

pub returns : goal.returns
returns c =
    let p = c.product-p.result in
    ap₂ (λ a b. (a + b) % 3) c.count-nonzero.ensures.value c.count-twos.ensures.value
    ∙ sum_ones 64 p.magnitude p.sign (search rules) (search rules)
    ∙ ap (λ v. value (joined f3.add f3.nil 64 v)) (fun_ext c.product-p.ensures.digits)
