use Rattle.std.proofs.Common.{◌∙◌, rules}
use Rattle.codings.specs.SignWordsLemmas.{distance_ones}
use Rattle.codings.proofs.signs.SignsCoding.distance.Goals as goal

pub returns : goal.returns
returns c =
    let x = c.args.self in
    let y = c.args.other in
    c.count.ensures.value
    ∙ distance_ones 64 x.magnitude x.sign y.magnitude y.sign (search rules) (search rules) (search rules) (search rules)
