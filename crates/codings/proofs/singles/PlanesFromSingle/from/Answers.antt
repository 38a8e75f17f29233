use Rattle.std.proofs.Common.{sym, refl, lit≤}
use Rattle.words.proofs.Masks.{bit_mod}
use Rattle.codings.specs.Halves.{upper, lower}
use Rattle.codings.proofs.Widths.{filled_digits}
use Rattle.codings.proofs.singles.PlanesFromSingle.from.Goals as goal

pub returns : goal.returns
returns c = λ k.
    let n = c.args.vector.word in
    sym (filled_digits 32 64 (lit≤ tt) (upper n) (lower n) (upper n) n (λ k h. refl) (λ k h. bit_mod 32 k n h) k)
