use Rattle.std.proofs.Common.{◌-◌, ◌*◌, ◌%◌, ◌^◌, sym, arith, lit<}
use Rattle.std.proofs.lemmas.Nat.{mod_below}
use Rattle.std.proofs.lemmas.Bool.{ne_eqb, cond-false}
use Rattle.words.proofs.Operations.{bit_or_lem, bit_and_lem, bit_not}
use Rattle.words.proofs.Masks.{bit_single}
use Rattle.words.proofs.put.Goals as goal

pub returns-then-place-ge64 : goal.returns-then-place-ge64
returns-then-place-ge64 c = λ k h.
    sym (cond-false _ _ _ (ne_eqb k c.args.place (λ e. omega (arith, c.if-place-ge64.true))))

pub returns-then-set : goal.returns-then-set
returns-then-set c = λ k h.
    let on = c.if-set.true in
    let at = bit_single 64 c.args.place k c.if-place-ge64.false in
    let o = bit_or_lem k c.args.word ((1 * 2 ^ c.args.place) % 2 ^ 64) in
    grind arith

pub returns-else-set : goal.returns-else-set
returns-else-set c = λ k h.
    let off = c.if-set.false in
    let at = bit_single 64 c.args.place k c.if-place-ge64.false in
    let n = bit_not 64 k ((1 * 2 ^ c.args.place) % 2 ^ 64) (mod_below (1 * 2 ^ c.args.place) (2 ^ 64) (lit< tt)) h in
    let a = bit_and_lem k c.args.word (18446744073709551615 - ((1 * 2 ^ c.args.place) % 2 ^ 64)) in
    grind arith
