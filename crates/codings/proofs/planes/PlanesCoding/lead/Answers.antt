use Rattle.std.proofs.Common.{◌≡◌, ℕ, ◌<◌, Bool, true, false, cond, sym, ◌∙◌, subst, arith, rules}
use mathlib.Core.Path.{fun_ext}
use lib.Bits.{bit_xor, xor_lt}
use lib.Count.{count_trailing_zeros}
use Rattle.words.specs.Bit.{bit}
use Rattle.words.proofs.Lowest.{trailing_bits}
use Rattle.algebra.specs.Modulo.{f3}
use Rattle.algebra.specs.Vector.{Vector, Leads}
use Rattle.codings.specs.TwoPlanes.{digits}
use Rattle.codings.specs.Plane.{meant_by}
use Rattle.codings.specs.TwoPlanesLemmas.{FullWords, lead_none, lead_some}
use Rattle.codings.proofs.planes.PlanesCoding.lead.Goals as goal

pub returns-then-some-eq0 : goal.returns-then-some-eq0
returns-then-some-eq0 c = λ k.
    let v : FullWords 64 c.full-v.result.v1 c.full-v.result.v2 = record { full = c.full-v.result.full; fits1 = search rules; fits2 = search rules } in
    sym (c.full-v.ensures k) ∙ lead_none v c.if-some-eq0.true k

-- the lead of the planes as read, with the digit that V2 tells there
found : (meant : Vector f3) {v1 v2 : ℕ} → ((k : ℕ) → digits 64 v1 v2 k ≡ meant k) → FullWords 64 v1 v2 → 0 < bit_xor v1 v2
    → (told : Bool) → bit (count_trailing_zeros 64 (bit_xor v1 v2)) v2 ≡ told
    → Leads f3 meant (count_trailing_zeros 64 (bit_xor v1 v2)) (cond told 1 2)
found meant {v1} {v2} same v some told e =
    let t = count_trailing_zeros 64 (bit_xor v1 v2) in
    let l = trailing_bits 64 (bit_xor v1 v2) (xor_lt 64 v1 v2 v.fits1 v.fits2) some in
    subst (λ x. Leads f3 x t (cond told 1 2)) (fun_ext same)
    (subst (λ b. Leads f3 (digits 64 v1 v2) t (cond b 1 2)) e (lead_some v t l))

pub returns-then-holds : goal.returns-then-holds
returns-then-holds c =
    let v : FullWords 64 c.full-v.result.v1 c.full-v.result.v2 = record { full = c.full-v.result.full; fits1 = search rules; fits2 = search rules } in
    found (meant_by c.args.self) c.full-v.ensures v (omega (arith, c.if-some-eq0.false)) true (sym c.holds.ensures ∙ c.if-holds.true)

pub returns-else-holds : goal.returns-else-holds
returns-else-holds c =
    let v : FullWords 64 c.full-v.result.v1 c.full-v.result.v2 = record { full = c.full-v.result.full; fits1 = search rules; fits2 = search rules } in
    found (meant_by c.args.self) c.full-v.ensures v (omega (arith, c.if-some-eq0.false)) false (sym c.holds.ensures ∙ c.if-holds.false)
