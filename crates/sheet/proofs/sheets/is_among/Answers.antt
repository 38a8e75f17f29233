-- The names are found again one after another, each as it was.
use Rattle.std.proofs.Common.{◌<◌, [], length, get_or, sym, refl, ◌∙◌, arith, below_more}
use Rattle.std.proofs.ByRecursion.{All-get_or}
use Rattle.std.proofs.lemmas.Slice.Eq.{slice_eq-Decides}
use Rattle.std.proofs.lemmas.Bool.{both_ways}
use Rattle.sheet.specs.declared.tokens.Break.TheVariants.{Blank}
use Rattle.sheet.specs.Format.{Name}
use Rattle.sheet.proofs.Headings.{name_again, name_matches}
use Rattle.sheet.proofs.sheets.is_among.Goals as goal
use Rattle.std.proofs.lemmas.Bool.Decides.{Decides-eqb}

-- the names walked are names, so the next is found
pub returns-in_default : goal.returns-in_default
returns-in_default c names rest h n e =
    let s = c.loop.invariant names rest h n e in
    let l : c.loop.counter < length names = omega (arith, c.loop-test.true) in
    absurd (c.in_default.ensures (get_or names c.loop.counter []) _ Blank (All-get_or Name names c.loop.counter [] l h) (name_again names c.loop.counter rest _ l s.0))

pub returns-then-eq : goal.returns-then-eq
returns-then-eq c names rest h n e =
    let s = c.loop.invariant names rest h n e in
    let a = c.in-Some.ensures in
    let l : c.loop.counter < length names = omega (arith, c.loop-test.true) in
    let q = name_matches names c.loop.counter rest _ l s.0 _ _ _ h a.name a.there in
    let d = slice_eq-Decides Decides-eqb _ _ _ c.eq.ensures in
    (λ _. (c.loop.counter, c.loop-test.true, sym q.0 ∙ d.0 c.if-eq.true), λ _. refl)

pub loop-preserved : goal.loop-preserved
loop-preserved c names rest h n e =
    let s = c.loop.invariant names rest h n e in
    let a = c.in-Some.ensures in
    let l : c.loop.counter < length names = omega (arith, c.loop-test.true) in
    let q = name_matches names c.loop.counter rest _ l s.0 _ _ _ h a.name a.there in
    let d = slice_eq-Decides Decides-eqb _ _ _ c.eq.ensures in
    (q.1, below_more _ _ s.1 (λ same. both_ways c.eq.result c.if-eq.false (d.1 (q.0 ∙ same))))
