-- The checks give the refusals in their order; each turn of the loop puts one value line after those before it.
use Rattle.std.proofs.Common.{◌≡◌, ℕ, ◌+◌, ◌*◌, ◌<◌, ◌≤◌, List, length, Some, None, Err, Option, MatchOption, refl, arith}
use Rattle.std.specs.Option.{ok_or}
use Rattle.std.proofs.lemmas.Option.{MatchOption-at_none, MatchOption-at_some}
use Rattle.std.proofs.lemmas.Result.{err_from_is_err_and}
use Rattle.coding.specs.declared.refusals.Refusal.TheVariants.{TextTooLong}
use Rattle.sheet.specs.Writes.{Heads}
use Rattle.sheet.proofs.Bodies.{put_more, refused_beyond, refused_long, refused_room, refused_width, wrote}
use Rattle.sheet.proofs.writes.write.Goals as goal

-- the names that were counted
headed : (head : List ℕ) (o : Option ℕ) (n : ℕ) → o ≡ Some n
    → MatchOption o ((names : List (List ℕ)) → Heads names head → ⊥) (λ m. (names : List (List ℕ)) × Heads names head × (length names ≡ m))
    → (names : List (List ℕ)) × Heads names head × (length names ≡ n)
headed head o n is = MatchOption-at_some _ (λ m. (names : List (List ℕ)) × Heads names head × (length names ≡ m)) n is

-- the size of the sheet
sized : (whole : ℕ) (o : Option ℕ) (size : ℕ) → o ≡ Some size → MatchOption o (65000 < whole) (λ m. (m ≡ whole) × (m ≤ 65000)) → (size ≡ whole) × (size ≤ 65000)
sized whole o size is = MatchOption-at_some _ (λ m. (m ≡ whole) × (m ≤ 65000)) size is

too_long : (whole : ℕ) (o : Option ℕ) → o ≡ None → MatchOption o (65000 < whole) (λ m. (m ≡ whole) × (m ≤ 65000)) → 65000 < whole
too_long whole o is = MatchOption-at_none (65000 < whole) (λ m. (m ≡ whole) × (m ≤ 65000)) is

-- what stands in for an absent value
refusal_is : {A E : Type 0} (o : Option A) (e d : E) → Err e ≡ ok_or o d → o ≡ None → e ≡ d
refusal_is None e d h n = cc
refusal_is (Some x) e d h n = cc

pub returns-then-names-width : goal.returns-then-names-width
returns-then-names-width g c =
    let found = headed c.args.head.now c.count_names.result c.in_ok-names.names c.in_ok-names.ensures.ok_part c.count_names.ensures in (
      refl {a = c.args.output.now},
      refused_width g.C.Coding found.1 c.in_ok-names.names found.2 c.args.rows.now (length c.args.output.now)
          (omega (arith, c.width.ensures)),
    )

pub returns-in_err-size : goal.returns-in_err-size
returns-in_err-size g c =
    let p = err_from_is_err_and c.from_residual-in_err-size.result c.from_residual-in_err-size.ensures.1 in
    let found = headed c.args.head.now c.count_names.result c.in_ok-names.names c.in_ok-names.ensures.ok_part c.count_names.ensures in
    rw (p.1, p.2, refusal_is c.sheet_size.result c.in_err-size.field-0.0 TextTooLong c.in_err-size.ensures.value c.in_err-size.ensures.ok_part) (
      refl {a = c.args.output.now},
      refused_long g.C.Coding found.1 c.in_ok-names.names found.2 c.args.rows.now (length c.args.output.now)
          (omega (arith, c.width.ensures)) (too_long (length c.args.head.now + length c.args.rows.now * (2 * c.in_ok-names.names)) c.sheet_size.result c.in_err-size.ensures.ok_part c.sheet_size.ensures),
    )

pub returns-in_err-check_room : goal.returns-in_err-check_room
returns-in_err-check_room g c =
    let p = err_from_is_err_and c.from_residual-in_err-check_room.result c.from_residual-in_err-check_room.ensures.1 in
    let found = headed c.args.head.now c.count_names.result c.in_ok-names.names c.in_ok-names.ensures.ok_part c.count_names.ensures in
    let n = c.in_ok-names.names in
    let size = sized (length c.args.head.now + length c.args.rows.now * (2 * n)) c.sheet_size.result c.in_ok-size.size c.in_ok-size.ensures.ok_part c.sheet_size.ensures in
    rw (p.1, p.2, c.in_err-check_room.ensures.0) (
      refl {a = c.args.output.now},
      refused_room g.C.Coding found.1 n found.2 c.args.rows.now (length c.args.output.now)
          (omega (arith, c.width.ensures)) size.0 size.1 c.in_err-check_room.ensures.1,
    )

pub returns-then-not-all_long : goal.returns-then-not-all_long
returns-then-not-all_long g c =
    let found = headed c.args.head.now c.count_names.result c.in_ok-names.names c.in_ok-names.ensures.ok_part c.count_names.ensures in
    let n = c.in_ok-names.names in
    let size = sized (length c.args.head.now + length c.args.rows.now * (2 * n)) c.sheet_size.result c.in_ok-size.size c.in_ok-size.ensures.ok_part c.sheet_size.ensures in (
      refl {a = c.args.output.now},
      refused_beyond g.C.Coding found.1 n found.2 c.args.rows.now (length c.args.output.now)
          (omega (arith, c.width.ensures)) size.0 size.1 c.in_ok-check_room.ensures c.if-not-all_long.ensures,
    )

pub loop-number-preserved : goal.loop-number-preserved
loop-number-preserved g c =
    let found = headed c.args.head.now c.count_names.result c.in_ok-names.names c.in_ok-names.ensures.ok_part c.count_names.ensures in
    put_more g.C.Coding c.in_ok-names.names c.args.rows.now c.args.head.now c.args.output.now c.loop-number.number c.index-rows-number.result
    c.loop-number-test.true c.index-rows-number.is c.loop-number.output c.write_row.new.output _ (omega (arith, found.1.rule.some, found.2)) (omega arith) c.write_row.ensures c.loop-number.invariant

pub returns : goal.returns
returns g c =
    let found = headed c.args.head.now c.count_names.result c.in_ok-names.names c.in_ok-names.ensures.ok_part c.count_names.ensures in
    let n = c.in_ok-names.names in
    let size = sized (length c.args.head.now + length c.args.rows.now * (2 * n)) c.sheet_size.result c.in_ok-size.size c.in_ok-size.ensures.ok_part c.sheet_size.ensures in
    wrote g.C.Coding found.1 n found.2 c.args.rows.now
    g.met.C.Ternary.three c.args.output.now c.loop-number.output c.in_ok-size.size c.loop-number.number
    (omega (arith, c.width.ensures)) c.if-not-all_long.ensures size.0 size.1
    (omega (arith, c.loop-number-test.false, c.loop-number.auto.number-end)) c.loop-number.invariant
