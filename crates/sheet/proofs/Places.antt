-- Where the digits of a sheet stand in its text.
use Rattle.std.proofs.Common.{◌≡◌, ℕ, zero, suc, ◌+◌, ◌-◌, ◌*◌, ◌<◌, ◌≤◌, List, [], ◌∷◌, ◌++◌, map, length, get_or, take, drop, sym, refl, ap, ◌∙◌, subst, mul-le-mul_right, suc-mul, zero-mul, zero-add, arith, length-append}
use mathlib.Core.Logic.{∥∥₁_elim}
use Rattle.std.specs.Prelude.{slice_index}
use Rattle.std.specs.List.{AllByRecursion}
use Rattle.std.proofs.ByRecursion.{All-get_or}
use Rattle.std.proofs.Props.{props}
use Rattle.std.proofs.lemmas.List.FromFn.{fill_by_all, get_or-map-range_with_len, length-map-range_with_len}
use Rattle.std.proofs.lemmas.List.{drop-drop, drop_at, get_or-append-add, get_or-drop, get_or-take, get_or_append_left}
use Rattle.sheet.specs.declared.opened.Opened.{Opened}
use Rattle.sheet.specs.Format.{Row, Parts, line, lines, values, row_read, rows_read}
use Rattle.sheet.specs.Opened.{rows_of}
use Rattle.sheet.proofs.Digits.{values_length}

values_at : (row : List ℕ) (k : ℕ) → k < length row → get_or (values row) (k * 2) 0 ≡ 48 + get_or row k 0
values_at [] k l = absurd (omega arith)
values_at (d ∷ []) zero l = refl
values_at (d ∷ []) (suc k) l = absurd (omega arith)
values_at (d ∷ (e ∷ row)) zero l = refl
values_at (d ∷ (e ∷ row)) (suc k) l =
    let i : suc k * 2 ≡ suc (suc (k * 2)) = omega arith in
    ap (λ n. get_or (values (d ∷ (e ∷ row))) n 0) i ∙ values_at (e ∷ row) k (omega arith)

lines_at : (n : ℕ) (rows : List (List ℕ)) (number k : ℕ) → AllByRecursion (Row n) rows → number < length rows → k < n
    → get_or (lines (map values rows)) ((number * n + k) * 2) 0 ≡ 48 + get_or (get_or rows number []) k 0
lines_at n [] number k h l m = absurd (omega arith)
lines_at n (row ∷ rows) zero k h l m =
    let w = h.0.whole in
    let i : (zero * n + k) * 2 ≡ k * 2 = omega arith in
    let b = values_length row (omega arith) in
    ap (λ t. get_or (values row ++ lines (map values rows)) t 0) i
    ∙ get_or_append_left (values row) (lines (map values rows)) 0 (k * 2) (omega arith)
    ∙ values_at row k (omega arith)
lines_at n (row ∷ rows) (suc number) k h l m =
    let w = h.0.whole in
    let b = values_length row (omega arith) in
    let i : (suc number * n + k) * 2 ≡ length (values row) + (number * n + k) * 2 = omega (arith, suc-mul number n) in
    ap (λ t. get_or (values row ++ lines (map values rows)) t 0) i
    ∙ get_or-append-add (values row) (lines (map values rows)) ((number * n + k) * 2) 0
    ∙ lines_at n rows number k h.1 (omega arith) m

lines_length : (n : ℕ) (rows : List (List ℕ)) → 0 < n → AllByRecursion (Row n) rows → length (lines (map values rows)) ≡ length rows * (2 * n)
lines_length n [] some h = sym (zero-mul (2 * n))
lines_length n (row ∷ rows) some h =
    let w = h.0.whole in
    omega (arith, length-append (values row) (lines (map values rows)), values_length row (omega arith), lines_length n rows some h.1, suc-mul (length rows) (2 * n))

module _ (text head : List ℕ) (count number : ℕ) (names rows : List (List ℕ)) (p : Parts text head count number names rows) where
  rule : AllByRecursion (Row count) rows
  rule = subst (λ n. AllByRecursion (Row n) rows) (sym p.names_are) p.sheet.rows_rule

  some : 0 < count
  some = omega (arith, p.names_are, p.sheet.names_rule.some)

  rest_is : drop (length head) text ≡ lines (map values rows)
  rest_is =
      ap (λ h. drop (length h) text) p.head_is
      ∙ ap (drop (length (line names))) p.sheet.text_is
      ∙ drop_at (line names) (lines (map values rows)) (length (line names)) refl

  row_there : (i : ℕ) → i < number → Row count (get_or rows i [])
  row_there i l = All-get_or (Row count) rows i [] (omega (arith, p.rows_are)) rule

  byte_is : (i k : ℕ) → i < number → k < count → get_or (drop (i * (2 * count)) (drop (length head) text)) (2 * k) 0 ≡ 48 + get_or (get_or rows i []) k 0
  byte_is i k l m =
      let at : i * (2 * count) + 2 * k ≡ (i * count + k) * 2 = omega arith in
      get_or-drop (i * (2 * count)) (drop (length head) text) (2 * k) 0
      ∙ ap (λ t. get_or t (i * (2 * count) + 2 * k) 0) rest_is
      ∙ ap (λ j. get_or (lines (map values rows)) j 0) at
      ∙ lines_at count rows i k rule (omega (arith, p.rows_are)) m

  pub rows_are_read : rows ≡ rows_read count number (drop (length head) text)
  rows_are_read =
      fill_by_all (λ i. row_read count (drop (i * (2 * count)) (drop (length head) text))) rows number [] (sym p.rows_are) (λ i l.
      fill_by_all (λ k. slice_index (drop (i * (2 * count)) (drop (length head) text)) (2 * k) - 48) (get_or rows i []) count 0 (row_there i l).whole (λ k m.
      omega (arith, byte_is i k l m)))

  text_length : length text ≡ length head + number * (2 * count)
  text_length =
      let long = ap length p.sheet.text_is ∙ length-append (line names) (lines (map values rows)) in
      omega (arith, long, ap length p.head_is, lines_length count rows some rule, ap (λ m. m * (2 * count)) p.rows_are)

  byte_is_read : (i k : ℕ) → i < number → k < count
      → get_or (drop (i * (2 * count)) (drop (length head) text)) (2 * k) 0 ≡ 48 + get_or (get_or (rows_read count number (drop (length head) text)) i []) k 0
  byte_is_read i k l m = byte_is i k l m ∙ ap (λ rs. 48 + get_or (get_or rs i []) k 0) rows_are_read

  small : (i k : ℕ) → i < number → k < count → get_or (get_or (rows_read count number (drop (length head) text)) i []) k 0 < 3
  small i k l m =
      let r = row_there i l in
      subst (λ rs. get_or (get_or rs i []) k 0 < 3) rows_are_read (All-get_or (λ d. d < 3) (get_or rows i []) k 0 (omega (arith, r.whole)) r.small)

-- what is known of an opened sheet, whatever its names and rows are
module _ (o : Opened) where
  abbrev rest : List ℕ
  rest = drop (length o.head.now) o.text.now

  pub some_names : 0 < o.names
  some_names = ∥∥₁_elim o.of_sheet (Prim.hlevel props) (λ (names, rows, p). some o.text.now o.head.now o.names o.lines names rows p)

  size_is : length o.text.now ≡ length o.head.now + o.lines * (2 * o.names)
  size_is = ∥∥₁_elim o.of_sheet (Prim.hlevel props) (λ (names, rows, p). text_length o.text.now o.head.now o.names o.lines names rows p)

  is_short : length o.text.now ≤ 65000
  is_short = ∥∥₁_elim o.of_sheet (Prim.hlevel props) (λ (names, rows, p). p.sheet.short)

  -- a value line lies within the text, which is short
  pub line_within : (i : ℕ) → i < o.lines → (length o.head.now + i * (2 * o.names) + 2 * o.names ≤ length o.text.now) × (length o.text.now ≤ 65000)
  line_within i l = (omega (arith, size_is, suc-mul i (2 * o.names), mul-le-mul_right (2 * o.names) l), is_short)

  pub line_digit : (i k : ℕ) → i < o.lines → k < o.names
      → get_or (take (2 * o.names) (drop (length o.head.now + i * (2 * o.names)) o.text.now)) (2 * k) 0 ≡ 48 + get_or (get_or (rows_of o) i []) k 0
  line_digit i k l m =
      get_or-take (2 * o.names) (drop (length o.head.now + i * (2 * o.names)) o.text.now) (2 * k) 0 (omega arith)
      ∙ ap (λ t. get_or t (2 * k) 0) (sym (drop-drop (i * (2 * o.names)) (length o.head.now) o.text.now))
      ∙ ∥∥₁_elim o.of_sheet (Prim.hlevel props) (λ (names, rows, p). byte_is_read o.text.now o.head.now o.names o.lines names rows p i k l m)

  pub digit_small : (i k : ℕ) → i < o.lines → k < o.names → get_or (get_or (rows_of o) i []) k 0 < 3
  digit_small i k l m = ∥∥₁_elim o.of_sheet (Prim.hlevel props) (λ (names, rows, p). small o.text.now o.head.now o.names o.lines names rows p i k l m)

  -- there is a row for each value line, and in it a digit for each name
  pub rows_length : length (rows_of o) ≡ o.lines
  rows_length = length-map-range_with_len (λ i. row_read o.names (drop (i * (2 * o.names)) rest)) 0 o.lines

  pub row_length : (i : ℕ) → i < o.lines → length (get_or (rows_of o) i []) ≡ o.names
  row_length i l =
      ap length (get_or-map-range_with_len (λ j. row_read o.names (drop (j * (2 * o.names)) rest)) 0 o.lines i i [] l (zero-add i))
      ∙ length-map-range_with_len (λ k. slice_index (drop (i * (2 * o.names)) rest) (2 * k) - 48) 0 o.names
