-- Value lines: their digits, and in how many ways they can be cut out of a text.
use Rattle.std.proofs.Common.{◌≡◌, ℕ, ◌+◌, ◌-◌, ◌*◌, ◌<◌, ◌≤◌, List, [], ◌∷◌, ◌++◌, map, length, min, get_or, take, drop, sym, refl, ap, ◌∙◌, subst, append_assoc, arith, length-append}
use Rattle.std.specs.List.{AllByRecursion}
use Rattle.std.proofs.ByRecursion.{All-push, All-drop}
use Rattle.std.proofs.lemmas.List.{append-nil, drop_at, map_push, length_push, nil_from_length, take_at}
use Rattle.sheet.specs.Format.{Row, line, lines, values}
use Rattle.sheet.specs.Reading.{spaced, Begins, Lined}
use Rattle.sheet.proofs.Splits.{line_push, spaced_push}

-- the digit as a word
abbrev pub spelling : ℕ → List ℕ
spelling d = (48 + d) ∷ []

-- digits with a blank after each begin the text; `turn` counts from 1
pub record Spelt (text : List ℕ) (turn : ℕ) (rest : List ℕ) : Type 0 where
  pub digits : List ℕ
  pub many : length digits + 1 ≡ turn
  pub small : AllByRecursion (λ d. d < 3) digits
  pub text_is : text ≡ spaced (map spelling digits) ++ rest

-- a digit and a byte begin the rest
abbrev pub Digit : ℕ → List ℕ → Type 0
Digit after rest = (d : ℕ) × (tail : List ℕ) × (d < 3) × (rest ≡ (48 + d) ∷ (after ∷ tail))

pub digit_first : (text : List ℕ) (after : ℕ) → 2 ≤ length text → 48 ≤ get_or text 0 0 → get_or text 0 0 ≤ 50 → get_or text 1 0 ≡ after → Digit after text
digit_first [] after l low high e = absurd (omega arith)
digit_first (x ∷ []) after l low high e = absurd (omega arith)
digit_first (x ∷ (y ∷ tail)) after l low high e =
    let h : x ≡ 48 + (x - 48) = omega arith in
    (x - 48, tail, omega arith, cc)

pub spelt_none : (text : List ℕ) → Spelt text 1 text
spelt_none text = record { digits = []; many = refl; small = tt; text_is = refl }

pub spelt_more : (text : List ℕ) (turn : ℕ) (rest : List ℕ) → Spelt text turn rest → (d : Digit 32 rest) → Spelt text (turn + 1) (drop 2 rest)
spelt_more text turn rest s (d, tail, l, e) = record {
  digits = s.digits ++ d ∷ [];
  many = let n = length_push s.digits d in omega arith;
  small = All-push (λ x. x < 3) s.digits d s.small l;
  text_is =
      s.text_is
      ∙ ap (λ t. spaced (map spelling s.digits) ++ t) e
      ∙ sym (append_assoc (spaced (map spelling s.digits)) ((48 + d) ∷ (32 ∷ [])) tail)
      ∙ ap (λ t. t ++ tail) (sym (ap spaced (map_push spelling s.digits d) ∙ spaced_push (map spelling s.digits) (spelling d)))
      ∙ ap (λ t. spaced (map spelling (s.digits ++ d ∷ [])) ++ t) (sym (ap (drop 2) e));
}

-- the value line that goes on after some of its digits
digits_left : (front : List ℕ) (tail row rest : List ℕ) → 0 < length row → spaced (map spelling front) ++ tail ≡ values row ++ rest
    → (others : List ℕ) × (row ≡ front ++ others) × (0 < length others) × (tail ≡ values others ++ rest)
digits_left [] tail row rest l e = (row, refl, l, e)
digits_left (d ∷ front) tail [] rest l e = absurd (omega arith)
digits_left (d ∷ front) tail (x ∷ []) rest l e = let z : ◌≡◌ {A = ℕ} 32 10 = cc in absurd (omega arith)
digits_left (d ∷ front) tail (x ∷ (y ∷ row)) rest l e =
    let h : 48 + d ≡ 48 + x = cc in
    let n : x ≡ d = omega arith in
    let t : spaced (map spelling front) ++ tail ≡ values (y ∷ row) ++ rest = cc in
    let q = digits_left front tail (y ∷ row) rest (omega arith) t in
    let p = q.1 in
    (q.0, cc, q.2, q.3)

blank_due : (others rest tail : List ℕ) → 1 < length others → AllByRecursion (λ d. d < 3) others → rest ≡ values others ++ tail → Digit 32 rest
blank_due [] rest tail l h e = absurd (omega arith)
blank_due (x ∷ []) rest tail l h e = absurd (omega arith)
blank_due (x ∷ (y ∷ others)) rest tail l h e = (x, values (y ∷ others) ++ tail, h.0, e)

end_due : (others rest tail : List ℕ) → length others ≡ 1 → AllByRecursion (λ d. d < 3) others → rest ≡ values others ++ tail → Digit 10 rest
end_due [] rest tail l h e = absurd (omega arith)
end_due (x ∷ []) rest tail l h e = (x, tail, h.0, e)
end_due (x ∷ (y ∷ others)) rest tail l h e = absurd (omega arith)

-- what is left of the row after the digits read so far
left_due : (text : List ℕ) (turn : ℕ) (rest : List ℕ) (n : ℕ) → Spelt text turn rest → turn ≤ n → Begins n text
    → (others : List ℕ) × (tail : List ℕ) × (length others + turn ≡ n + 1) × AllByRecursion (λ d. d < 3) others × (rest ≡ values others ++ tail)
left_due text turn rest n s l (row, after, r, e) =
    let m = s.many in
    let w = r.whole in
    let q = digits_left s.digits rest row after (omega arith) (sym s.text_is ∙ e) in
    let k = ap length q.1 ∙ length-append s.digits q.0 in
    let h : AllByRecursion (λ d. d < 3) (s.digits ++ q.0) = subst (AllByRecursion (λ d. d < 3)) q.1 r.small in
    let a : AllByRecursion (λ d. d < 3) q.0 = subst (AllByRecursion (λ d. d < 3)) (drop_at s.digits q.0 (length s.digits) refl) (All-drop (λ d. d < 3) (length s.digits) (s.digits ++ q.0) h) in
    (q.0, after, omega arith, a, q.3)

-- a value line has a digit and a blank at each turn before the last
pub digit_due : (text : List ℕ) (turn : ℕ) (rest : List ℕ) (n : ℕ) → Spelt text turn rest → turn < n → Begins n text → Digit 32 rest
digit_due text turn rest n s l b =
    let q = left_due text turn rest n s (omega arith) b in
    let k = q.2 in
    blank_due q.0 rest q.1 (omega arith) q.3 q.4

-- and a digit and a line feed at the last
pub last_due : (text : List ℕ) (rest : List ℕ) (n : ℕ) → Spelt text n rest → Begins n text → Digit 10 rest
last_due text rest n s b =
    let q = left_due text n rest n s (omega arith) b in
    let k = q.2 in
    end_due q.0 rest q.1 (omega arith) q.3 q.4

pub begins : (text : List ℕ) (rest : List ℕ) (n : ℕ) → Spelt text n rest → Digit 10 rest → Begins n text
begins text rest n s (d, tail, l, e) =
    let m = s.many in
    let k = length_push s.digits d in (
      s.digits ++ d ∷ [],
      tail,
      record { whole = omega arith; small = All-push (λ x. x < 3) s.digits d s.small l },
      s.text_is
          ∙ ap (λ t. spaced (map spelling s.digits) ++ t) e
          ∙ sym (append_assoc (spaced (map spelling s.digits)) ((48 + d) ∷ (10 ∷ [])) tail)
          ∙ ap (λ t. t ++ tail) (sym (ap line (map_push spelling s.digits d) ∙ line_push (map spelling s.digits) (spelling d))),
    )

-- a value line has two bytes for each digit
pub values_length : (row : List ℕ) → 0 < length row → length (values row) ≡ 2 * length row
values_length [] l = absurd (omega arith)
values_length (d ∷ []) l = refl
values_length (d ∷ (e ∷ row)) l = let h = values_length (e ∷ row) (omega arith) in omega arith

pub lines_push : (ls : List (List ℕ)) (l : List ℕ) → lines (ls ++ l ∷ []) ≡ lines ls ++ l
lines_push [] l = append-nil l
lines_push (k ∷ ls) l = ap (λ t. k ++ t) (lines_push ls l) ∙ sym (append_assoc k (lines ls) l)

lined_more : (n : ℕ) (text : List ℕ) (count : ℕ) (rest : List ℕ) → Lined n text count rest → (b : Begins n rest) → Lined n text (count + 1) b.1
lined_more n text count rest s (row, after, r, e) = record {
  rows = s.rows ++ row ∷ [];
  rule = All-push (Row n) s.rows row s.rule r;
  many = let k = length_push s.rows row in let m = s.many in omega arith;
  text_is =
      s.text_is
      ∙ ap (λ t. lines (map values s.rows) ++ t) e
      ∙ sym (append_assoc (lines (map values s.rows)) (values row) after)
      ∙ ap (λ t. t ++ after) (sym (ap lines (map_push values s.rows row) ∙ lines_push (map values s.rows) (values row)));
}

-- a chunk of a text, as long as a value line of n digits, or all that is left
module _ (n : ℕ) (some : 0 < n) (all chunk rest : List ℕ) (parts : all ≡ chunk ++ rest) (size : length chunk ≡ min (2 * n) (length all)) where
  row_length : (row : List ℕ) → Row n row → length (values row) ≡ 2 * n
  row_length row r = let w = r.whole in omega (arith, values_length row (omega arith))

  -- where a value line begins the text, it begins the chunk
  pub begins_chunk : Begins n all → Begins n chunk
  begins_chunk (row, after, r, e) =
      let long = row_length row r in
      let whole : length chunk ≡ 2 * n = omega (arith, ap length e ∙ length-append (values row) after) in (
        row,
        [],
        r,
        sym (ap (take (2 * n)) parts ∙ take_at chunk rest (2 * n) whole) ∙ ap (take (2 * n)) e ∙ take_at (values row) after (2 * n) long ∙ sym (append-nil (values row)),
      )

  -- a chunk that a value line begins is that value line
  chunk_is : (b : Begins n chunk) → chunk ≡ values b.0
  chunk_is (row, after, r, e) =
      let none : after ≡ [] = nil_from_length after (omega (arith, row_length row r, ap length e ∙ length-append (values row) after)) in
      e ∙ ap (λ t. values row ++ t) none ∙ append-nil (values row)

  pub chunk_length : Begins n chunk → length chunk ≡ 2 * n
  chunk_length b = ap length (chunk_is b) ∙ row_length b.0 b.2

  pub lined_chunk : (text : List ℕ) (count : ℕ) → Lined n text count all → Begins n chunk → Lined n text (count + 1) rest
  lined_chunk text count s b = lined_more n text count all s (b.0, rest, b.2, parts ∙ ap (λ t. t ++ rest) (chunk_is b))

values_once : (row other r s : List ℕ) → length row ≡ length other → values row ++ r ≡ values other ++ s → (row ≡ other) × (r ≡ s)
values_once [] [] r s l e = (refl, cc)
values_once [] (y ∷ other) r s l e = absurd (omega arith)
values_once (x ∷ row) [] r s l e = absurd (omega arith)
values_once (x ∷ []) (y ∷ []) r s l e =
    let h : 48 + x ≡ 48 + y = cc in
    let n : x ≡ y = omega arith in
    (cc, cc)
values_once (x ∷ []) (y ∷ (y' ∷ other)) r s l e = absurd (omega arith)
values_once (x ∷ (x' ∷ row)) (y ∷ []) r s l e = absurd (omega arith)
values_once (x ∷ (x' ∷ row)) (y ∷ (y' ∷ other)) r s l e =
    let h : 48 + x ≡ 48 + y = cc in
    let n : x ≡ y = omega arith in
    let t : values (x' ∷ row) ++ r ≡ values (y' ∷ other) ++ s = cc in
    let q = values_once (x' ∷ row) (y' ∷ other) r s (omega arith) t in
    let p = q.0 in
    (cc, q.1)

pub values_some : (row : List ℕ) → 0 < length (values row)
values_some [] = omega arith
values_some (d ∷ []) = omega arith
values_some (d ∷ (e ∷ row)) = omega arith

-- value lines that begin others are the first of them
pub rows_begin : (n : ℕ) (rows others : List (List ℕ)) (rest : List ℕ) → AllByRecursion (Row n) rows → AllByRecursion (Row n) others
    → lines (map values rows) ++ rest ≡ lines (map values others)
    → (more : List (List ℕ)) × (others ≡ rows ++ more) × AllByRecursion (Row n) more × (rest ≡ lines (map values more))
rows_begin n [] others rest hr ho e = (others, refl, ho, e)
rows_begin n (row ∷ rows) [] rest hr ho e =
    let k = values_some row in
    let a = length-append (values row) (lines (map values rows)) in
    let m = sym (length-append (values row ++ lines (map values rows)) rest) ∙ ap length e in
    absurd (omega arith)
rows_begin n (row ∷ rows) (other ∷ others) rest hr ho e =
    let q = values_once row other (lines (map values rows) ++ rest) (lines (map values others)) (hr.0.whole ∙ sym ho.0.whole) (sym (append_assoc (values row) (lines (map values rows)) rest) ∙ e) in
    let t = rows_begin n rows others rest hr.1 ho.1 q.1 in
    let p = q.0 in
    let u = t.1 in
    (t.0, cc, t.2, t.3)
