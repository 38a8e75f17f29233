-- Whole sheets: what a text that begins with names and value lines can be, and cannot be.
use Rattle.std.proofs.Common.{◌≡◌, ℕ, ◌+◌, ◌<◌, ◌≤◌, List, [], ◌∷◌, ◌++◌, map, length, take, drop, sym, refl, ap, ◌∙◌, subst, inl, inr, append_assoc, arith}
use Rattle.std.specs.List.{AllByRecursion}
use Rattle.std.proofs.ByRecursion.{All-append, All-get_or, All-weaker}
use Rattle.std.proofs.lemmas.List.{append-nil, length-append, take_at}
use Rattle.sheet.specs.declared.faults.Fault.{Fault}
use Rattle.sheet.specs.declared.sheets.Head.{Head}
use Rattle.sheet.specs.Format.{Name, Row, Sheet, line, lines, values, written}
use Rattle.sheet.specs.Faults.{Known, TextFault, FaultOf}
use Rattle.sheet.specs.Opened.{Only, NoSheet}
use Rattle.sheet.specs.Reading.{WordByte, Headed, Begins, Lined, LinesFault}
use Rattle.sheet.proofs.Splits.{names_once}
use Rattle.sheet.proofs.Digits.{rows_begin, values_some}

known_line : (names : List (List ℕ)) → AllByRecursion Name names → AllByRecursion Known (line names)
known_line [] h = (inr (inr refl), tt)
known_line (w ∷ []) h =
    All-append Known w (10 ∷ []) (All-weaker WordByte Known (λ b k. inl k) w h.0.bytes) (inr (inr refl), tt)
known_line (w ∷ (v ∷ names)) h =
    All-append Known w (32 ∷ line (v ∷ names)) (All-weaker WordByte Known (λ b k. inl k) w h.0.bytes) (inr (inl refl), known_line (v ∷ names) h.1)

digit_known : (d : ℕ) → d < 3 → Known (48 + d)
digit_known d l = inl (inr (omega arith, omega arith))

known_values : (row : List ℕ) → AllByRecursion (λ d. d < 3) row → AllByRecursion Known (values row)
known_values [] h = (inr (inr refl), tt)
known_values (d ∷ []) h = (digit_known d h.0, (inr (inr refl), tt))
known_values (d ∷ (e ∷ row)) h = (digit_known d h.0, (inr (inl refl), known_values (e ∷ row) h.1))

known_lines : (n : ℕ) (rows : List (List ℕ)) → AllByRecursion (Row n) rows → AllByRecursion Known (lines (map values rows))
known_lines n [] h = tt
known_lines n (row ∷ rows) h =
    All-append Known (values row) (lines (map values rows)) (known_values row h.0.small) (known_lines n rows h.1)

-- a sheet has no foreign byte
sheet_known : (names rows : List (List ℕ)) (text : List ℕ) → Sheet names rows text → AllByRecursion Known text
sheet_known names rows text s =
    subst (AllByRecursion Known) (sym s.text_is)
    (All-append Known (line names) (lines (map values rows)) (known_line names s.names_rule.each) (known_lines (length names) rows s.rows_rule))

-- a text with a fault of the text layer is no sheet
pub text_fault : (text : List ℕ) (f : Fault) → TextFault text f → NoSheet text
text_fault text f (inl t) names rows s = omega (arith, t.long, s.short)
text_fault text f (inr t) names rows s =
    t.there (All-get_or Known text f.place 0 t.within (sheet_known names rows text s))

-- value lines that are something begin with a value line
line_due : (n : ℕ) (rows : List (List ℕ)) (rest : List ℕ) → 0 < length rest → AllByRecursion (Row n) rows → rest ≡ lines (map values rows) → Begins n rest
line_due n [] rest l h e = let k = ap length e in absurd (omega arith)
line_due n (row ∷ rows) rest l h e = (row, lines (map values rows), h.0, e)

no_rows : (rows : List (List ℕ)) → [] ≡ lines (map values rows) → rows ≡ []
no_rows [] e = refl
no_rows (row ∷ rows) e =
    let k = values_some row in
    let m = ap length e ∙ length-append (values row) (lines (map values rows)) in
    absurd (omega arith)

module _ (text : List ℕ) (head : Head) (h : Headed text head) where
  -- a sheet has the names of its names line, and its value lines are what is left
  after_names : (names rows : List (List ℕ)) → Sheet names rows text → (names ≡ h.names) × (lines (map values rows) ≡ drop head.end text)
  after_names names rows s =
      names_once names h.names (lines (map values rows)) (drop head.end text) s.names_rule.each h.rule.each s.names_rule.some h.rule.some (sym s.text_is ∙ h.text_is)

  -- the value lines of a sheet go on from those read so far
  rows_left : (count : ℕ) (rest : List ℕ) (l : Lined head.names (drop head.end text) count rest) (names rows : List (List ℕ)) → Sheet names rows text
      → (more : List (List ℕ)) × (rows ≡ l.rows ++ more) × AllByRecursion (Row head.names) more × (rest ≡ lines (map values more))
  rows_left count rest l names rows s =
      let q = after_names names rows s in
      let e : length names ≡ head.names = ap length q.0 ∙ sym h.count in
      rows_begin head.names l.rows rows rest l.rule (subst (λ n. AllByRecursion (Row n) rows) e s.rows_rule) (sym l.text_is ∙ sym q.1)

  whole : (count : ℕ) (rest : List ℕ) (l : Lined head.names (drop head.end text) count rest) → text ≡ written h.names l.rows ++ rest
  whole count rest l =
      h.text_is ∙ ap (λ t. line h.names ++ t) l.text_is ∙ sym (append_assoc (line h.names) (lines (map values l.rows)) rest)

  pub bad_values : (f : Fault) → length text ≤ 65000 → AllByRecursion Known text → LinesFault head.names text head.end f → FaultOf text f × NoSheet text
  bad_values f short known b =
      let l = b.before in
      let w = whole b.count b.rest l in
      let k = ap length w ∙ length-append (written h.names l.rows) b.rest in (
        inr (inr (record {
          number = b.number;
          layer = b.layer;
          short = short;
          known = known;
          names = h.names;
          rows = l.rows;
          rest = b.rest;
          names_rule = h.rule;
          rows_rule = subst (λ n. AllByRecursion (Row n) l.rows) h.count l.rule;
          text_is = w;
          more = b.more;
          none = λ row after r e. b.none (row, after, subst (λ n. Row n row) (sym h.count) r, e);
          place = omega (arith, b.place);
        })),
        λ names rows s.
            let q = rows_left b.count b.rest l names rows s in
            b.none (line_due head.names q.0 b.rest b.more q.2 q.3),
      )

  -- nothing after the value lines: the text is a sheet
  pub sheet : (count : ℕ) → length text ≤ 65000 → (l : Lined head.names (drop head.end text) count []) → Sheet h.names l.rows text
  sheet count short l = record {
    names_rule = h.rule;
    rows_rule = subst (λ n. AllByRecursion (Row n) l.rows) h.count l.rule;
    text_is = whole count [] l ∙ append-nil (written h.names l.rows);
    short = short;
  }

  -- and the part up to its end is the names line
  pub head_is : take head.end text ≡ line h.names
  head_is = ap (take head.end) h.text_is ∙ take_at (line h.names) (drop head.end text) head.end (sym h.end)

  -- and there is no other sheet with that text
  pub only : (count : ℕ) (l : Lined head.names (drop head.end text) count []) → Only text h.names l.rows
  only count l names rows s =
      let q = rows_left count [] l names rows s in
      ((after_names names rows s).0, q.1 ∙ ap (λ t. l.rows ++ t) (no_rows q.0 q.3) ∙ append-nil l.rows)
