-- The sheet of a head and rows, line by line, and its length.
use Rattle.std.proofs.Common.{◌≡◌, ℕ, ◌+◌, ◌*◌, ◌<◌, ◌≤◌, List, [], ◌∷◌, ◌++◌, map, length, get_or, take, drop, sym, refl, ap, ◌∙◌, subst, append_assoc, add-mul, one-mul, suc-mul, zero-mul, arith, length-append}
use borrow.Rule.Slice.PartMut.{put_mid}
use Rattle.std.specs.List.{range_with_len, HoldsAt, AllByRecursion}
use Rattle.std.proofs.lemmas.List.FromFn.{length-map-range_with_len}
use Rattle.std.proofs.lemmas.List.{drop-drop, length-take, length-take-le, map_more, map_push, take_all}
use Rattle.std.proofs.lemmas.Slice.{drop-put_mid, take-put_mid}
use Rattle.algebra.specs.Field.{Field, value}
use Rattle.algebra.specs.Modulo.{f3}
use Rattle.algebra.specs.Vector.{Long}
use Rattle.coding.specs.declared.vectors.Coding.{Ghosts as Coding}
use Rattle.sheet.specs.Format.{Row, Sheet, lines, values}
use Rattle.sheet.specs.Writes.{Heads, digits, text, Wrote, Refused, length_out_of_range, text_too_long, too_little_room, beyond_length}
use Rattle.sheet.proofs.Back.{reads_back}
use Rattle.sheet.proofs.Digits.{lines_push}
use Rattle.sheet.proofs.Values.{length_values}

module _ {X : Type 0} (C : Coding X) where
  -- the value lines of the rows
  abbrev pub body : ℕ → List X → List ℕ
  body n rows = lines (map values (map (digits C n) rows))

  length_body : (n : ℕ) (rows : List X) → 0 < n → length (body n rows) ≡ length rows * (2 * n)
  length_body n [] some = sym (zero-mul (2 * n))
  length_body n (x ∷ rows) some =
      length-append (values (digits C n x)) (body n rows)
      ∙ omega (arith, length_values (λ k. value (C.meant x k)) n some, length_body n rows some, suc-mul (length rows) (2 * n))

  body_more : (n : ℕ) (rows : List X) (i : ℕ) (x : X) → i < length rows → x ≡ get_or rows i x
      → body n (take (i + 1) rows) ≡ body n (take i rows) ++ values (digits C n x)
  body_more n rows i x within is =
      let before = map (digits C n) (take i rows) in
      ap (λ (ds : List (List ℕ)). lines (map values ds)) (map_more (digits C n) rows i x within ∙ ap (λ (y : X). before ++ digits C n y ∷ []) (sym is))
      ∙ ap lines (map_push values before (digits C n x))
      ∙ lines_push (map values before) (values (digits C n x))

  -- the head and the first value lines, and after them the bytes as they were
  module _ (n : ℕ) (rows : List X) (head first : List ℕ) where
    abbrev place : ℕ → ℕ
    place count = length head + count * (2 * n)

    pub record Put (count : ℕ) (bytes : List ℕ) : Type 0 where
      pub front : take (place count) bytes ≡ head ++ body n (take count rows)
      pub rest : drop (place count) bytes ≡ drop (place count) first

    -- one value line more
    pub put_more : (i : ℕ) (x : X) → i < length rows → x ≡ get_or rows i x
        → (old line : List ℕ) (k : ℕ) → 0 < n → k ≡ 2 * n → line ≡ values (digits C n x)
        → Put i old → Put (i + 1) (put_mid (place i) k old line)
    put_more i x within is old line k some size line_is before =
        let written : length (body n (take i rows)) ≡ i * (2 * n) =
        length_body n (take i rows) some ∙ ap (λ (m : ℕ). m * (2 * n)) (length-take-le i rows (omega arith)) in
        let room : place i ≤ length old = omega (arith, ap length before.front, length-take (place i) old, length-append head (body n (take i rows))) in
        let long : length line ≡ 2 * n = ap length line_is ∙ length_values (λ j. value (C.meant x j)) n some in
        let next : place (i + 1) ≡ place i + 2 * n = omega (arith, add-mul i 1 (2 * n), one-mul (2 * n)) in
        record {
          front =
              take-put_mid (place i) k old line (place (i + 1)) (omega arith) room
              ∙ ap (λ (t : List ℕ). t ++ line) before.front
              ∙ ap (λ (t : List ℕ). (head ++ body n (take i rows)) ++ t) line_is
              ∙ append_assoc head (body n (take i rows)) (values (digits C n x))
              ∙ ap (λ (t : List ℕ). head ++ t) (sym (body_more n rows i x within is));
          rest =
              drop-put_mid (place i) k old line (place (i + 1)) (omega arith) room (long ∙ sym size)
              ∙ ap (λ (m : ℕ). drop m old) next
              ∙ sym (drop-drop (2 * n) (place i) old)
              ∙ ap (drop (2 * n)) before.rest
              ∙ drop-drop (2 * n) (place i) first
              ∙ ap (λ (m : ℕ). drop m first) (sym next);
        }

  module _ (three : C.field ≡ f3) where
    small : (ks : List ℕ) (x : X) → AllByRecursion (λ d. d < 3) (map (λ k. value (C.meant x k)) ks)
    small [] x = tt
    small (k ∷ ks) x = (omega (arith, (C.meant x k).1, ap (λ (G : Field). G.size) three), small ks x)

    pub whole_rows : (n : ℕ) (rows : List X) → AllByRecursion (Row n) (map (digits C n) rows)
    whole_rows n [] = tt
    whole_rows n (x ∷ rows) =
        (record { whole = length-map-range_with_len (λ k. value (C.meant x k)) 0 n; small = small (range_with_len 0 n) x }, whole_rows n rows)

  module _ {names : List (List ℕ)} {head : List ℕ} (h : Heads names head) (n : ℕ) (number : length names ≡ n) (rows : List X) where
    text_is : text C names rows ≡ head ++ body n rows
    text_is = ap (λ (t : List ℕ). t ++ body (length names) rows) (sym h.text_is) ∙ ap (λ (k : ℕ). head ++ body k rows) number

    pub length_text : length (text C names rows) ≡ length head + length rows * (2 * n)
    length_text = ap length text_is ∙ length-append head (body n rows) ∙ ap (λ (k : ℕ). length head + k) (length_body n rows (omega (arith, h.rule.some)))

    module _ (room : ℕ) where
      pub refused_width : C.width < n → Refused C head rows room 6
      refused_width over = length_out_of_range refl names h (omega arith)

      pub refused_long : n ≤ C.width → 65000 < length head + length rows * (2 * n) → Refused C head rows room 1
      refused_long fit long = text_too_long refl names h (omega arith) (omega (arith, length_text))

      module _ {size : ℕ} (fit : n ≤ C.width) (is : size ≡ length head + length rows * (2 * n)) (short : size ≤ 65000) where
        pub refused_room : room < size → Refused C head rows room 8
        refused_room little = too_little_room refl names h (omega arith) (omega (arith, length_text)) (omega (arith, length_text))

        pub refused_beyond : size ≤ room
            → (i : ℕ) × (i < length rows) × HoldsAt (λ row. Long C.field n (C.meant row) → ⊥) rows i
            → Refused C head rows room 11
        refused_beyond enough (i, within, beyond) =
            beyond_length refl names h (omega arith) (omega (arith, length_text)) (omega (arith, length_text)) i within
            (subst (λ (k : ℕ). HoldsAt (λ row. Long C.field k (C.meant row) → ⊥) rows i) (sym number) beyond)

    -- the head and all rows are the sheet
    pub wrote : C.field ≡ f3 → (old new : List ℕ) (size i : ℕ)
        → n ≤ C.width
        → AllByRecursion (λ row. Long C.field n (C.meant row)) rows
        → size ≡ length head + length rows * (2 * n)
        → size ≤ 65000
        → i ≡ length rows
        → Put n rows head old i new
        → Wrote C head rows old new size
    wrote three old new size i fit long is short all_rows put =
        let here : size ≡ length head + i * (2 * n) = is ∙ ap (λ (m : ℕ). length head + m * (2 * n)) (sym all_rows) in
        let front : take size new ≡ text C names rows =
        ap (λ (m : ℕ). take m new) here
        ∙ put.front
        ∙ ap (λ (rs : List X). head ++ body n rs) (take_all i rows (omega arith))
        ∙ sym text_is in
        let sheet : Sheet names (map (digits C (length names)) rows) (take size new) = record {
          names_rule = h.rule;
          rows_rule = whole_rows three (length names) rows;
          text_is = front;
          short = omega (arith, length_text, ap length front);
        } in
        record {
          names = names;
          head_is = h;
          fit = omega arith;
          long = subst (λ (k : ℕ). AllByRecursion (λ row. Long C.field k (C.meant row)) rows) (sym number) long;
          whole = is ∙ sym length_text;
          sheet = sheet;
          back = reads_back names _ (take size new) sheet;
          rest = ap (λ (m : ℕ). drop m new) here ∙ put.rest ∙ ap (λ (m : ℕ). drop m old) (sym here);
        }
