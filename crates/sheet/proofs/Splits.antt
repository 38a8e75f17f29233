-- Words and lines can be cut out of a text in one way only.
use Rattle.std.proofs.Common.{◌≡◌, ℕ, ◌+◌, ◌-◌, ◌<◌, ◌≤◌, List, [], ◌∷◌, ◌++◌, length, get_or, take, drop, sym, refl, ap, ◌∙◌, subst, inl, inr, append_assoc, arith}
use Rattle.std.specs.List.{AllByRecursion}
use Rattle.std.proofs.ByRecursion.{All-from_get_or}
use Rattle.std.proofs.lemmas.List.{length-drop, length-take, get_or-drop, get_or-take, drop-drop, drop_at, drop_all, drop_more, take-append-drop}
use Rattle.std.proofs.lemmas.Bool.{cases_lt}
use Rattle.sheet.specs.declared.tokens.Break.{Break}
use Rattle.sheet.specs.declared.tokens.Break.TheVariants.{Blank, LineEnd}
use Rattle.sheet.specs.Format.{Name, line}
use Rattle.sheet.specs.Reading.{WordByte, Stops, WordAt, NoBreak, ending, spaced}

-- what ends a word is no byte of one
pub ending_stops : (end : Break) → WordByte (ending end) → ⊥
ending_stops LineEnd (inl l) = omega arith
ending_stops LineEnd (inr l) = omega arith
ending_stops Blank (inl l) = omega arith
ending_stops Blank (inr l) = omega arith

-- a text is a longest word and a rest in one way
pub cut_once : (v w r s : List ℕ) → AllByRecursion WordByte v → AllByRecursion WordByte w → Stops r → Stops s → v ++ r ≡ w ++ s → (v ≡ w) × (r ≡ s)
cut_once [] [] r s _ _ _ _ e = (refl, e)
cut_once [] (y ∷ w) r s _ hw hr _ e = absurd (subst Stops e hr hw.0)
cut_once (x ∷ v) [] r s hv _ _ hs e = absurd (subst Stops (sym e) hs hv.0)
cut_once (x ∷ v) (y ∷ w) r s hv hw hr hs e =
    let t : v ++ r ≡ w ++ s = cc in
    let q = cut_once v w r s hv.1 hw.1 hr hs t in
    let p = q.0 in
    (cc, q.1)

-- a word is no blank and no line end
pub word_no_break : (text : List ℕ) (place : ℕ) (w : List ℕ) → WordAt text place w → NoBreak text place
word_no_break text place [] a end rest e = absurd (omega (arith, a.some))
word_no_break text place (b ∷ w) a end rest e =
    let t = sym a.there ∙ e in
    let h : b ≡ ending end = cc in
    ending_stops end (subst WordByte h a.bytes.0)

stops_at : (text : List ℕ) (place : ℕ) → (place < length text → WordByte (get_or text place 0) → ⊥) → Stops (drop place text)
stops_at text place h =
    elim (cases_lt place (length text)) [
      | inl l ↦ subst Stops (sym (drop_more text place 0 l)) (h l)
      | inr l ↦ subst Stops (sym (drop_all place text l)) tt
    ]

-- the longest word from a place to another
pub word_between : (text : List ℕ) (start end : ℕ) → start < end → end ≤ length text
    → ((k : ℕ) → start ≤ k → k < end → WordByte (get_or text k 0)) → (end < length text → WordByte (get_or text end 0) → ⊥)
    → WordAt text start (take (end - start) (drop start text))
word_between text start end l k word ends =
    let n : length (take (end - start) (drop start text)) ≡ end - start = simp (length-take, length-drop) (omega arith) in
    let e : start + (end - start) ≡ end = omega arith in
    record {
      rest = drop end text;
      there = sym (take-append-drop (end - start) (drop start text)) ∙ ap (λ t. take (end - start) (drop start text) ++ t) (drop-drop (end - start) start text ∙ ap (λ i. drop i text) e);
      some = omega arith;
      bytes = All-from_get_or WordByte (take (end - start) (drop start text)) 0 (λ i h.
          let b : i < end - start = omega arith in
          subst WordByte (sym (get_or-take (end - start) (drop start text) i 0 b ∙ get_or-drop start text i 0)) (word (start + i) (omega arith) (omega arith)));
      stops = stops_at text end ends;
    }

-- what is left after a part of what is left
pub rest_after : (text : List ℕ) (place : ℕ) (w r : List ℕ) → drop place text ≡ w ++ r → drop (place + length w) text ≡ r
rest_after text place w r e =
    sym (drop-drop (length w) place text) ∙ ap (drop (length w)) e ∙ drop_at w r (length w) refl

-- a word with its ending is the longest word
pub whole_word : (text : List ℕ) (place : ℕ) (v w rest : List ℕ) (end : Break) → WordAt text place v → Name w → drop place text ≡ w ++ ending end ∷ rest
    → (w ≡ v) × (drop (place + length v) text ≡ ending end ∷ rest)
whole_word text place v w rest end a n e =
    let q = cut_once w v (ending end ∷ rest) a.rest n.bytes a.bytes (ending_stops end) a.stops (sym e ∙ a.there) in
    (q.0, rest_after text place v a.rest a.there ∙ sym q.1)

-- the line of a first word that is the last
pub last_name : (w after : List ℕ) (names : List (List ℕ)) (rest : List ℕ) → AllByRecursion WordByte w → AllByRecursion Name names → 0 < length names
    → w ++ 10 ∷ after ≡ line names ++ rest → (names ≡ w ∷ []) × (after ≡ rest)
last_name w after [] rest hw hn l e = absurd (omega arith)
last_name w after (v ∷ []) rest hw hn l e =
    let q = cut_once w v (10 ∷ after) (10 ∷ rest) hw hn.0.bytes (ending_stops LineEnd) (ending_stops LineEnd) (e ∙ append_assoc v (10 ∷ []) rest) in
    let p = q.0 in
    let t = q.1 in
    (cc, cc)
last_name w after (v ∷ (u ∷ names)) rest hw hn l e =
    let q = cut_once w v (10 ∷ after) (32 ∷ (line (u ∷ names) ++ rest)) hw hn.0.bytes (ending_stops LineEnd) (ending_stops Blank) (e ∙ append_assoc v (32 ∷ line (u ∷ names)) rest) in
    let t = q.1 in
    let z : ◌≡◌ {A = ℕ} 10 32 = cc in
    absurd (omega arith)

-- the line of a first word with others after it
pub more_names : (w after : List ℕ) (names : List (List ℕ)) (rest : List ℕ) → AllByRecursion WordByte w → AllByRecursion Name names → 0 < length names
    → w ++ 32 ∷ after ≡ line names ++ rest
    → (others : List (List ℕ)) × (names ≡ w ∷ others) × (0 < length others) × (after ≡ line others ++ rest)
more_names w after [] rest hw hn l e = absurd (omega arith)
more_names w after (v ∷ []) rest hw hn l e =
    let q = cut_once w v (32 ∷ after) (10 ∷ rest) hw hn.0.bytes (ending_stops Blank) (ending_stops LineEnd) (e ∙ append_assoc v (10 ∷ []) rest) in
    let t = q.1 in
    let z : ◌≡◌ {A = ℕ} 10 32 = cc in
    absurd (omega arith)
more_names w after (v ∷ (u ∷ names)) rest hw hn l e =
    let q = cut_once w v (32 ∷ after) (32 ∷ (line (u ∷ names) ++ rest)) hw hn.0.bytes (ending_stops Blank) (ending_stops Blank) (e ∙ append_assoc v (32 ∷ line (u ∷ names)) rest) in
    let p = q.0 in
    let t = q.1 in
    (u ∷ names, cc, omega arith, cc)

-- the line of names that goes on after some of them
pub others_left : (front : List (List ℕ)) (tail : List ℕ) (names : List (List ℕ)) (rest : List ℕ) → AllByRecursion Name front → AllByRecursion Name names → 0 < length names
    → spaced front ++ tail ≡ line names ++ rest
    → (others : List (List ℕ)) × (names ≡ front ++ others) × (0 < length others) × (tail ≡ line others ++ rest)
others_left [] tail names rest hf hn l e = (names, refl, l, e)
others_left (w ∷ front) tail names rest hf hn l e =
    let q = more_names w (spaced front ++ tail) names rest hf.0.bytes hn l (sym (append_assoc w (32 ∷ spaced front) tail) ∙ e) in
    let h : AllByRecursion Name (w ∷ q.0) = subst (AllByRecursion Name) q.1 hn in
    let s = others_left front tail q.0 rest hf.1 h.1 q.2 q.3 in
    (s.0, q.1 ∙ ap (λ t. w ∷ t) s.1, s.2, s.3)

-- two names lines begin equal texts only if they are equal
pub names_once : (names others : List (List ℕ)) (r s : List ℕ) → AllByRecursion Name names → AllByRecursion Name others → 0 < length names → 0 < length others
    → line names ++ r ≡ line others ++ s → (names ≡ others) × (r ≡ s)
names_once [] others r s hn ho l k e = absurd (omega arith)
names_once (w ∷ []) others r s hn ho l k e =
    let q = last_name w r others s hn.0.bytes ho k (sym (append_assoc w (10 ∷ []) r) ∙ e) in
    (sym q.0, q.1)
names_once (w ∷ (v ∷ names)) others r s hn ho l k e =
    let q = more_names w (line (v ∷ names) ++ r) others s hn.0.bytes ho k (sym (append_assoc w (32 ∷ line (v ∷ names)) r) ∙ e) in
    let h : AllByRecursion Name (w ∷ q.0) = subst (AllByRecursion Name) q.1 ho in
    let t = names_once (v ∷ names) q.0 r s hn.1 h.1 (omega arith) q.2 q.3 in
    (ap (λ t. w ∷ t) t.0 ∙ sym q.1, t.1)

-- one more word, the last of a line
pub line_push : (ws : List (List ℕ)) (w : List ℕ) → line (ws ++ w ∷ []) ≡ spaced ws ++ (w ++ 10 ∷ [])
line_push [] w = refl
line_push (v ∷ []) w = sym (append_assoc v (32 ∷ []) (w ++ 10 ∷ []))
line_push (v ∷ (u ∷ ws)) w =
    ap (λ t. v ++ 32 ∷ t) (line_push (u ∷ ws) w) ∙ sym (append_assoc v (32 ∷ spaced (u ∷ ws)) (w ++ 10 ∷ []))

-- one more word with a blank after it
pub spaced_push : (ws : List (List ℕ)) (w : List ℕ) → spaced (ws ++ w ∷ []) ≡ spaced ws ++ (w ++ 32 ∷ [])
spaced_push [] w = refl
spaced_push (v ∷ ws) w =
    ap (λ t. v ++ 32 ∷ t) (spaced_push ws w) ∙ sym (append_assoc v (32 ∷ spaced ws) (w ++ 32 ∷ []))
