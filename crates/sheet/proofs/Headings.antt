-- The names of a names line under way.
use Rattle.std.proofs.Common.{◌≡◌, ℕ, ◌+◌, ◌<◌, ◌≤◌, List, [], ◌∷◌, ◌++◌, length, get_or, drop, sym, refl, ap, ◌∙◌, subst, inl, inr, append_assoc, arith}
use Rattle.std.specs.List.{AllByRecursion}
use Rattle.std.proofs.ByRecursion.{All-push, All-drop, All-get_or}
use Rattle.std.proofs.lemmas.List.{drop_at, drop_more, get_or_at, get_or_append_left, length-append, length_push}
use Rattle.std.proofs.lemmas.Bool.{cases_lt}
use Rattle.sheet.specs.declared.sheets.Named.{Named}
use Rattle.sheet.specs.declared.tokens.Break.{Break}
use Rattle.sheet.specs.declared.tokens.Break.TheVariants.{Blank, LineEnd}
use Rattle.sheet.specs.Format.{Name, Names, line}
use Rattle.sheet.specs.Reading.{NameAt, NoName, Headed, ending, spaced}
use Rattle.sheet.proofs.Splits.{cut_once, ending_stops, last_name, more_names, others_left, line_push, spaced_push}

-- the names at different places differ
abbrev pub Different : List (List ℕ) → Type 0
Different names = (i j : ℕ) → i < length names → j < length names → get_or names i [] ≡ get_or names j [] → i ≡ j

-- so many different names, each with a blank after it, up to a place in the text
pub record Walked (text : List ℕ) (count next : ℕ) : Type 0 where
  pub names : List (List ℕ)
  pub many : length names ≡ count
  pub each : AllByRecursion Name names
  pub different : Different names
  pub text_is : text ≡ spaced names ++ drop next text
  pub place : next ≡ length (spaced names)

-- no names line begins the text
abbrev pub NoNames : List ℕ → Type 0
NoNames text = (names : List (List ℕ)) (rest : List ℕ) → Names names → text ≡ line names ++ rest → ⊥

-- the names that any names line has after those walked
walked_others : (text : List ℕ) (count next : ℕ) (s : Walked text count next) (names : List (List ℕ)) (rest : List ℕ) → Names names → text ≡ line names ++ rest
    → (others : List (List ℕ)) × (names ≡ s.names ++ others) × (0 < length others) × (drop next text ≡ line others ++ rest) × AllByRecursion Name others
walked_others text count next s names rest n e =
    let q = others_left s.names (drop next text) names rest s.each n.each n.some (sym s.text_is ∙ e) in
    let h : AllByRecursion Name (s.names ++ q.0) = subst (AllByRecursion Name) q.1 n.each in
    (q.0, q.1, q.2, q.3, subst (AllByRecursion Name) (drop_at s.names q.0 (length s.names) refl) (All-drop Name (length s.names) (s.names ++ q.0) h))

-- a line of names begins with a name and its ending
name_due : (names : List (List ℕ)) (rest tail : List ℕ) → AllByRecursion Name names → 0 < length names → tail ≡ line names ++ rest
    → (w : List ℕ) × (after : List ℕ) × (end : Break) × Name w × (tail ≡ w ++ ending end ∷ after)
name_due [] rest tail h l e = absurd (omega arith)
name_due (w ∷ []) rest tail h l e = (w, rest, LineEnd, h.0, e ∙ append_assoc w (10 ∷ []) rest)
name_due (w ∷ (v ∷ names)) rest tail h l e =
    (w, line (v ∷ names) ++ rest, Blank, h.0, e ∙ append_assoc w (32 ∷ line (v ∷ names)) rest)

pub none_without_name : (text : List ℕ) (count next : ℕ) → Walked text count next → NoName text next → NoNames text
none_without_name text count next s never names rest n e =
    let q = walked_others text count next s names rest n e in
    let d = name_due q.0 rest (drop next text) q.4 q.2 q.3 in
    never d.0 d.1 d.2 d.3 d.4

first_is : (w after : List ℕ) (end : Break) (names : List (List ℕ)) (rest : List ℕ) → Name w → AllByRecursion Name names → 0 < length names
    → w ++ ending end ∷ after ≡ line names ++ rest → (others : List (List ℕ)) × (names ≡ w ∷ others)
first_is w after LineEnd names rest n h l e = ([], (last_name w after names rest n.bytes h l e).0)
first_is w after Blank names rest n h l e = let q = more_names w after names rest n.bytes h l e in (q.0, q.1)

pub none_with_repeat : (text : List ℕ) (count next : ℕ) (s : Walked text count next) (found : Named) → NameAt text next found
    → (k : ℕ) × (k < count) × (get_or s.names k [] ≡ found.word.now) → NoNames text
none_with_repeat text count next s found a (k, l, same) names rest n e =
    let w = found.word.now in
    let m = s.many in
    let q = walked_others text count next s names rest n e in
    let f = first_is w (drop found.next text) found.end q.0 rest a.name q.4 q.2 (sym a.there ∙ q.3) in
    let t : names ≡ s.names ++ w ∷ f.0 = q.1 ∙ ap (λ x. s.names ++ x) f.1 in
    let b = ap length t ∙ length-append s.names (w ∷ f.0) in
    let at_k = ap (λ x. get_or x k []) t ∙ get_or_append_left s.names (w ∷ f.0) [] k (omega arith) in
    let at_count = ap (λ x. get_or x count []) t ∙ get_or_at s.names w f.0 [] count m in
    let z = n.different k count (omega arith) (omega arith) (at_k ∙ same ∙ sym at_count) in
    omega arith

pub none_beyond : (text : List ℕ) (count next : ℕ) → Walked text count next → 64 ≤ count → NoNames text
none_beyond text count next s l names rest n e =
    let m = s.many in
    let q = walked_others text count next s names rest n e in
    let b = ap length q.1 ∙ length-append s.names q.0 in
    omega (arith, q.2, n.most)

-- one name more, different from those before
different_push : (names : List (List ℕ)) (w : List ℕ) → Different names → ((k : ℕ) → k < length names → get_or names k [] ≡ w → ⊥) → Different (names ++ w ∷ [])
different_push names w d new i j hi hj e =
    let n = length_push names w in
    elim (cases_lt i (length names)) [
      | inl li ↦ elim (cases_lt j (length names)) [
        | inl lj ↦ d i j li lj (sym (get_or_append_left names (w ∷ []) [] i li) ∙ e ∙ get_or_append_left names (w ∷ []) [] j lj)
        | inr lj ↦ absurd (new i li (sym (get_or_append_left names (w ∷ []) [] i li) ∙ e ∙ get_or_at names w [] [] j (omega arith)))
      ]
      | inr li ↦ elim (cases_lt j (length names)) [
        | inl lj ↦ absurd (new j lj (sym (get_or_append_left names (w ∷ []) [] j lj) ∙ sym e ∙ get_or_at names w [] [] i (omega arith)))
        | inr lj ↦ omega arith
      ]
    ]

module _ (text : List ℕ) (count next : ℕ) (s : Walked text count next) (found : Named) (a : NameAt text next found)
    (new : (k : ℕ) → k < count → get_or s.names k [] ≡ found.word.now → ⊥) where
  pushed_different : Different (s.names ++ found.word.now ∷ [])
  pushed_different = different_push s.names found.word.now s.different (λ k h. new k (omega (arith, s.many)))

  -- the names with the one found, as far as its ending
  pushed : List ℕ
  pushed = spaced s.names ++ (found.word.now ++ ending found.end ∷ [])

  pushed_text : text ≡ pushed ++ drop found.next text
  unfolding pushed
  pushed_text =
      let rest = drop found.next text in
      let last = ending found.end ∷ [] in
      s.text_is
      ∙ ap (λ t. spaced s.names ++ t) (a.there ∙ sym (append_assoc found.word.now last rest))
      ∙ sym (append_assoc (spaced s.names) (found.word.now ++ last) rest)

  pushed_place : found.next ≡ length pushed
  unfolding pushed
  pushed_place =
      let last = ending found.end ∷ [] in
      let p = s.place in
      let b = length-append (spaced s.names) (found.word.now ++ last) in
      let d = length-append found.word.now last in
      omega (arith, a.next)

  pub walked_more : found.end ≡ Blank → Walked text (count + 1) found.next
  unfolding pushed
  walked_more f =
      let w = found.word.now in
      let k = length_push s.names w in
      let e : pushed ≡ spaced (s.names ++ w ∷ []) = ap (λ b. spaced s.names ++ (w ++ ending b ∷ [])) f ∙ sym (spaced_push s.names w) in
      record {
        names = s.names ++ w ∷ [];
        many = omega (arith, s.many);
        each = All-push Name s.names w s.each a.name;
        different = pushed_different;
        text_is = pushed_text ∙ ap (λ t. t ++ drop found.next text) e;
        place = pushed_place ∙ ap length e;
      }

  pub headed : count < 64 → found.end ≡ LineEnd → Headed text (record { names = count + 1; end = found.next })
  unfolding pushed
  headed l f =
      let w = found.word.now in
      let m = s.many in
      let k = length_push s.names w in
      let e : pushed ≡ line (s.names ++ w ∷ []) = ap (λ b. spaced s.names ++ (w ++ ending b ∷ [])) f ∙ sym (line_push s.names w) in
      record {
        names = s.names ++ w ∷ [];
        rule = record { some = omega arith; most = omega arith; each = All-push Name s.names w s.each a.name; different = pushed_different };
        count = omega arith;
        end = pushed_place ∙ ap length e;
        text_is = pushed_text ∙ ap (λ t. t ++ drop found.next text) e;
      }

-- the name at a number, and what follows it
module _ (names : List (List ℕ)) (i : ℕ) (rest tail : List ℕ) (l : i < length names) (e : tail ≡ spaced (drop i names) ++ rest) where
  pub name_again : tail ≡ get_or names i [] ++ 32 ∷ (spaced (drop (i + 1) names) ++ rest)
  name_again =
      e
      ∙ ap (λ t. spaced t ++ rest) (drop_more names i [] l)
      ∙ append_assoc (get_or names i []) (32 ∷ spaced (drop (i + 1) names)) rest

  pub name_matches : (w after : List ℕ) (end : Break) → AllByRecursion Name names → Name w → tail ≡ w ++ ending end ∷ after
      → (w ≡ get_or names i []) × (after ≡ spaced (drop (i + 1) names) ++ rest)
  name_matches w after end h n f =
      let q = cut_once w (get_or names i []) (ending end ∷ after) (32 ∷ (spaced (drop (i + 1) names) ++ rest)) n.bytes (All-get_or Name names i [] l h).bytes (ending_stops end) (ending_stops Blank) (sym f ∙ name_again) in
      let t = q.1 in
      (q.0, cc)
