-- The value line of a row, digit by digit, and its length.
use Rattle.std.proofs.Common.{◌≡◌, ℕ, ◌+◌, ◌-◌, ◌*◌, ◌<◌, ◌≤◌, List, [], ◌∷◌, ◌++◌, map, length, get_or, drop, set, sym, refl, ap, ◌∙◌, append_assoc, zero-add, arith}
use Rattle.std.specs.List.{range_with_len}
use Rattle.std.proofs.lemmas.List.FromFn.{length-map-range_with_len, map-range_with_len_more}
use Rattle.std.proofs.lemmas.List.{append-nil, drop_all, drop_more, length_push, map_push, set_at}
use Rattle.sheet.specs.Format.{line, values}
use Rattle.sheet.specs.Reading.{spaced}
use Rattle.sheet.proofs.Digits.{spelling, values_length}
use Rattle.sheet.proofs.Splits.{spaced_push, line_push}

-- the digits with a blank after each
abbrev pub figures : List ℕ → List ℕ
figures ds = spaced (map spelling ds)

figures_push : (ds : List ℕ) (d : ℕ) → figures (ds ++ d ∷ []) ≡ (figures ds ++ (48 + d) ∷ []) ++ 32 ∷ []
figures_push ds d = ap spaced (map_push spelling ds d) ∙ spaced_push (map spelling ds) (spelling d) ∙ sym (append_assoc (figures ds) (spelling d) (32 ∷ []))

values_push : (ds : List ℕ) (d : ℕ) → values (ds ++ d ∷ []) ≡ (figures ds ++ (48 + d) ∷ []) ++ 10 ∷ []
values_push ds d = ap line (map_push spelling ds d) ∙ line_push (map spelling ds) (spelling d) ∙ sym (append_assoc (figures ds) (spelling d) (10 ∷ []))

length_figures : (ds : List ℕ) → length (figures ds) ≡ 2 * length ds
length_figures [] = refl
length_figures (d ∷ ds) = omega (arith, length_figures ds)

-- one byte more after a text that stands over the first bytes
set_next : (t bytes : List ℕ) (n b : ℕ) → length t ≡ n → n < length bytes → set (t ++ drop n bytes) n b ≡ (t ++ b ∷ []) ++ drop (n + 1) bytes
set_next t bytes n b is room =
    ap (λ (l : List ℕ). set (t ++ l) n b) (drop_more bytes n 0 room)
    ∙ set_at t (get_or bytes n 0) (drop (n + 1) bytes) b n is
    ∙ sym (append_assoc t (b ∷ []) (drop (n + 1) bytes))

module _ (f : ℕ → ℕ) where
  abbrev pub firsts : ℕ → List ℕ
  firsts n = map f (range_with_len 0 n)

  length_firsts : (n : ℕ) → length (figures (firsts n)) ≡ 2 * n
  length_firsts n = length_figures (firsts n) ∙ ap (λ (m : ℕ). 2 * m) (length-map-range_with_len f 0 n)

  firsts_more : (n : ℕ) → firsts (n + 1) ≡ firsts n ++ f n ∷ []
  firsts_more n = map-range_with_len_more f 0 n n (zero-add n)

  firsts_back : (n : ℕ) → 0 < n → firsts n ≡ firsts (n - 1) ++ f (n - 1) ∷ []
  firsts_back n some = let back : n ≡ n - 1 + 1 = omega arith in ap firsts back ∙ firsts_more (n - 1)

  pub length_values : (n : ℕ) → 0 < n → length (values (firsts n)) ≡ 2 * n
  length_values n some =
      let long = length-map-range_with_len f 0 n in
      omega (arith, values_length (firsts n) (omega arith))

  module _ (bytes : List ℕ) where
    pub figures_more : (n d : ℕ) (now : List ℕ) → 2 * n + 2 ≤ length bytes → d ≡ f n
        → now ≡ figures (firsts n) ++ drop (2 * n) bytes
        → set (set now (2 * n) (48 + d)) (2 * n + 1) 32 ≡ figures (firsts (n + 1)) ++ drop (2 * (n + 1)) bytes
    figures_more n d now room is before =
        let text = figures (firsts n) in
        let long = length_firsts n in
        let on : 2 * n + 1 + 1 ≡ 2 * (n + 1) = omega arith in
        ap (λ (l : List ℕ). set (set l (2 * n) (48 + d)) (2 * n + 1) 32) before
        ∙ ap (λ (k : ℕ). set (set (text ++ drop (2 * n) bytes) (2 * n) (48 + k)) (2 * n + 1) 32) is
        ∙ ap (λ (l : List ℕ). set l (2 * n + 1) 32) (set_next text bytes (2 * n) (48 + f n) long (omega arith))
        ∙ set_next (text ++ (48 + f n) ∷ []) bytes (2 * n + 1) 32 (omega (arith, length_push text (48 + f n))) (omega arith)
        ∙ ap (λ (m : ℕ). ((text ++ (48 + f n) ∷ []) ++ 32 ∷ []) ++ drop m bytes) on
        ∙ ap (λ (l : List ℕ). l ++ drop (2 * (n + 1)) bytes) (sym (ap figures (firsts_more n) ∙ figures_push (firsts n) (f n)))

    pub figures_all : (n k : ℕ) (now : List ℕ) → 0 < n → length bytes ≡ 2 * n → k ≡ n
        → now ≡ figures (firsts k) ++ drop (2 * k) bytes
        → set now (2 * n - 1) 10 ≡ values (firsts n)
    figures_all n k now some whole all before =
        let text = figures (firsts (n - 1)) ++ (48 + f (n - 1)) ∷ [] in
        let back = firsts_back n some in
        ap (λ (l : List ℕ). set l (2 * n - 1) 10) before
        ∙ ap (λ (m : ℕ). set (figures (firsts m) ++ drop (2 * m) bytes) (2 * n - 1) 10) all
        ∙ ap (λ (l : List ℕ). set (figures (firsts n) ++ l) (2 * n - 1) 10) (drop_all (2 * n) bytes (omega arith))
        ∙ ap (λ (l : List ℕ). set l (2 * n - 1) 10) (append-nil (figures (firsts n)) ∙ ap figures back ∙ figures_push (firsts (n - 1)) (f (n - 1)))
        ∙ set_at text 32 [] 10 (2 * n - 1) (omega (arith, length_push (figures (firsts (n - 1))) (48 + f (n - 1)), length_firsts (n - 1)))
        ∙ sym (ap values back ∙ values_push (firsts (n - 1)) (f (n - 1)))
