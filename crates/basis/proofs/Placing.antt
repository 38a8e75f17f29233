-- Rows in a slice, one cleared after another, and one put in among the first.
use Rattle.std.proofs.Common.{◌≡◌, ℕ, suc, ◌+◌, ◌-◌, ◌<◌, ◌≤◌, List, [], ◌∷◌, ◌++◌, map, length, get_or, take, drop, set, sym, ap, ◌∙◌, ap₂, arith, take_all, drop-cons, length-append}
use borrow.Rule.Slice.PartMut.{put_mid}
use Rattle.std.specs.List.{insert}
use Rattle.std.proofs.lemmas.List.{map_more, map_push, take_more_set, take-take, take_at, drop_all, set_at, drop-set-lt, drop-drop, get_or-drop, length-take-le, length-drop, append-nil}
use Rattle.std.proofs.lemmas.Slice.{between_is}

-- two lists that agree from a place on agree there
pub same_from : {X : Type 0} (i j : ℕ) (d : X) (xs ys : List X) → i ≤ j → drop i ys ≡ drop i xs → get_or ys j d ≡ get_or xs j d
same_from i j d xs ys h e = let q : i + (j - i) ≡ j = omega arith in
    ap (λ k. get_or ys k d) (sym q) ∙ sym (get_or-drop i ys (j - i) d) ∙ ap (λ zs. get_or zs (j - i) d) e ∙ get_or-drop i xs (j - i) d ∙ ap (λ k. get_or xs k d) q

-- and from every later place on
pub same_later : {X : Type 0} (i j : ℕ) (xs ys : List X) → i ≤ j → drop i ys ≡ drop i xs → drop j ys ≡ drop j xs
same_later i j xs ys h e = let q : i + (j - i) ≡ j = omega arith in
    ap (λ k. drop k ys) (sym q) ∙ sym (drop-drop (j - i) i ys) ∙ ap (drop (j - i)) e ∙ drop-drop (j - i) i xs ∙ ap (λ k. drop k xs) q

-- one element more changed by a rule, where those before it are
pub changed_more : {X Y : Type 0} (f g : X → Y) (xs ys : List X) (i : ℕ) (d y : X) → i < length xs → length ys ≡ length xs →
    map f (take i ys) ≡ map g (take i xs) → drop i ys ≡ drop i xs → f y ≡ g (get_or ys i d) →
    (map f (take (i + 1) (set ys i y)) ≡ map g (take (i + 1) xs)) × (drop (i + 1) (set ys i y) ≡ drop (i + 1) xs)
changed_more f g xs ys i d y h l a b is = (
  ap (map f) (take_more_set ys i y (omega arith)) ∙ map_push f (take i ys) y ∙ ap₂ (λ fs z. fs ++ (z ∷ [])) a (is ∙ ap g (same_from i i d xs ys (omega arith) b)) ∙ sym (map_more g xs i d h),
  drop-set-lt (i + 1) ys i y (omega arith) ∙ same_later i (i + 1) xs ys (omega arith) b,
)

-- the last row turned to a place, and a row written over it
pub put_is : {X : Type 0} (xs turned : List X) (at : ℕ) (x : X) → at < length xs →
    turned ≡ drop (length (take (length xs - at) (drop at xs)) - 1) (take (length xs - at) (drop at xs)) ++ take (length (take (length xs - at) (drop at xs)) - 1) (take (length xs - at) (drop at xs)) →
    set (put_mid at (length xs - at) xs turned) at x ≡ insert (take (length xs - 1) xs) at x
put_is {X} xs turned at x h e =
    ap₂ (λ front back. set (take at xs ++ (front ++ back)) at x) (e ∙ turn) after
    ∙ set_at (take at xs) (get_or (drop at xs) last x) (take last (drop at xs) ++ []) x at (length-take-le at xs (omega arith))
    ∙ ap₂ (λ front back. front ++ (x ∷ back)) (sym (take-take at (length xs - 1) xs (omega arith))) back
  where
    last : ℕ
    last = (length xs - 1) - at

    part : List X
    part = take (length xs - at) (drop at xs)

    part_is : part ≡ drop at xs
    part_is = take_all (length xs - at) (drop at xs) (omega (arith, length-drop at xs))

    size : length part - 1 ≡ last
    size = let a : length part ≡ length (drop at xs) = ap length part_is in omega (arith, a, length-drop at xs)

    one : drop last (drop at xs) ≡ (get_or (drop at xs) last x ∷ [])
    one = drop-cons (drop at xs) last x (omega (arith, length-drop at xs)) ∙ ap (λ ys. get_or (drop at xs) last x ∷ ys) (drop_all (suc last) (drop at xs) (omega (arith, length-drop at xs)))

    turn : drop (length part - 1) part ++ take (length part - 1) part ≡ (get_or (drop at xs) last x ∷ take last (drop at xs))
    turn = ap₂ (λ k ys. drop k ys ++ take k ys) size part_is ∙ ap (λ ys. ys ++ take last (drop at xs)) one

    after : drop (length xs - at) (drop at xs) ≡ []
    after = drop_all (length xs - at) (drop at xs) (omega (arith, length-drop at xs))

    back : take last (drop at xs) ++ [] ≡ drop at (take (length xs - 1) xs)
    back = append-nil (take last (drop at xs)) ∙ between_is xs at (length xs - 1)

-- one put in among the first k of xs, which are now fs: the rows up to it are fs with that one among them
pub was_put : {X : Type 0} (xs fs ws : List X) (k at : ℕ) (x : X) → k < length xs → length fs ≡ k →
    ws ≡ insert (take (length (take (k + 1) (fs ++ drop k xs)) - 1) (take (k + 1) (fs ++ drop k xs))) at x → length ws ≡ length (take (k + 1) (fs ++ drop k xs)) →
    (ws ≡ insert fs at x) × (length ws ≡ k + 1)
was_put xs fs ws k at x h size put same = (
  put ∙ ap (λ zs. insert zs at x)
      (ap (λ n. take n (take (k + 1) (fs ++ drop k xs))) (omega (arith, part_length)) ∙ take-take k (k + 1) (fs ++ drop k xs) (omega arith) ∙ take_at fs (drop k xs) k size),
  same ∙ part_length,
)
  where
    part_length : length (take (k + 1) (fs ++ drop k xs)) ≡ k + 1
    part_length = length-take-le (k + 1) (fs ++ drop k xs) (omega (arith, size, length-append fs (drop k xs), length-drop k xs))
