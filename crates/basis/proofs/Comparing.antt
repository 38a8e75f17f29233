-- Equal check digits against the dual, equal remainders and one coset are the same thing.
use Rattle.std.proofs.Common.{◌≡◌, ℕ, ◌<◌, ◌≤◌, Bool, true, ◌↔◌, List, [], ◌∷◌, map, length, take, drop, Ok, Err, Decides, fold, Result, sym, refl, ap, ◌∙◌, subst, ap₂, subst₂, arith, MatchResult}
use mathlib.Core.Path.{fun_ext}
use native.Mathlib.Decide.{dec_lt}
use Rattle.std.proofs.lemmas.List.{length-take-le}
use Rattle.algebra.specs.Field.{Digit, value}
use Rattle.algebra.specs.Vector.{Vector, Long, dot}
use Rattle.algebra.specs.Space.{Each, less, Comb}
use Rattle.algebra.specs.NormalForm.{Row, vectors, NormalForm, row_in}
use Rattle.algebra.specs.Dual.{DualForm}
use Rattle.algebra.proofs.Digits.{same_digit}
use Rattle.algebra.proofs.Joined.{joined_fewer}
use Rattle.algebra.proofs.Ring.{ring, difference_nil, plus_nil}
use Rattle.algebra.proofs.Each.{each_map, each_map₂, each_of_map, each_from_map}
use Rattle.algebra.proofs.Combinations.{comb_plus, comb_less}
use Rattle.algebra.proofs.Remainders.{clear_comb}
use Rattle.algebra.proofs.Duals.{dot_comm}
use Rattle.algebra.proofs.DualForms.{same_syndromes}
use Rattle.algebra.proofs.Steps.{map_map}
use Rattle.coding.specs.declared.vectors.Coding.{Ghosts as Coding}
use Rattle.coding.specs.Lengths.{InRange}
use Rattle.coding.specs.declared.refusals.Refusal.{Refusal}
use Rattle.basis.specs.Answers.{Remains, WroteDual, check_digits_of}
use Rattle.basis.specs.Form.{Rows, meant_rows}
use Rattle.basis.specs.Runs.{Comparison, Cosets}
use Rattle.basis.specs.Stands.{Stands, Kept}
use Rattle.basis.specs.Calls.{after_call, accepted}
use Rattle.basis.specs.declared.bases.Basis.{Basis}
use Rattle.basis.specs.declared.calls.Call.{Call}
use Rattle.basis.specs.declared.runs.Compared.{Compared}
use Rattle.basis.proofs.Running.{Made, is_made, ran}

-- two images of a list are equal where each element's are
images_each : {X Y : Type 0} (f g : X → Y) (xs : List X) → map f xs ≡ map g xs → Each (λ x. f x ≡ g x) xs
images_each f g [] e = tt
images_each f g (x ∷ xs) e = (cc e, images_each f g xs (cc e))

each_images : {X Y : Type 0} (f g : X → Y) (xs : List X) → Each (λ x. f x ≡ g x) xs → map f xs ≡ map g xs
each_images f g [] e = refl
each_images f g (x ∷ xs) (e, es) = ap₂ ◌∷◌ e (each_images f g xs es)

module _ {X : Type 0} (C : Coding X) (n : ℕ) (fits : n ≤ C.width) (rs : List (Row C.field)) (vs : List (Vector C.field)) (form : NormalForm C.field n rs vs) (u v : Vector C.field) (lu : Long C.field n u) (lv : Long C.field n v) where
  -- a dot product with a vector of length n is that over the places below n
  dot_is : (t : Vector C.field) → Long C.field n t → (o : Vector C.field) → dot C.field C.width o t ≡ dot C.field n t o
  dot_is t l o = joined_fewer C.field.add C.field.nil C.field.nil (plus_nil C.field) n C.width fits _ (λ k h. ap (C.field.mul (o k)) (l k h) ∙ simp ring) ∙ dot_comm C.field n o t

  -- equal check digits: the difference is a combination
  pub checks_coset : (xs : List X) → DualForm C.field n (meant_rows C xs) vs → (check_digits_of C xs u ≡ check_digits_of C xs v) ↔ Comb C.field vs (less C.field u v)
  checks_coset xs dual = (
    (λ e. (same_syndromes C.field n rs vs form (meant_rows C xs) dual u v lu lv).0
        (subst (Each (λ o. dot C.field n u o ≡ dot C.field n v o)) (sym rows) (each_of_map (λ o. dot C.field n u o ≡ dot C.field n v o) C.meant xs
        (each_map _ _ xs (λ x q. sym (dot_is u lu (C.meant x)) ∙ same_digit _ _ q ∙ dot_is v lv (C.meant x)) (images_each _ _ xs e))))),
    (λ k. each_images _ _ xs (each_map _ _ xs (λ x q. ap value (dot_is u lu (C.meant x) ∙ q ∙ sym (dot_is v lv (C.meant x))))
        (each_from_map (λ o. dot C.field n u o ≡ dot C.field n v o) C.meant xs (subst (Each (λ o. dot C.field n u o ≡ dot C.field n v o)) rows ((same_syndromes C.field n rs vs form (meant_rows C xs) dual u v lu lv).1 k))))),
  )
    where
      rows : vectors C.field (meant_rows C xs) ≡ map C.meant xs
      rows = map_map (λ (r : Row C.field). r.at) (λ x. row_in C.field C.width (C.meant x)) xs

  module _ (left right : Vector C.field) (a : Remains C.field n rs vs u left) (b : Remains C.field n rs vs v right) where
    -- equal remainders: the difference is a combination
    pub remainders_coset : ((k : ℕ) → left k ≡ right k) ↔ Comb C.field vs (less C.field u v)
    remainders_coset = (
      (λ e. subst (Comb C.field vs) (fun_ext λ k. ap (λ x. C.field.add (C.field.add (u k) (C.field.neg x)) (C.field.neg (C.field.add (v k) (C.field.neg (right k))))) (e k) ∙ across (u k) (v k) (right k)) (comb_less C.field vs _ _ a.differs b.differs)),
      (λ c k. difference_nil C.field _ _ (ap (λ f. f k) (clear_comb C.field rs form.normal.0 (less C.field left right)
          (each_map₂ _ _ _ rs (λ r x y. ap₂ (λ p q. C.field.add p (C.field.neg q)) x y ∙ simp ring) a.clear b.clear)
          ((form.span _).1 (subst (Comb C.field vs) (fun_ext λ k. around (u k) (v k) (left k) (right k)) (comb_plus C.field vs _ _ (comb_less C.field vs _ _ c a.differs) b.differs)))))),
    )
      where
        across : (x y z : Digit C.field.size) → C.field.add (C.field.add x (C.field.neg z)) (C.field.neg (C.field.add y (C.field.neg z))) ≡ C.field.add x (C.field.neg y)
        across x y z = simp ring

        around : (x y p q : Digit C.field.size) → C.field.add (C.field.add (C.field.add x (C.field.neg y)) (C.field.neg (C.field.add x (C.field.neg p)))) (C.field.add y (C.field.neg q)) ≡ C.field.add p (C.field.neg q)
        around x y p q = simp ring

    -- remainders that are equal below n are equal
    pub below_all : ((k : ℕ) → k < n → value (left k) ≡ value (right k)) → (k : ℕ) → left k ≡ right k
    below_all h k = elim (dec_lt k n) [ yes l ↦ same_digit _ _ (h k l) | no l ↦ a.long k (omega arith) ∙ sym (b.long k (omega arith)) ]

-- two tests of one fact agree
pub tests_agree : (a b : Bool) (P Q R : Type 0) → Decides a P → Decides b Q → P ↔ R → Q ↔ R → (a ≡ true) ↔ (b ≡ true)
tests_agree a b P Q R p q pr qr = ((λ e. q.1 (qr.1 (pr.0 (p.0 e)))), (λ e. p.1 (pr.1 (qr.0 (q.0 e)))))

-- all of it together, by what the calls answered
module _ {X : Type 0} (C : Coding X) (n rank : ℕ) (rows : List X) (vs : List (Vector C.field)) (given : Rows C n rank rows vs) (u v : Vector C.field) (lu : Long C.field n u) (lv : Long C.field n v)
    (old_scratch scratch : List X) (count : ℕ) (dual : WroteDual C n rank vs old_scratch scratch count) (old_first first old_second second : List ℕ) where
  abbrev Digits : Vector C.field → List ℕ → List ℕ → Type 0
  Digits t old new = (take (length (take count scratch)) new ≡ check_digits_of C (take count scratch) t) × (drop (length (take count scratch)) new ≡ drop (length (take count scratch)) old)

  size : length (take count scratch) ≡ count
  size = length-take-le count scratch dual.room

  pub compared : Digits u old_first first → Digits v old_second second → (checks : Bool) → Decides checks (take count first ≡ take count second) →
      (left right : Vector C.field) → Remains C.field n (meant_rows C (take rank rows)) vs u left → Remains C.field n (meant_rows C (take rank rows)) vs v right →
      (remainders : Bool) → Decides remainders ((k : ℕ) → k < n → value (left k) ≡ value (right k)) →
      Comparison C n rank rows vs u v old_scratch scratch old_first first old_second second (record { check_digits = checks; remainders = remainders })
  compared a b checks c left right l r remainders d = record {
    count = count;
    dual = dual;
    first_checked = record { digits = a.0; rest = a.1 };
    second_checked = record { digits = b.0; rest = b.1 };
    checks = digits;
    left = left;
    left_remains = l;
    right = right;
    right_remains = r;
    remainders = whole;
    agree = tests_agree checks remainders _ _ (Comb C.field vs (less C.field u v)) digits whole by_checks by_remainders;
    coset = ((λ e. by_remainders.0 (whole.0 e)), (λ k. whole.1 (by_remainders.1 k)));
  }
    where
      digits : Decides checks (check_digits_of C (take count scratch) u ≡ check_digits_of C (take count scratch) v)
      digits = subst₂ (λ p q. Decides checks (p ≡ q)) (ap (λ k. take k first) (sym size) ∙ a.0) (ap (λ k. take k second) (sym size) ∙ b.0) c

      whole : Decides remainders ((k : ℕ) → left k ≡ right k)
      whole = (
        (λ e. below_all C n given.form.fits (meant_rows C (take rank rows)) vs given.form.normal u v lu lv left right l r (d.0 e)),
        (λ h. d.1 (λ k _. ap value (h k))),
      )

      by_checks : (check_digits_of C (take count scratch) u ≡ check_digits_of C (take count scratch) v) ↔ Comb C.field vs (less C.field u v)
      by_checks = checks_coset C n given.form.fits (meant_rows C (take rank rows)) vs given.form.normal u v lu lv (take count scratch) dual.form

      by_remainders : ((k : ℕ) → left k ≡ right k) ↔ Comb C.field vs (less C.field u v)
      by_remainders = remainders_coset C n given.form.fits (meant_rows C (take rank rows)) vs given.form.normal u v lu lv left right l r

-- n bytes are enough for the check digits against a dual
pub never_short : {X : Type 0} (C : Coding X) (m n rank : ℕ) (vs : List (Vector C.field)) (old new : List X) (count : ℕ) (dual : List X) (bytes : ℕ) → m ≡ n →
    WroteDual C m rank vs old new count → dual ≡ take count new → n ≤ bytes → bytes < length dual → ⊥
never_short C m n rank vs old new count dual bytes is h e room short = omega (arith, h.number, ap length e, length-take-le count new h.room)

-- a run, and the comparison after it, which is not refused
module _ {X : Type 0} (C : Coding X) (n : ℕ) (rows : List X) (start : Basis X) (range : InRange C.width n) (room : n ≤ length rows) where
  pub cosets : (end : Basis X) (calls : List (Call X)) (u v : Vector C.field) (old_scratch middle scratch : List X) (old_first first old_second second : List ℕ) (r : Result Compared Refusal) →
      Made C n rows start range room → drop n start.rows.now ≡ drop n rows →
      ((vs : List (Vector C.field)) → Stands C start vs → Stands C end (fold (after_call C start.sizes.length) vs calls) × (drop start.sizes.length middle ≡ drop start.sizes.length old_scratch)) →
      Kept start end →
      ((vs : List (Vector C.field)) → Stands C end vs → end.sizes.length ≡ n → MatchResult r (Comparison C n end.sizes.rank end.rows.now vs u v middle scratch old_first first old_second second) (λ _. ⊥)) →
      (answer : Compared) × (r ≡ Ok answer) × Cosets C n calls u v rows end.rows.now old_scratch scratch old_first first old_second second answer
  cosets end calls u v old_scratch middle scratch old_first first old_second second r made beyond stands kept compare = which r refl (compare (accepted C n calls) now_stands (kept.long ∙ m.1))
    where
      m : Stands C start [] × (start.sizes.length ≡ n)
      m = is_made C n rows start range room made

      now_stands : Stands C end (accepted C n calls)
      now_stands = subst (λ k. Stands C end (accepted C k calls)) m.1 (stands [] m.0).0

      which : (t : Result Compared Refusal) → r ≡ t → MatchResult t (Comparison C n end.sizes.rank end.rows.now (accepted C n calls) u v middle scratch old_first first old_second second) (λ _. ⊥) →
          (answer : Compared) × (r ≡ Ok answer) × Cosets C n calls u v rows end.rows.now old_scratch scratch old_first first old_second second answer
      which (Ok answer) e c = (answer, e, record { middle = middle; run = ran C n rows start range room end calls old_scratch middle made beyond stands kept; compared = c })
      which (Err refusal) e c = absurd c
