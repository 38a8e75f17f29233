-- Any field's digits as a ring: the rules by which `simp ring` proves an identity of sums and products.
use Rattle.std.proofs.Common.{◌≡◌, ℕ, ◌≢◌, sym, ap, ◌∙◌, ap₂, arith}
use Rattle.algebra.specs.Field.{Field, Digit, value}
use Rattle.algebra.proofs.Digits.{neg_nil, neg_neg}

pub one_is_not_nil : (F : Field) → F.one ≢ F.nil
one_is_not_nil F e = let z : ◌≡◌ {A = ℕ} 1 0 = sym F.one_value ∙ ap value e ∙ F.nil_value in omega arith

module _ (F : Field) where
  open F use {nil, one, add, mul, neg, inv, add_assoc, add_comm, nil-add, neg-add, mul_assoc, mul_comm, one-mul, mul-add, inv-mul}

  -- the field's own laws, under names that a set of rules can hold
  pub assoc : (a b c : Digit F.size) → add (add a b) c ≡ add a (add b c)
  assoc = add_assoc

  pub comm : (a b : Digit F.size) → add a b ≡ add b a
  comm = add_comm

  pub nil_plus : (a : Digit F.size) → add nil a ≡ a
  nil_plus = nil-add

  pub neg_plus : (a : Digit F.size) → add (neg a) a ≡ nil
  neg_plus = neg-add

  pub times_assoc : (a b c : Digit F.size) → mul (mul a b) c ≡ mul a (mul b c)
  times_assoc = mul_assoc

  pub times_comm : (a b : Digit F.size) → mul a b ≡ mul b a
  times_comm = mul_comm

  pub one_times : (a : Digit F.size) → mul one a ≡ a
  one_times = one-mul

  pub times_plus : (a b c : Digit F.size) → mul a (add b c) ≡ add (mul a b) (mul a c)
  times_plus = mul-add

  -- sums
  pub left_comm : (a b c : Digit F.size) → add a (add b c) ≡ add b (add a c)
  left_comm a b c = sym (add_assoc a b c) ∙ ap (λ x. add x c) (add_comm a b) ∙ add_assoc b a c

  pub plus_nil : (a : Digit F.size) → add a nil ≡ a
  plus_nil a = add_comm a nil ∙ nil-add a

  pub plus_neg : (a : Digit F.size) → add a (neg a) ≡ nil
  plus_neg a = add_comm a (neg a) ∙ neg-add a

  pub plus_neg_left : (a b : Digit F.size) → add a (add (neg a) b) ≡ b
  plus_neg_left a b = sym (add_assoc a (neg a) b) ∙ ap (λ x. add x b) (plus_neg a) ∙ nil-add b

  pub neg_plus_left : (a b : Digit F.size) → add (neg a) (add a b) ≡ b
  neg_plus_left a b = sym (add_assoc (neg a) a b) ∙ ap (λ x. add x b) (neg-add a) ∙ nil-add b

  -- a digit and its negation cancel across another
  pub plus_neg_over : (a b : Digit F.size) → add a (add b (neg a)) ≡ b
  plus_neg_over a b = ap (add a) (add_comm b (neg a)) ∙ plus_neg_left a b

  pub plus_neg_over_left : (a b c : Digit F.size) → add a (add b (add (neg a) c)) ≡ add b c
  plus_neg_over_left a b c = ap (add a) (left_comm b (neg a) c) ∙ plus_neg_left a (add b c)

  pub cancel : (a b c : Digit F.size) → add a b ≡ add a c → b ≡ c
  cancel a b c e = sym (neg_plus_left a b) ∙ ap (add (neg a)) e ∙ neg_plus_left a c

  pub neg_only : (a b : Digit F.size) → add a b ≡ nil → b ≡ neg a
  neg_only a b e = cancel a b (neg a) (e ∙ sym (plus_neg a))

  pub neg_over : (a b : Digit F.size) → neg (add a b) ≡ add (neg a) (neg b)
  neg_over a b = sym (neg_only (add a b) (add (neg a) (neg b)) (simp (assoc, left_comm b (neg a) (neg b), plus_neg_left, plus_neg)))

  -- products
  pub times_left_comm : (a b c : Digit F.size) → mul a (mul b c) ≡ mul b (mul a c)
  times_left_comm a b c = sym (mul_assoc a b c) ∙ ap (λ x. mul x c) (mul_comm a b) ∙ mul_assoc b a c

  pub times_one : (a : Digit F.size) → mul a one ≡ a
  times_one a = mul_comm a one ∙ one-mul a

  pub plus_times : (a b c : Digit F.size) → mul (add a b) c ≡ add (mul a c) (mul b c)
  plus_times a b c = mul_comm (add a b) c ∙ mul-add c a b ∙ ap₂ add (mul_comm c a) (mul_comm c b)

  pub times_nil : (a : Digit F.size) → mul a nil ≡ nil
  times_nil a = cancel (mul a nil) (mul a nil) nil (sym (mul-add a nil nil) ∙ ap (mul a) (nil-add nil) ∙ sym (plus_nil (mul a nil)))

  pub nil_times : (a : Digit F.size) → mul nil a ≡ nil
  nil_times a = mul_comm nil a ∙ times_nil a

  pub times_neg : (a b : Digit F.size) → mul a (neg b) ≡ neg (mul a b)
  times_neg a b = neg_only (mul a b) (mul a (neg b)) (sym (mul-add a b (neg b)) ∙ ap (mul a) (plus_neg b) ∙ times_nil a)

  pub neg_times : (a b : Digit F.size) → mul (neg a) b ≡ neg (mul a b)
  neg_times a b = mul_comm (neg a) b ∙ times_neg b a ∙ ap neg (mul_comm b a)

  pub neg_one_times : (a : Digit F.size) → mul (neg one) a ≡ neg a
  neg_one_times a = neg_times one a ∙ ap neg (one-mul a)

  pub ruleset ring = (assoc, nil_plus, plus_nil, neg_plus, plus_neg, plus_neg_left, neg_plus_left, plus_neg_over, plus_neg_over_left, neg_neg, neg_nil, neg_over, times_assoc, times_one, one_times, times_plus, plus_times, times_nil, nil_times, times_neg, neg_times, comm, left_comm, times_comm, times_left_comm)

  -- two digits whose difference is 0
  pub difference_nil : (a b : Digit F.size) → add a (neg b) ≡ nil → a ≡ b
  difference_nil a b e = sym (neg_neg F a) ∙ sym (ap neg (neg_only a (neg b) e)) ∙ neg_neg F b

  -- what an inverse is for
  pub inverse_undone : (a b : Digit F.size) → a ≢ nil → mul a (mul (inv a) b) ≡ b
  inverse_undone a b h = sym (mul_assoc a (inv a) b) ∙ ap (λ x. mul x b) (mul_comm a (inv a) ∙ inv-mul a h) ∙ one-mul b
