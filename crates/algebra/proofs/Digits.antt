-- Facts on single digits of a field: when two are equal, which digit a number stands for, negation, and products with 0.
use Rattle.std.proofs.Common.{◌≡◌, ℕ, sym, ap, ◌∙◌, mod-eq_of_lt}
use native.Mathlib.Fin
use Rattle.algebra.specs.Field.{Field, Digit, value, of}

-- the bound that a digit carries makes no difference
pub same_digit : {q : ℕ} (a b : Digit q) → value a ≡ value b → a ≡ b
same_digit {q} a b e = Fin.val_path {n = q} {i = a} {j = b} e

pub of_value : (F : Field) (a : Digit F.size) → of F (value a) ≡ a
of_value F a = same_digit _ _ (mod-eq_of_lt a.1)

pub of_nil : (F : Field) → of F 0 ≡ F.nil
of_nil F = ap (of F) (sym F.nil_value) ∙ of_value F F.nil

pub of_one : (F : Field) → of F 1 ≡ F.one
of_one F = ap (of F) (sym F.one_value) ∙ of_value F F.one

pub neg_nil : (F : Field) → F.neg F.nil ≡ F.nil
neg_nil F = sym (F.nil-add (F.neg F.nil)) ∙ F.add_comm F.nil (F.neg F.nil) ∙ F.neg-add F.nil

pub neg_neg : (F : Field) (a : Digit F.size) → F.neg (F.neg a) ≡ a
neg_neg F a =
    let b : Digit F.size = F.neg a in
    let c : Digit F.size = F.neg b in
    sym (F.nil-add c)
    ∙ F.add_comm F.nil c
    ∙ ap (F.add c) (sym (F.neg-add a))
    ∙ sym (F.add_assoc c b a)
    ∙ ap (λ x. F.add x a) (F.neg-add b)
    ∙ F.nil-add a

-- a product with 0, added to itself, is itself again
pub mul_nil : (F : Field) (a : Digit F.size) → F.mul a F.nil ≡ F.nil
mul_nil F a =
    let m : Digit F.size = F.mul a F.nil in
    sym (F.nil-add m)
    ∙ ap (λ x. F.add x m) (sym (F.neg-add m))
    ∙ F.add_assoc (F.neg m) m m
    ∙ ap (F.add (F.neg m)) (sym (F.mul-add a F.nil F.nil) ∙ ap (F.mul a) (F.nil-add F.nil))
    ∙ F.neg-add m
