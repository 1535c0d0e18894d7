-- Classes that are the same, and lists of them.
use Rattle.std.proofs.Common.{ℕ, ◌≡◌, ◌↔◌, ◌+◌, ◌≤◌, IsTrue, Bool, List, [], ◌∷◌, ◌++◌, Ok, Result, Some, length, take, slice_get, sym, ap}
use Rattle.std.proofs.Common.{◌∙◌, arith}
use Rattle.std.proofs.lemmas.List.{take_all}
use Rattle.lemmas.proofs.Lists.{take_one_more}
use Rattle.byte_layout.specs.Exact.{IsExact}
use Rattle.device_template.specs.Template.{Template}
use Rattle.scenario_layout.specs.Class.{class}

first_same : {A B E : Type 0} (a b : A) (x y : B) (r : Result (A × B) E) → r ≡ Ok (a, x) → r ≡ Ok (b, y) → a ≡ b
first_same {A} {B} {E} a b x y r f g =
    let pair : (a, x) ≡ (b, y) = cc in ap (λ (p : A × B). p.0) pair

-- classes with the same bytes
same_spelled : (a b : Template) → IsExact (class 2) → (class 2).Good a → (class 2).Good b
    → (class 2).spell a ≡ (class 2).spell b → a ≡ b
same_spelled a b exact left right same =
    first_same a b [] [] ((class 2).read ((class 2).spell a ++ [])) (exact.again a [] left)
    (ap (λ s. (class 2).read (s ++ [])) same ∙ exact.again b [] right)

pub decided : (a b : Template) (left right : List ℕ) (r : Bool) → IsExact (class 2) → (class 2).Good a
    → (class 2).Good b → left ≡ (class 2).spell a → right ≡ (class 2).spell b → (IsTrue r ↔ (left ≡ right))
    → IsTrue r ↔ (a ≡ b)
decided a b left right r exact good fine first second is = (
  λ t. same_spelled a b exact good fine (sym first ∙ is.0 t ∙ second),
  λ e. is.1 (first ∙ ap (class 2).spell e ∙ sym second),
)

-- one class more of each
pub one_more : (xs ys : List Template) (i : ℕ) (x y : Template) → take i xs ≡ take i ys → slice_get xs i ≡ Some x
    → slice_get ys i ≡ Some y → x ≡ y → take (i + 1) xs ≡ take (i + 1) ys
one_more xs ys i x y so_far first second same =
    take_one_more xs i x first ∙ ap (λ l. l ++ x ∷ []) so_far ∙ ap (λ z. take i ys ++ z ∷ []) same
    ∙ sym (take_one_more ys i y second)

-- all were the same
pub all_same : (xs ys : List Template) (i : ℕ) → take i xs ≡ take i ys → length xs ≡ length ys → length xs ≤ i → xs ≡ ys
all_same xs ys i so_far long end =
    sym (take_all i xs end) ∙ so_far ∙ take_all i ys (omega (arith, long, end))

-- two were not
pub unlike : (xs ys : List Template) (i : ℕ) (x y : Template) → slice_get xs i ≡ Some x → slice_get ys i ≡ Some y
    → (x ≡ y → ⊥) → xs ≡ ys → ⊥
unlike xs ys i x y first second other same =
    let both : Some x ≡ Some y = sym first ∙ ap (λ l. slice_get l i) same ∙ second in
    other cc
