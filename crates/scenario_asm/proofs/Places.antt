-- What is written of a list up to a place, and what is still to come.
use Rattle.std.proofs.Common.{◌≡◌, ℕ, zero, suc, ◌<◌, List, [], ◌∷◌, ◌++◌, take, drop, length, None, Some, sym, ap}
use Rattle.std.proofs.Common.{subst, ◌∙◌, append_assoc, arith}
use Rattle.std.specs.Prelude.{slice_get}
use Rattle.std.specs.List.{AllByRecursion, flat_map}
use Rattle.std.proofs.lemmas.Grind.{flat_map-append}
use Rattle.lemmas.proofs.Lists.{drop_opens}
use Rattle.scenario_statements.specs.declared.statement.Statement.{Statement}
use Rattle.scenario_asm.specs.Canonical.{printed_line, printed_lines}

-- there is something at each place of a list
pub none_at : {A : Type 0} (xs : List A) (i : ℕ) → i < length xs → slice_get xs i ≡ None → ⊥
none_at [] i h e = omega (arith, h)
none_at (y ∷ ys) zero h e = let f : Some y ≡ None = e in cc
none_at (y ∷ ys) (suc i) h e = none_at ys i (omega (arith, h)) e

-- what is to come, with what is written of the next
pub printed_next : {A : Type 0} (f : A → List Statement) (xs : List A) (i next : ℕ) (x : A)
    (before after start whole : List ℕ) → next ≡ suc i → slice_get xs i ≡ Some x → after ≡ before ++ printed_lines (f x)
    → before ++ printed_lines (flat_map f (drop i xs)) ≡ start ++ whole
    → after ++ printed_lines (flat_map f (drop next xs)) ≡ start ++ whole
printed_next f xs i next x before after start whole step at more so_far =
    ap (λ n. after ++ printed_lines (flat_map f (drop n xs))) step
    ∙ ap (λ t. t ++ printed_lines (flat_map f (drop (suc i) xs))) more
    ∙ append_assoc before (printed_lines (f x)) (printed_lines (flat_map f (drop (suc i) xs)))
    ∙ ap (λ t. before ++ t) (sym (flat_map-append printed_line (f x) (flat_map f (drop (suc i) xs))))
    ∙ ap (λ t. before ++ printed_lines (flat_map f t)) (sym (drop_opens xs i x at))
    ∙ so_far

each_more : {A : Type 0} (P : A → Type 0) (xs : List A) (i : ℕ) (x : A) → slice_get xs i ≡ Some x → P x
    → AllByRecursion P (take i xs) → AllByRecursion P (take (suc i) xs)
each_more P [] i x at h each = let e : None ≡ Some x = at in absurd cc
each_more P (y ∷ ys) zero x at h each = (subst P (let e : Some x ≡ Some y = sym at in cc) h, tt)
each_more P (y ∷ ys) (suc i) x at h each = (each.0, each_more P ys i x at h each.1)

-- what holds of each before a place and of the one at it holds of each up to the next place
pub each_next : {A : Type 0} (P : A → Type 0) (xs : List A) (i next : ℕ) (x : A) → next ≡ suc i
    → slice_get xs i ≡ Some x → P x → AllByRecursion P (take i xs) → AllByRecursion P (take next xs)
each_next P xs i next x step at h each =
    subst (λ n. AllByRecursion P (take n xs)) (sym step) (each_more P xs i x at h each)
