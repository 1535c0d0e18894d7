-- What the answers of several functions need.
use Rattle.std.proofs.Common.{◌≡◌, ◌↔◌, ℕ, Bool, true, false, leb, List, [], length, Result, Ok, Err, IfOk, OnOk, OnErr}
use Rattle.std.proofs.Common.{refl, sym, ap, subst, ◌∙◌}
use Rattle.std.proofs.Math.Dec.{T}

-- what follows from a clause on one way to return
pub ok_then : {X E : Type 0} (r : Result X E) (P Q : Type 0) → OnOk r P → (P → Q) → OnOk r Q
ok_then (Ok x) P Q h k = k h
ok_then (Err e) P Q h k = tt

pub err_then : {X E : Type 0} (r : Result X E) (P Q : Type 0) → OnErr r P → (P → Q) → OnErr r Q
err_then (Ok x) P Q h k = tt
err_then (Err e) P Q h k = k h

pub if_ok_then : {X E : Type 0} (r : Result X E) (P Q : X → Type 0) → IfOk r P → ((x : X) → P x → Q x) → IfOk r Q
if_ok_then (Ok x) P Q h k = k x h
if_ok_then (Err e) P Q h k = tt

pub either_way : {X E : Type 0} (r : Result X E) (P Q S : Type 0) → OnOk r P → OnErr r Q → (P → S) → (Q → S) → S
either_way (Ok x) P Q S a b f g = f a
either_way (Err e) P Q S a b f g = g b

-- what holds where a refusal is ruled out
pub true_if_ok : {X E : Type 0} (x : X) (e : E) (b : Bool) → (b ≡ false → Ok x ≡ Err e) → b ≡ true
true_if_ok x e true h = refl
true_if_ok x e false h = let k = h refl in cc

pub true_if_many : (b : Bool) (ns : List ℕ) → (b ≡ false → ns ≡ []) → leb 32 (length ns) ≡ true → b ≡ true
true_if_many true ns h long = refl
true_if_many false ns h long = absurd (subst T (sym long ∙ ap (λ xs. leb 32 (length xs)) (h refl)) tt)

-- two statements neither of which holds
pub neither : {P Q : Type 0} → (P → ⊥) → (Q → ⊥) → P ↔ Q
neither p q = ((λ h. absurd (p h)), (λ h. absurd (q h)))

pub not_untrue : (b : Bool) → b ≡ true → b ≡ false → ⊥
not_untrue b is other = absurd (subst T (sym is ∙ other) tt)
