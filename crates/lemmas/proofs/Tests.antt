-- Tests that are made of others. `Rattle.std.proofs.lemmas.Bool` has further ones.
use Rattle.std.proofs.Common.{◌≡◌, Bool, true, false, not, ◌&&◌, ◌||◌, refl, sym, ap}
use Rattle.std.specs.Bool.{if◌then◌else◌}
use Rattle.std.proofs.Math.Dec.{T}

pub T_first : (a b : Bool) → T (a && b) → T a
T_first true b p = tt
T_first false b p = p

pub T_second : (a b : Bool) → T (a && b) → T b
T_second true b p = p
T_second false b p = absurd p

pub T_both : (a b : Bool) → T a → T b → T (a && b)
T_both true b p q = q
T_both false b p q = absurd p

pub true_from_T : (b : Bool) → T b → b ≡ true
true_from_T true p = refl
true_from_T false p = absurd p

pub and_first : (a b : Bool) → (a && b) ≡ true → a ≡ true
and_first true b h = refl
and_first false b h = cc

pub and_second : (a b : Bool) → (a && b) ≡ true → b ≡ true
and_second true b h = h
and_second false b h = cc

pub or_first : (a b : Bool) → (a || b) ≡ false → a ≡ false
or_first true b h = h
or_first false b h = refl

pub or_second : (a b : Bool) → (a || b) ≡ false → b ≡ false
or_second true b h = cc
or_second false b h = h

pub second_if_denied : (a b : Bool) → not (a && b) ≡ false → b ≡ true
second_if_denied true true h = refl
second_if_denied true false h = cc
second_if_denied false b h = cc

pub never_both : (b : Bool) → b ≡ true → b ≡ false → ⊥
never_both b p q = cc

pub negated : (b c : Bool) → c ≡ not b → b ≡ not c
negated true c h = sym (ap not h)
negated false c h = sym (ap not h)

-- whichever of two it is
pub either : {X : Type 0} (P : X → Type 0) (b : Bool) (x y : X) → P x → P y → P (if b then x else y)
either P true x y h k = h
either P false x y h k = k
