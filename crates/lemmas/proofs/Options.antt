-- What is known of an `Option` by a test of it, or by what was made of it.
use Rattle.std.proofs.Common.{◌≡◌, Bool, true, false, not, cond, Option, None, Some, Result, Ok, Err, refl}
use Rattle.std.specs.Option.{is_some, option_map, option_and_then, IfNone}

pub none_from_test : {X : Type 0} (s : Option X) → is_some s ≡ false → s ≡ None
none_from_test None h = refl
none_from_test (Some x) h = cc

pub some_from_test : {X : Type 0} (o : Option X) → is_some o ≡ true → (x : X) × (o ≡ Some x)
some_from_test None h = cc
some_from_test (Some x) h = (x, refl)

pub some_if_denied : {X : Type 0} (o : Option X) → not (is_some o) ≡ false → (x : X) × (o ≡ Some x)
some_if_denied None h = cc
some_if_denied (Some x) h = (x, refl)

pub option_map_parts : {X Y : Type 0} (f : X → Y) (o : Option X) (y : Y) → option_map f o ≡ Some y
    → (x : X) × (o ≡ Some x) × (f x ≡ y)
option_map_parts f None b h = cc
option_map_parts f (Some a) b h = (a, refl, cc)

pub option_and_then_parts : {A B : Type 0} (f : A → Option B) (o : Option A) (y : B) → option_and_then f o ≡ Some y
    → (x : A) × (o ≡ Some x) × (f x ≡ Some y)
option_and_then_parts f (Some x) y e = (x, refl, e)
option_and_then_parts f None y e = cc e

pub option_map_none : {X Y : Type 0} (f : X → Y) (o : Option X) → option_map f o ≡ None → o ≡ None
option_map_none f None h = refl
option_map_none f (Some x) h = cc

pub no_choice : {X : Type 0} (b : Bool) (x : X) → cond b (Some x) None ≡ None → b ≡ false
no_choice true x h = cc
no_choice false x h = refl

pub if_none : {X : Type 0} (o : Option X) (P : Type 0) → P → IfNone o P
if_none None P p = p
if_none (Some x) P p = tt

-- what answers Ok was not refused
pub not_refused : {X Y : Type 0} (refusal : Option Y) (r : Result X Y) (x : X) → r ≡ Ok x
    → ((f : Y) → refusal ≡ Some f → r ≡ Err f) → refusal ≡ None
not_refused None r x ok refuses = refl
not_refused (Some f) r x ok refuses = let e : r ≡ Err f = refuses f refl in cc
