-- Too many parts are those that are more than 32, and the first excess is found from the front.
use Rattle.std.proofs.Common.{◌≡◌, ℕ, ◌-◌, ◌^◌, min, Bool, true, false, ◌&&◌, ◌||◌, List, [], ◌∷◌, nat_lt, cond}
use Rattle.std.proofs.Common.{Option, None, Some, option_map, option_and_then, refl, ap, ◌∙◌, if◌then◌else◌}
use Rattle.std.specs.Option.{is_some, option_or}
use Rattle.std.specs.List.{find, list_any}
use Rattle.object_defs.specs.declared.definition.ResourceDef.{ResourceDef}
use Rattle.object_defs.specs.declared.path.InstancePath.{InstancePath}
use Rattle.instance_store.specs.Stored.{Stored}
use Rattle.lwm2m_payloads.specs.declared.counts.Excess.{Excess}
use Rattle.lwm2m_payloads.specs.declared.given.Assignment.{Assignment}
use Rattle.lwm2m_payloads.specs.declared.given.Mode.{Mode}
use Rattle.lwm2m_payloads.specs.Changes.{above_limit, excess_by, excess_of, first_excess, has_too_many, is_kept}
use Rattle.lwm2m_payloads.specs.Changes.{is_too_many, resource_of}

pub too_many : (n : ℕ) → is_some (above_limit n) ≡ nat_lt 32 n
too_many n =
    elim (nat_lt 32 n) as (λ b. is_some (if b then Some (min n (2 ^ 64 - 1)) else None) ≡ b)
    [ true ↦ refl | false ↦ refl ]

mapped : {A B : Type 0} (f : A → B) (o : Option A) → is_some (option_map f o) ≡ is_some o
mapped f None = refl
mapped f (Some a) = refl

found_at : {A B : Type 0} (f : A → Option B) (x : A) (xs : List A) (o : Option B) → f x ≡ o
    → option_and_then f (cond (is_some o) (Some x) (find (λ a. is_some (f a)) xs))
    ≡ option_or o (option_and_then f (find (λ a. is_some (f a)) xs))
found_at f x xs None e = refl
found_at f x xs (Some y) e = e

pub found : {A B : Type 0} (f : A → Option B) (x : A) (xs : List A)
    → option_and_then f (find (λ a. is_some (f a)) (x ∷ xs))
    ≡ option_or (f x) (option_and_then f (find (λ a. is_some (f a)) xs))
found f x xs = found_at f x xs (f x) refl

some_or : {A : Type 0} (o p : Option A) → is_some (option_or o p) ≡ (is_some o || is_some p)
some_or None p = refl
some_or (Some a) p = refl

any_found : {A B : Type 0} (f : A → Option B) (xs : List A)
    → is_some (option_and_then f (find (λ a. is_some (f a)) xs)) ≡ list_any (λ a. is_some (f a)) xs
any_found f [] = refl
any_found f (x ∷ xs) =
    ap is_some (found f x xs) ∙ some_or (f x) (option_and_then f (find (λ a. is_some (f a)) xs))
    ∙ ap (λ b. is_some (f x) || b) (any_found f xs)

pub first_more : (mode : Mode) (resources : List ResourceDef) (stored : Stored) (place : InstancePath) (a : Assignment)
    (given : List Assignment)
    → first_excess mode resources stored place (a ∷ given)
    ≡ option_or (excess_by mode resources stored place a) (first_excess mode resources stored place given)
first_more mode resources stored place a given = found (excess_by mode resources stored place) a given

pub one_exceeds : (mode : Mode) (resources : List ResourceDef) (stored : Stored) (place : InstancePath) (a : Assignment)
    → is_some (excess_by mode resources stored place a)
    ≡ (is_kept resources a && is_too_many mode stored (resource_of place a.resource) a.given)
one_exceeds mode resources stored place a =
    let e = excess_of mode stored (resource_of place a.resource) a.given in
    let told : ℕ → Excess = λ n. record { resource = a.resource; count = n } in
    elim (is_kept resources a) as (λ k. is_some (if k then option_map told e else None) ≡ (k && is_some e))
    [ true ↦ mapped told e | false ↦ refl ]

pub some_exceeds : (mode : Mode) (resources : List ResourceDef) (stored : Stored) (place : InstancePath)
    (given : List Assignment)
    → has_too_many mode resources stored place given
    ≡ list_any (λ a. is_some (excess_by mode resources stored place a)) given
some_exceeds mode resources stored place given = any_found (excess_by mode resources stored place) given

each_same : {A : Type 0} (f g : A → Bool) → ((a : A) → f a ≡ g a) → (xs : List A) → list_any f xs ≡ list_any g xs
each_same f g h [] = refl
each_same f g h (x ∷ xs) = ap (λ b. b || list_any f xs) (h x) ∙ ap (λ b. g x || b) (each_same f g h xs)

-- a Write has too many parts where some resource that is kept has
pub any_exceeds : (mode : Mode) (resources : List ResourceDef) (stored : Stored) (place : InstancePath)
    (given : List Assignment)
    → has_too_many mode resources stored place given
    ≡ list_any (λ a. is_kept resources a && is_too_many mode stored (resource_of place a.resource) a.given) given
any_exceeds mode resources stored place given =
    some_exceeds mode resources stored place given
    ∙ each_same _ _ (one_exceeds mode resources stored place) given
