-- How many parts a new instance has is the same whatever else the store holds; and what there is room for.
use Rattle.std.proofs.Common.{◌≡◌, ℕ, nat_le, Bool, true, false, ◌&&◌, ◌||◌, List, [], ◌∷◌, length, Option, None, Some}
use Rattle.std.proofs.Common.{option_map, refl, sym, ap, ◌∙◌, if◌then◌else◌}
use Rattle.std.specs.Option.{is_some, option_or}
use Rattle.std.proofs.lemmas.Bool.{or_parts}
use Rattle.object_defs.specs.Numbers.{access_control_object}
use Rattle.object_defs.specs.declared.definition.ResourceDef.{ResourceDef}
use Rattle.object_defs.specs.declared.path.InstancePath.{InstancePath}
use Rattle.object_defs.specs.declared.path.ResourcePath.{ResourcePath}
use Rattle.instance_store.specs.Stored.{Stored, instances_of}
use Rattle.lwm2m_payloads.specs.declared.counts.Excess.{Excess}
use Rattle.lwm2m_payloads.specs.declared.given.Assignment.{Assignment}
use Rattle.lwm2m_payloads.specs.declared.given.Given.{Given}
use Rattle.lwm2m_payloads.specs.declared.given.Given.TheVariants.{Single, Parts}
use Rattle.lwm2m_payloads.specs.declared.given.Mode.TheVariants.{Replace}
use Rattle.lwm2m_payloads.specs.Changes.{excess_by, excess_of, first_excess, has_too_many, is_kept, resource_of}
use Rattle.lwm2m_payloads.proofs.Exceeding.{first_more}
use Rattle.device_instances.specs.declared.room.NoRoom.TheVariants as no_room
use Rattle.device_instances.specs.Creations.{full_count, has_no_room, is_full}

-- ---- Replace counts the parts given alone

one_alike : (s t : Stored) (p : ResourcePath) (g : Given) → excess_of Replace s p g ≡ excess_of Replace t p g
one_alike s t p (Single v) = refl
one_alike s t p (Parts parts) = refl

kept_alike : (resources : List ResourceDef) (s t : Stored) (place : InstancePath) (a : Assignment)
    → excess_by Replace resources s place a ≡ excess_by Replace resources t place a
kept_alike resources s t place a =
    let told : ℕ → Excess = λ n. record { resource = a.resource; count = n } in
    ap (λ e. if is_kept resources a then option_map told e else None)
    (one_alike s t (resource_of place a.resource) a.given)

excess_alike : (resources : List ResourceDef) (s t : Stored) (place : InstancePath) (given : List Assignment)
    → first_excess Replace resources s place given ≡ first_excess Replace resources t place given
excess_alike resources s t place [] = refl
excess_alike resources s t place (a ∷ given) =
    first_more Replace resources s place a given
    ∙ ap (λ e. option_or e (first_excess Replace resources s place given)) (kept_alike resources s t place a)
    ∙ ap (λ e. option_or (excess_by Replace resources t place a) e) (excess_alike resources s t place given)
    ∙ sym (first_more Replace resources t place a given)

pub counts_alike : (resources : List ResourceDef) (s t : Stored) (place : InstancePath) (given : List Assignment)
    → has_too_many Replace resources s place given ≡ has_too_many Replace resources t place given
counts_alike resources s t place given = ap is_some (excess_alike resources s t place given)

-- ---- what there is room for

some_or : {A : Type 0} (o p : Option A) → is_some (option_or o p) ≡ (is_some o || is_some p)
some_or None p = refl
some_or (Some a) p = refl

mapped : {A B : Type 0} (f : A → B) (o : Option A) → is_some (option_map f o) ≡ is_some o
mapped f None = refl
mapped f (Some a) = refl

full : {A : Type 0} (f : ℕ → A) (s : Stored) (object : ℕ)
    → is_some (option_map f (full_count s object)) ≡ is_full s object
full f s object =
    elim (is_full s object) as
    (λ b. is_some (option_map f (if b then Some (length (instances_of s object)) else None)) ≡ b)
    [ true ↦ refl | false ↦ refl ]

full_where : {A : Type 0} (f : ℕ → A) (s : Stored) (object : ℕ) (b : Bool)
    → is_some (if b then option_map f (full_count s object) else None) ≡ (b && is_full s object)
full_where f s object true = full f s object
full_where f s object false = refl

pub no_room_for : (s : Stored) (accounts : ℕ) (resources : List ResourceDef) (place : InstancePath)
    (given : List Assignment)
    → has_no_room s accounts resources place given
    ≡ (is_full s place.object || (has_too_many Replace resources s place given
    || (nat_le 2 accounts && is_full s access_control_object)))
no_room_for s accounts resources place given =
    let instances = option_map (λ n. no_room.Instances n) (full_count s place.object) in
    let excess = first_excess Replace resources s place given in
    let parts = option_map (λ (e : Excess). no_room.Parts e.resource e.count) excess in
    let controls = if nat_le 2 accounts then option_map (λ n. no_room.Controls n) (full_count s access_control_object)
    else None in
    some_or instances (option_or parts controls)
    ∙ ap (λ b. b || is_some (option_or parts controls)) (full (λ n. no_room.Instances n) s place.object)
    ∙ ap (λ b. is_full s place.object || b) (some_or parts controls
    ∙ ap (λ b. b || is_some controls) (mapped (λ (e : Excess). no_room.Parts e.resource e.count) excess)
    ∙ ap (λ b. is_some excess || b)
    (full_where (λ n. no_room.Controls n) s access_control_object (nat_le 2 accounts)))

-- neither the object nor, with two accounts or more, Access Control is full, and no resource has too many parts
pub record HasRoom (s : Stored) (accounts : ℕ) (resources : List ResourceDef) (place : InstancePath)
    (given : List Assignment) : Type 0 where
  pub free : is_full s place.object ≡ false
  pub few : has_too_many Replace resources s place given ≡ false
  pub controls : (nat_le 2 accounts && is_full s access_control_object) ≡ false

pub room_for : (s : Stored) (accounts : ℕ) (resources : List ResourceDef) (place : InstancePath)
    (given : List Assignment) → has_no_room s accounts resources place given ≡ false
    → HasRoom s accounts resources place given
room_for s accounts resources place given h =
    let t = or_parts (is_full s place.object) _ (sym (no_room_for s accounts resources place given) ∙ h) in
    let u = or_parts (has_too_many Replace resources s place given) _ t.1 in
    record { free = t.0; few = u.0; controls = u.1 }
