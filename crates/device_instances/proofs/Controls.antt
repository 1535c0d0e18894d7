-- The instance of object 2 that a Create adds.
use Rattle.std.proofs.Common.{◌≡◌, ◌≢◌, ℕ, Bool, true, false, cond, nat_le, eqb, length, Option, None, Some, pos}
use Rattle.std.proofs.Common.{◌&&◌, refl, sym, ap, ◌∙◌, ◌⊎◌, inl, inr}
use Rattle.std.specs.Option.{is_some}
use Rattle.std.specs.Ordering.{eq_by_cmp}
use Rattle.std.specs.FinMap as map
use Rattle.std.proofs.lemmas.Bool.{eqb-true, and_parts, false≢true}
use Rattle.lwm2m_values.specs.declared.value.Value.TheVariants.{Whole}
use Rattle.object_defs.specs.Path.{instance_cmp}
use Rattle.object_defs.specs.declared.path.FullPath.{FullPath}
use Rattle.object_defs.specs.declared.path.InstancePath.{InstancePath}
use Rattle.instance_store.specs.Stored.{Stored, value_at, has_instance, resource_path, with_instance}
use Rattle.instance_store.specs.Stored.{without_values}
use Rattle.access_control.specs.Rights.{control}
use Rattle.device_instances.specs.Numbers.{instance_at, smallest_free}
use Rattle.device_instances.specs.Creations.{is_full, with_number, with_control, with_control_at, with_control_for}
use Rattle.device_instances.specs.Deletions.{instance_in, is_same}
use Rattle.device_instances.proofs.Found.{found_free}
use Rattle.device_instances.proofs.Instances.{same_numbers, not_added, behind_added, same_place}
use Rattle.device_instances.proofs.Within.{Within, then, value_within, resource_within, is_itself}

pub one_place : (p q : InstancePath) → is_same p q ≡ true → p ≡ q
one_place p q h =
    let parts = and_parts (eqb p.object q.object) (eqb p.instance q.instance) h in
    λ i. record { object = eqb-true p.object q.object parts.0 i; instance = eqb-true p.instance q.instance parts.1 i }

pub not_same : (p q : InstancePath) → p ≢ q → is_same p q ≡ false
not_same p q other =
    elim (is_same p q) as (λ b. is_same p q ≡ b → b ≡ false) [
      | true ↦ λ h. absurd (other (one_place p q h))
      | false ↦ λ h. refl
    ] refl

-- the control instance is the one that is new
abbrev pub IsNew : Stored → InstancePath → Type 0
IsNew s p = (p.object ≡ 2) × (smallest_free s 2 ≡ Some p.instance)

is_new : (s : Stored) (j : ℕ) (p : InstancePath) → smallest_free s 2 ≡ Some j → p ≡ instance_at 2 j → IsNew s p
is_new s j p is e = (ap (λ (q : InstancePath). q.object) e, is ∙ ap (λ (q : InstancePath). Some q.instance) (sym e))

number_within : (place : InstancePath) (s : Stored) (r n : ℕ)
    → Within place s (with_number s (record { object = place.object; instance = place.instance; resource = r }) n)
number_within place s r n =
    value_within place s (record { object = place.object; instance = place.instance; resource = r; part = None })
    (Whole (pos n)) (is_itself place)

bare : Stored → ℕ → Stored
bare s j = without_values (with_instance s (instance_at 2 j)) (resource_path (control j 2))

pub control_within : (s : Stored) (j server : ℕ) (place : InstancePath)
    → Within (instance_at 2 j) (with_instance s (instance_at 2 j)) (with_control s j server place)
unfolding bare
control_within s j server place =
    let a = bare s j in
    let b = with_number a (control j 0) place.object in
    let c = with_number b (control j 1) place.instance in
    then (instance_at 2 j) (with_instance s (instance_at 2 j)) c (with_number c (control j 3) server)
    (then (instance_at 2 j) (with_instance s (instance_at 2 j)) b c
    (then (instance_at 2 j) (with_instance s (instance_at 2 j)) a b
    (resource_within (instance_at 2 j) (with_instance s (instance_at 2 j)) 2)
    (number_within (instance_at 2 j) a 0 place.object))
    (number_within (instance_at 2 j) b 1 place.instance))
    (number_within (instance_at 2 j) c 3 server)

-- its number, if one is added
abbrev pub new_number : Stored → ℕ → Option ℕ
new_number s accounts = cond (nat_le 2 accounts) (smallest_free s 2) None

by_number : (s : Stored) (b : Bool) (r : Option ℕ) (server : ℕ) (place : InstancePath)
    → cond b (with_control_at s server place r) s ≡ with_control_at s server place (cond b r None)
by_number s true r server place = refl
by_number s false r server place = refl

pub control_by : (s : Stored) (accounts server : ℕ) (place : InstancePath) (r : Option ℕ) → new_number s accounts ≡ r
    → with_control_for s accounts server place ≡ with_control_at s server place r
control_by s accounts server place r h =
    by_number s (nat_le 2 accounts) (smallest_free s 2) server place ∙ ap (with_control_at s server place) h

pub control_made : (s t : Stored) (accounts server : ℕ) (place : InstancePath) (r : Option ℕ) (j : ℕ)
    → r ≡ new_number s accounts → r ≡ Some j → t ≡ with_control s j server place
    → t ≡ with_control_for s accounts server place
control_made s t accounts server place r j number is made =
    made ∙ sym (control_by s accounts server place (Some j) (sym number ∙ is))

chosen : (b : Bool) (r : Option ℕ) (j : ℕ) → cond b r None ≡ Some j → (b ≡ true) × (r ≡ Some j)
chosen true r j h = (refl, h)
chosen false r j h = cc

pub number_free : (s : Stored) (accounts j : ℕ) → new_number s accounts ≡ Some j
    → has_instance s (instance_at 2 j) ≡ false
number_free s accounts j h = found_free s 2 j (chosen (nat_le 2 accounts) (smallest_free s 2) j h).1

has_room : (b c : Bool) → (b && c) ≡ false → b ≡ true → c ≡ false
has_room true c h e = h
has_room false c h e = cc

pub number_fits : (s : Stored) (accounts j : ℕ) → (nat_le 2 accounts && is_full s 2) ≡ false
    → new_number s accounts ≡ Some j → is_full s 2 ≡ false
number_fits s accounts j h e =
    has_room (nat_le 2 accounts) (is_full s 2) h (chosen (nat_le 2 accounts) (smallest_free s 2) j e).0

-- every other instance is there or not as before
instances_by : (s : Stored) (b : Bool) (r : Option ℕ) (server : ℕ) (place p : InstancePath) → smallest_free s 2 ≡ r
    → ¬ (IsNew s p) → map.get (cond b (with_control_at s server place r) s).instances p ≡ map.get s.instances p
instances_by s false r server place p is other = refl
instances_by s true None server place p is other = refl
instances_by s true (Some j) server place p is other = not_added s (instance_at 2 j) p (λ e. other (is_new s j p is e))

pub control_instances : (s : Stored) (accounts server : ℕ) (place p : InstancePath) → ¬ (IsNew s p)
    → map.get (with_control_for s accounts server place).instances p ≡ map.get s.instances p
control_instances s accounts server place p other =
    instances_by s (nat_le 2 accounts) (smallest_free s 2) server place p refl other

-- and has its values
values_by : (s : Stored) (b : Bool) (r : Option ℕ) (server : ℕ) (place : InstancePath) (q : FullPath)
    → smallest_free s 2 ≡ r → ¬ (IsNew s (instance_in q))
    → value_at (cond b (with_control_at s server place r) s) q ≡ value_at s q
values_by s false r server place q is other = refl
values_by s true None server place q is other = refl
values_by s true (Some j) server place q is other =
    (control_within s j server place).values q
    (not_same (instance_in q) (instance_at 2 j) (λ e. other (is_new s j (instance_in q) is e)))

pub control_values : (s : Stored) (accounts server : ℕ) (place : InstancePath) (q : FullPath)
    → ¬ (IsNew s (instance_in q)) → value_at (with_control_for s accounts server place) q ≡ value_at s q
control_values s accounts server place q other =
    values_by s (nat_le 2 accounts) (smallest_free s 2) server place q refl other

-- another object than 2 is untouched
pub control_free : (s : Stored) (accounts server : ℕ) (place : InstancePath) → place.object ≢ 2
    → has_instance (with_control_for s accounts server place) place ≡ has_instance s place
control_free s accounts server place other =
    ap is_some (control_instances s accounts server place place (λ h. other h.0))

pub control_full : (s : Stored) (accounts server : ℕ) (place : InstancePath) → place.object ≢ 2
    → is_full (with_control_for s accounts server place) place.object ≡ is_full s place.object
control_full s accounts server place other =
    ap (λ ns. nat_le 64 (length ns)) (same_numbers s (with_control_for s accounts server place) place.object
    (λ n. control_instances s accounts server place (instance_at place.object n) (λ h. other h.0)))

-- what is there was there, or is new
only_by : (s : Stored) (b : Bool) (r : Option ℕ) (server : ℕ) (place p : InstancePath) → smallest_free s 2 ≡ r
    → has_instance (cond b (with_control_at s server place r) s) p ≡ true → (has_instance s p ≡ true) ⊎ IsNew s p
only_by s false r server place p is h = inl h
only_by s true None server place p is h = inl h
only_by s true (Some j) server place p is h =
    elim (eq_by_cmp instance_cmp p (instance_at 2 j)) as
    (λ b. eq_by_cmp instance_cmp p (instance_at 2 j) ≡ b → (has_instance s p ≡ true) ⊎ IsNew s p) [
      | true ↦ λ e. inr (is_new s j p is (same_place p (instance_at 2 j) e))
      | false ↦ λ e. inl (sym (ap is_some (behind_added s (instance_at 2 j) p
          ∙ ap (λ b. cond b (Some tt) (map.get s.instances p)) e)) ∙ h)
    ] refl

pub control_only : (s : Stored) (accounts server : ℕ) (place p : InstancePath)
    → has_instance (with_control_for s accounts server place) p ≡ true → (has_instance s p ≡ true) ⊎ IsNew s p
control_only s accounts server place p h = only_by s (nat_le 2 accounts) (smallest_free s 2) server place p refl h

pub old_is_not_new : (s : Stored) (p : InstancePath) → has_instance s p ≡ true → ¬ (IsNew s p)
old_is_not_new s p h new =
    false≢true (sym (found_free s 2 p.instance new.1)
    ∙ ap (λ o. has_instance s (record { object = o; instance = p.instance })) (sym new.0) ∙ h)
