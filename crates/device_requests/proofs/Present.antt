-- A target that exists lies in an instance that is there, and a resource that was cleared has room.
use Rattle.std.proofs.Common.{◌≡◌, ℕ, ◌==◌, Bool, true, false, not, ◌&&◌, ◌||◌, nat_le, List, [], ◌∷◌, length, Option}
use Rattle.std.proofs.Common.{None, Some, cond, refl, sym, ap, ◌∙◌, if◌then◌else◌}
use Rattle.std.specs.Option.{is_some, unwrap_or}
use Rattle.std.proofs.lemmas.Bool.{and_parts, not-false}
use Rattle.std.proofs.Math.Bool.{and-false}
use Rattle.object_defs.specs.Catalog.{object_of, definition_of}
use Rattle.object_defs.specs.Lines.{first_line}
use Rattle.object_defs.specs.Path.{part_of}
use Rattle.object_defs.specs.declared.definition.ObjectDef.{ObjectDef}
use Rattle.object_defs.specs.declared.path.Path.{Path}
use Rattle.object_defs.specs.declared.path.Path.TheVariants.{Object, Instance, Resource, Part}
use Rattle.object_defs.specs.declared.path.ResourcePath.{ResourcePath}
use Rattle.instance_store.specs.Existence.{exists_as}
use Rattle.instance_store.specs.Stored.{Stored, value_at, has_instance, is_full, resource_path, without_values}
use Rattle.device_instances.specs.Numbers.{instance_at, number_for}
use Rattle.device_instances.proofs.Found.{found_free}
use Rattle.lwm2m_payloads.proofs.Apart.{none_held}
use Rattle.device_requests.specs.declared.ruling.Ruling.{Ruling}
use Rattle.device_requests.specs.declared.ruling.Ruling.TheVariants as rule
use Rattle.device_requests.specs.Refusals.{is_target, refusal_of, refusals_of, to_delete, to_execute}
use Rattle.device_requests.specs.Targets.{exists, place_of, resource_place, is_multiple}
use Rattle.device_requests.specs.Client.{Client}
use Rattle.device_requests.specs.Inside.{has_place}

exists_has : (catalog : List ObjectDef) (stored : Stored) (path : Path) → exists catalog stored path ≡ true
    → has_place stored path ≡ true
exists_has catalog stored (Object o) h = refl
exists_has catalog stored (Instance o i) h =
    (and_parts (is_some (object_of catalog o)) (has_instance stored (place_of o i)) h).1
exists_has catalog stored (Resource o i r) h =
    (and_parts (has_instance stored (place_of o i))
    (exists_as stored (resource_place o i r) (definition_of catalog o r)) h).0
exists_has catalog stored (Part o i r n) h =
    (and_parts (has_instance stored (place_of o i))
    (is_multiple (definition_of catalog o r) && is_some (value_at stored (part_of (resource_place o i r) n))) h).0

pub target_has : (catalog : List ObjectDef) (stored : Stored) (path : Path) → is_target catalog stored path ≡ true
    → has_place stored path ≡ true
target_has catalog stored (Object o) h = absurd cc
target_has catalog stored (Instance o i) h =
    (and_parts (is_some (object_of catalog o)) (has_instance stored (place_of o i)) h).1
target_has catalog stored (Resource o i r) h =
    (and_parts (is_some (definition_of catalog o r)) (has_instance stored (place_of o i)) h).1
target_has catalog stored (Part o i r n) h =
    (and_parts (is_multiple (definition_of catalog o r)) (has_instance stored (place_of o i)) h).1

-- no rule holds
abbrev NoneHolds : List (Bool × Ruling) → Type 0
NoneHolds [] = Unit {0}
NoneHolds (rule ∷ rules) = (rule.0 ≡ false) × NoneHolds rules

none_holds : (rules : List (Bool × Ruling)) → first_line rules ≡ None → NoneHolds rules
none_holds [] h = tt
none_holds (rule ∷ rules) h =
    elim rule.0 as (λ b. cond b (Some rule.1) (first_line rules) ≡ None → (b ≡ false) × NoneHolds rules) [
      | true ↦ λ k. cc
      | false ↦ λ k. (refl, none_holds rules k)
    ] h

-- what no rule refuses has a target
pub execute_has : (client : Client) (server : ℕ) (path : Path) (number : Option ℕ) (payload : List ℕ)
    → refusal_of client server path (to_execute number payload) ≡ None → has_place client.store path ≡ true
execute_has client server path number payload h =
    exists_has client.catalog client.store path (not-false (exists client.catalog client.store path)
    (none_holds (refusals_of client server path (to_execute number payload)) h).1.0)

pub delete_has : (client : Client) (server : ℕ) (path : Path) → refusal_of client server path to_delete ≡ None
    → has_place client.store path ≡ true
delete_has client server path h =
    exists_has client.catalog client.store path (not-false (exists client.catalog client.store path)
    (none_holds (refusals_of client server path to_delete) h).1.0)

-- the first part of a resource that was cleared
pub cleared_fits : (stored : Stored) (p : ResourcePath) (n : ℕ)
    → is_full (without_values stored (resource_path p)) p n ≡ false
cleared_fits stored p n =
    let new = not (is_some (value_at (without_values stored (resource_path p)) (part_of p n))) in
    ap (λ ns. new && nat_le 32 (length ns)) (none_held stored p) ∙ and-false new

free_at : (stored : Stored) (o m n : ℕ) (b : Bool) → has_instance stored (instance_at o m) ≡ b
    → (if (m == 65535) || b then None else Some m) ≡ Some n → has_instance stored (instance_at o n) ≡ false
free_at stored o m n true e h = absurd (none_is (m == 65535) m n h)
  where
    none_is : (a : Bool) (m n : ℕ) → (if a || true then None else Some m) ≡ Some n → ⊥
    none_is true m n h = cc
    none_is false m n h = cc
free_at stored o m n false e h = named (m == 65535) h
  where
    named : (a : Bool) → (if a || false then None else Some m) ≡ Some n → has_instance stored (instance_at o n) ≡ false
    named true h = absurd cc
    named false h = ap (λ k. has_instance stored (instance_at o (unwrap_or k m))) (sym h) ∙ e

-- the number of a new instance is free
pub number_free : (stored : Stored) (o n : ℕ) (named : Option ℕ) → number_for stored o named ≡ Some n
    → has_instance stored (instance_at o n) ≡ false
number_free stored o n None h = found_free stored o n h
number_free stored o n (Some m) h = free_at stored o m n (has_instance stored (instance_at o m)) refl h
