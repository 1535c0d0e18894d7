-- What a Read of an object and of an instance shows (OMA LwM2M 1.1 Core, Read, access control and TLV): exactly the
-- instances that the server may read, each with exactly its values that can be read, by ascending number.
use Rattle.std.specs.Prelude.{◌≡◌, ◌≢◌, ◌<◌, ◌↔◌, ◌⊎◌, ℕ, ◌==◌, true, false, List, length, Option, None, Some}
use Rattle.std.specs.Prelude.{is_some, if◌then◌else◌}
use Rattle.lwm2m_values.specs.Tlv.{shortest_tlv}
use Rattle.lwm2m_values.specs.Tree.{Tree, Trees, instance, multi, part, single, none, more}
use Rattle.lwm2m_values.specs.Value.{bytes_of}
use Rattle.lwm2m_values.specs.declared.value.Value.{Value}
use Rattle.object_defs.specs.Catalog.{definition_of, object_of}
use Rattle.object_defs.specs.Numbers.{security_object}
use Rattle.object_defs.specs.Operations.{can_read}
use Rattle.object_defs.specs.declared.definition.ObjectDef.{ObjectDef}
use Rattle.object_defs.specs.declared.definition.ResourceDef.{ResourceDef}
use Rattle.object_defs.specs.declared.path.Path.TheVariants.{Object, Instance}
use Rattle.instance_store.specs.Stored.{has_instance, value_at}
use Rattle.lwm2m_payloads.specs.Given.{number_in}
use Rattle.lwm2m_payloads.specs.declared.format.Format.TheVariants.{Tlv}
use Rattle.device_requests.specs.declared.ruling.Ruling.TheVariants as rule
use Rattle.device_requests.specs.Access.{reads}
use Rattle.device_requests.specs.Answer.{bare}
use Rattle.device_requests.specs.Client.{Client}
use Rattle.device_requests.specs.Laws.{content_within}
use Rattle.device_requests.specs.Outcomes.{read_answer}
use Rattle.device_requests.specs.Refusals.{is_tlv}
use Rattle.device_requests.specs.Targets.{place_of}

-- a record stands among others
abbrev pub IsRecordIn : Tree → Trees → Type 0
IsRecordIn t none = ⊥
IsRecordIn t (more s nodes) = (s ≡ t) ⊎ IsRecordIn t nodes

-- the number of each record is below those of all later ones
abbrev pub Ascend : Trees → Type 0
Ascend none = Unit {0}
Ascend (more t nodes) = ((s : Tree) → IsRecordIn s nodes → number_in t < number_in s) × Ascend nodes

-- a Resource, or a Multiple Resource with one Resource Instance or more, by ascending number
pub data IsResourceRecord : Tree → Type 0 where
  alone : (r : ℕ) (bytes : List ℕ) → IsResourceRecord (single r bytes)
  several : (r : ℕ) (first : Tree) (others : Trees)
      → ((t : Tree) → IsRecordIn t (more first others) → (n : ℕ) × (bytes : List ℕ) × (t ≡ part n bytes))
      → Ascend (more first others) → IsResourceRecord (multi r (more first others))

-- records say these bytes of a resource: in a Resource, and of its part of a number in a Multiple Resource
abbrev pub RecordsSay : Trees → ℕ → Option ℕ → List ℕ → Type 0
RecordsSay nodes r None bytes = IsRecordIn (single r bytes) nodes
RecordsSay nodes r (Some n) bytes = (parts : Trees) × IsRecordIn (multi r parts) nodes × IsRecordIn (part n bytes) parts

-- these are the bytes of a value that is held and can be read: of a single resource, or of a multiple one's part
pub record HoldsReadable (client : Client) (o i r : ℕ) (n : Option ℕ) (bytes : List ℕ) : Type 0 where
  pub definition : ResourceDef
  pub is_defined : definition_of client.catalog o r ≡ Some definition
  pub readable : can_read definition.ops ≡ true
  pub fits : definition.multiple ≡ is_some n
  pub value : Value
  pub held : value_at client.store (record { object = o; instance = i; resource = r; part = n }) ≡ Some value
  pub written : bytes_of value ≡ bytes

-- the records say of each resource that can be read exactly what is held, by ascending number, and nothing else
pub record ShowsInstance (client : Client) (o i : ℕ) (nodes : Trees) : Type 0 where
  pub ascend : Ascend nodes
  pub each : (t : Tree) → IsRecordIn t nodes → IsResourceRecord t
  pub exactly : (r : ℕ) (n : Option ℕ) (bytes : List ℕ)
      → RecordsSay nodes r n bytes ↔ HoldsReadable client o i r n bytes

-- a server may read an instance that is there
pub record MayRead (client : Client) (server o i : ℕ) : Type 0 where
  pub there : has_instance client.store (place_of o i) ≡ true
  pub right : reads client.store (length client.accounts) server o i ≡ true

-- each record is an Object Instance with what that instance shows; one stands there for exactly the instances that the
-- server may read, by ascending number
pub record ShowsObject (client : Client) (server o : ℕ) (nodes : Trees) : Type 0 where
  pub ascend : Ascend nodes
  pub each : (t : Tree) → IsRecordIn t nodes
      → (i : ℕ) × (inner : Trees) × (t ≡ instance i inner) × ShowsInstance client o i inner
  pub exactly : (i : ℕ) → ((inner : Trees) × IsRecordIn (instance i inner) nodes) ↔ MayRead client server o i

-- a Read of an instance that the server may read answers what the instance shows
abbrev pub InstanceIsShown : Type 0
InstanceIsShown =
    (client : Client) (server o i : ℕ) (d : ObjectDef) (accept : Option ℕ) → o ≢ security_object
    → object_of client.catalog o ≡ Some d → MayRead client server o i → is_tlv accept ≡ true
    → (nodes : Trees) × ShowsInstance client o i nodes
    × (read_answer client server (Instance o i) accept ≡ content_within Tlv (shortest_tlv nodes))

-- a Read of an object that has no instance, or one that the server may read, answers what the object shows
abbrev pub ObjectIsShown : Type 0
ObjectIsShown =
    (client : Client) (server o : ℕ) (d : ObjectDef) (accept : Option ℕ) → o ≢ security_object
    → object_of client.catalog o ≡ Some d
    → ((i : ℕ) → has_instance client.store (place_of o i) ≡ false) ⊎ ((i : ℕ) × MayRead client server o i)
    → is_tlv accept ≡ true
    → (nodes : Trees) × ShowsObject client server o nodes
    × (read_answer client server (Object o) accept ≡ content_within Tlv (shortest_tlv nodes))

-- where the object has instances, and the server may read none of them, it is 4.01: by the rule of the Security
-- object, or by that of the rights
abbrev pub ObjectIsHidden : Type 0
ObjectIsHidden =
    (client : Client) (server o i : ℕ) (d : ObjectDef) (accept : Option ℕ) → object_of client.catalog o ≡ Some d
    → has_instance client.store (place_of o i) ≡ true → ((j : ℕ) → ¬ (MayRead client server o j))
    → read_answer client server (Object o) accept ≡ bare (if o == security_object then rule.Security else rule.Right)
