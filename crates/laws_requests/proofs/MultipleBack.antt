-- A multiple resource that was written is read again.
use Rattle.std.proofs.Common.{◌≡◌, ℕ, Bool, true, false, ◌==◌, List, [], ◌∷◌, Option, None, Some, refl}
use Rattle.std.proofs.Common.{Ok, sym, ap, subst, ◌∙◌}
use Rattle.std.specs.Bool.{if◌then◌else◌}
use Rattle.std.specs.FinMap as finite
use Rattle.std.specs.Option.{is_some, option_or}
use Rattle.std.proofs.lemmas.Bool.{both_ways, eqb-false}
use Rattle.lemmas.proofs.Tests.{second_if_denied}
use Rattle.lwm2m_values.specs.Tree.{Tree}
use Rattle.lwm2m_values.specs.declared.value.Value.{Value}
use Rattle.object_defs.specs.Catalog.{definition_of}
use Rattle.object_defs.specs.Operations.{can_read}
use Rattle.object_defs.specs.Path.{part_of}
use Rattle.object_defs.specs.declared.definition.ResourceDef.{ResourceDef}
use Rattle.object_defs.specs.declared.path.Path.TheVariants.{Resource}
use Rattle.object_defs.specs.declared.path.ResourcePath.{ResourcePath}
use Rattle.instance_store.specs.Stored.{Stored, has_instance, value_at}
use Rattle.lwm2m_payloads.specs.Changes.{with_given}
use Rattle.lwm2m_payloads.specs.Formats.{extent_as, format_for, many, one}
use Rattle.lwm2m_payloads.specs.Given.{resource_given}
use Rattle.lwm2m_payloads.specs.PartList.{PartList}
use Rattle.lwm2m_payloads.specs.Written.{GivenOnce, PartsOnce, part_value}
use Rattle.lwm2m_payloads.specs.declared.format.Format.{Format}
use Rattle.lwm2m_payloads.specs.declared.format.Format.TheVariants.{Tlv}
use Rattle.lwm2m_payloads.specs.declared.given.Given.{Given}
use Rattle.lwm2m_payloads.specs.declared.given.Given.TheVariants.{Parts}
use Rattle.lwm2m_payloads.specs.declared.given.Mode.{Mode}
use Rattle.lwm2m_payloads.specs.declared.given.Mode.TheVariants.{Replace}
use Rattle.lwm2m_payloads.proofs.EachOnce.{resource_once}
use Rattle.lwm2m_payloads.proofs.Written.{at_given, given_instances}
use Rattle.device_requests.specs.declared.ruling.Ruling.{Ruling}
use Rattle.device_requests.specs.Client.{Client, with_stored}
use Rattle.device_requests.specs.Outcomes.{write_outcome}
use Rattle.device_requests.specs.Read.{format_at}
use Rattle.device_requests.specs.Refusals.{refusals_of, to_write}
use Rattle.device_requests.specs.Targets.{place_of, resource_place}
use Rattle.device_requests.specs.Write.{given_to_resource, write_unless}
use Rattle.laws_requests.specs.Multiples.{ArePartsReadBack, HoldsParts, MultipleIsReadBack}
use Rattle.laws_requests.proofs.Asking.{fails}
use Rattle.laws_requests.proofs.Holding.{holds, multiple_read, lies_here}
use Rattle.laws_requests.proofs.Writing.{comes, leaves, resource_good, unrefused}
use Rattle.laws_requests.specs.Payloads.{GivesResource, GivesTo, by_bytes, by_record, by_text, gives_parts, gives_value}
use Rattle.laws_requests.proofs.Giving.{resources_given}

-- ---- what the payload gives

-- parts are given
abbrev AreSomeParts : Given → Type 0
AreSomeParts g = (parts : PartList) × (g ≡ Parts parts)

-- a multiple resource is given parts by TLV
gives_some_parts : (d : ResourceDef) (payload : List ℕ) (g : Given) → d.multiple ≡ true
    → resource_given d Tlv payload ≡ Ok g → AreSomeParts g
gives_some_parts d payload g several h = by_tlv d Tlv payload g several refl ((resources_given d Tlv payload g).0 h)
  where
    to_parts : (d : ResourceDef) (node : Tree) (g : Given) → d.multiple ≡ true → GivesTo d node g → AreSomeParts g
    to_parts d node g several (gives_value bytes v alone is) = absurd (both_ways d.multiple alone several)
    to_parts d node g several (gives_parts inner ps is_many are some) = (ps, refl)

    by_tlv : (d : ResourceDef) (f : Format) (payload : List ℕ) (g : Given) → d.multiple ≡ true → f ≡ Tlv
        → GivesResource d f payload g → AreSomeParts g
    by_tlv d f payload g several tlv (by_text _ v is) = cc
    by_tlv d f payload g several tlv (by_bytes _ v is) = cc
    by_tlv d f payload g several tlv (by_record _ node _ records gives) = to_parts d node g several gives

only_tlv : (number : Option ℕ) (f : Format) → format_for many number ≡ Some f → f ≡ Tlv
only_tlv None f h = cc
only_tlv (Some n) f h =
    elim (n == 11542) as (λ b. (if b then Some Tlv else (if n == 0 then None else (if n == 42 then None else None)))
    ≡ Some f → f ≡ Tlv) [
      | true ↦ λ k. cc
      | false ↦ λ k. elim (n == 0) as (λ b. (if b then None else (if n == 42 then None else None)) ≡ Some f → f ≡ Tlv) [
        | true ↦ λ l. cc
        | false ↦ λ l. elim (n == 42) as (λ b. (if b then None else None) ≡ Some f → f ≡ Tlv) [
          | true ↦ λ m. cc
          | false ↦ λ m. cc
        ] l
      ] k
    ] h

is_only_tlv : (client : Client) (o i r : ℕ) (d : ResourceDef) (number : Option ℕ) (f : Format)
    → definition_of client.catalog o r ≡ Some d → d.multiple ≡ true
    → format_at client.catalog (Resource o i r) number ≡ Some f → f ≡ Tlv
is_only_tlv client o i r d number f defined_as several h =
    only_tlv number f (sym (ap (λ (e : Option ResourceDef). format_for (extent_as e) number) defined_as
    ∙ ap (λ (b : Bool). format_for (if b then many else one d.kind) number) several) ∙ h)

-- ---- the store after it

-- the firmware takes single values alone
parts_leave : (client : Client) (mode : Mode) (o i r : ℕ) (payload : List ℕ) (f : Format) (d : ResourceDef)
    (parts : PartList)
    → given_to_resource (definition_of client.catalog o r) f payload ≡ Ok (Parts parts)
    → definition_of client.catalog o r ≡ Some d → can_read d.ops ≡ true
    → leaves client mode (Resource o i r) payload (Some f)
    ≡ with_given mode client.store (resource_place o i r) (Parts parts)
parts_leave client mode o i r payload f d parts given defined_as readable =
    let Goal : Type 0 = leaves client mode (Resource o i r) payload (Some f)
    ≡ with_given mode client.store (resource_place o i r) (Parts parts) in
    elim (o == 5) as (λ b. (o == 5) ≡ b → Goal) [
      | false ↦ λ five. rw (given, five, defined_as, readable) refl
      | true ↦ λ five. elim (r == 0) as (λ b. (r == 0) ≡ b → Goal) [
        | true ↦ λ zero. rw (given, five, zero, defined_as, readable) refl
        | false ↦ λ zero. elim (r == 1) as (λ b. (r == 1) ≡ b → Goal) [
          | true ↦ λ one. rw (given, five, zero, one, defined_as, readable) refl
          | false ↦ λ one. rw (given, five, zero, one, defined_as, readable) refl
        ] refl
      ] refl
    ] refl

or_none : (v : Option Value) → option_or v None ≡ v
or_none None = refl
or_none (Some v) = refl

-- after Replace there are the parts given
replaced : (stored : Stored) (p : ResourcePath) (parts : PartList) → PartsOnce parts
    → HoldsParts (with_given Replace stored p (Parts parts)) p parts
replaced stored p parts once =
    holds (with_given Replace stored p (Parts parts)) p parts once (λ n.
    at_given Replace (Parts parts) stored p (part_of p n) once
    ∙ ap (λ (b : Bool). if b then option_or (part_value parts (Some n)) None else value_at stored (part_of p n))
    (lies_here p n)
    ∙ or_none (part_value parts (Some n)))

is_given : (d : Option ResourceDef) (f : Format) (payload : List ℕ) (e : ResourceDef) (g : Given) → d ≡ Some e
    → given_to_resource d f payload ≡ Ok g → resource_given e f payload ≡ Ok g
is_given d f payload e g is h = sym (ap (λ (x : Option ResourceDef). given_to_resource x f payload) is) ∙ h

pub multiple_back : MultipleIsReadBack
multiple_back client server o i r d number payload defined_as several readable h =
    let path = Resource o i r in
    let p = resource_place o i r in
    let no_line = unrefused client server Replace path number payload h in
    let all = fails (refusals_of client server path (to_write Replace number payload)) no_line in
    let c = comes client server Replace path number payload h in
    let tlv = is_only_tlv client o i r d number c.format defined_as several c.served in
    let g = resource_good client o i r payload c.format
    (given_to_resource (definition_of client.catalog o r) c.format payload) refl c.good in
    let gives : resource_given d Tlv payload ≡ Ok g.0 =
    subst (λ (f : Format). resource_given d f payload ≡ Ok g.0) tlv
    (is_given (definition_of client.catalog o r) c.format payload d g.0 defined_as g.1) in
    let parts = gives_some_parts d payload g.0 several gives in
    let are = ap (λ (x : Given). Ok x) parts.1 in
    let once : PartsOnce parts.0 = subst GivenOnce parts.1 (resource_once d Tlv payload g.0 gives) in
    let stored = with_given Replace client.store p (Parts parts.0) in
    let new : (write_outcome client server Replace path number payload).client ≡ with_stored client stored =
    ap (λ (ruling : Option Ruling). (write_unless ruling client
    (leaves client Replace path payload (format_at client.catalog path number))).client) no_line
    ∙ ap (λ (s : Stored). with_stored client s) (ap (leaves client Replace path payload) c.served
    ∙ parts_leave client Replace o i r payload c.format d parts.0 (g.1 ∙ are) defined_as readable) in
    let place : has_instance stored (place_of o i) ≡ true =
    ap (λ m. finite.contains_key m (place_of o i)) (given_instances Replace (Parts parts.0) client.store p)
    ∙ second_if_denied (is_some (definition_of client.catalog o r)) (has_instance client.store (place_of o i)) all.1.0
    in
    let back = multiple_read (with_stored client stored) o i r d (eqb-false o 0 all.0) defined_as several readable place
    in
    let held = replaced client.store p parts.0 once in
    subst (ArePartsReadBack o i r d payload) (sym new) (record {
      given = parts.0;
      gives = gives ∙ are;
      shown = back.0;
      same = λ e.
          let then_held = back.1.held e.0 e.1 in
          (λ k. (held e.0 e.1).0 (then_held.1 k), λ k. then_held.0 ((held e.0 e.1).1 k));
      read = back.1;
    })
