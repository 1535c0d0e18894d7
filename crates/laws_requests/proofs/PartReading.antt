-- A part that was written is read among the others of its resource.
use Rattle.std.proofs.Common.{◌≡◌, ◌≢◌, ℕ, Bool, true, [], ◌∷◌, Some, Ok, inl, inr, refl, sym, ap, subst, ◌∙◌}
use Rattle.std.specs.Bool.{if◌then◌else◌}
use Rattle.std.specs.FinMap as finite
use Rattle.std.proofs.lemmas.Option.{same_Some}
use Rattle.std.proofs.lemmas.Bool.{eqb-false}
use Rattle.lwm2m_values.specs.declared.value.Value.{Value}
use Rattle.object_defs.specs.Catalog.{definition_of}
use Rattle.object_defs.specs.Operations.{can_read}
use Rattle.object_defs.specs.Path.{part_of}
use Rattle.object_defs.specs.declared.definition.ResourceDef.{ResourceDef}
use Rattle.object_defs.specs.declared.path.FullPath.{FullPath}
use Rattle.object_defs.specs.declared.path.Path.TheVariants.{Part}
use Rattle.instance_store.specs.Stored.{Stored, has_instance, value_at}
use Rattle.lwm2m_payloads.specs.Given.{part_given}
use Rattle.lwm2m_payloads.specs.PartList.{PartList}
use Rattle.lwm2m_payloads.specs.declared.given.Given.TheVariants.{Parts}
use Rattle.lwm2m_payloads.specs.declared.given.Mode.TheVariants.{Update}
use Rattle.device_requests.specs.Client.{with_stored}
use Rattle.device_requests.specs.Laws.{IsAmong}
use Rattle.device_requests.specs.Outcomes.{write_outcome}
use Rattle.device_requests.specs.Refusals.{refusals_of, to_write}
use Rattle.device_requests.specs.Targets.{is_multiple, place_of, resource_place}
use Rattle.laws_requests.specs.Multiples.{HasPart, IsPartReadAmong, PartIsReadAmong}
use Rattle.laws_requests.proofs.Asking.{fails}
use Rattle.laws_requests.proofs.Changing.{wrote}
use Rattle.laws_requests.proofs.Holding.{multiple_read}
use Rattle.laws_requests.proofs.InstanceReading.{IsChanged, is_then, then_is}
use Rattle.laws_requests.proofs.PartBack.{both_are}
use Rattle.laws_requests.proofs.PartWriting.{parts_written}
use Rattle.laws_requests.proofs.Writing.{is_stored, unrefused}

another : (n m : ℕ) (value : Value) → ¬ (HasPart ((n, value) ∷ []) m) → m ≢ n
another n m value never is = never (value, inl (λ j. (sym is j, value)))

numbers_differ : (o i r n m : ℕ) → m ≢ n
    → part_of (resource_place o i r) m ≢ part_of (resource_place o i r) n
numbers_differ o i r n m other is =
    other (same_Some m n (ap (λ (q : FullPath). q.part) is))

-- one part alone
abbrev only : ℕ → Value → PartList
only n value = (n, value) ∷ []

set_at : (stored : Stored) (o i r n m : ℕ) (value v : Value)
    → value_at stored (part_of (resource_place o i r) n) ≡ Some value → IsAmong (m, v) (only n value)
    → value_at stored (part_of (resource_place o i r) m) ≡ Some v
set_at stored o i r n m value v set (inl is) =
    subst (λ (e : ℕ × Value). value_at stored (part_of (resource_place o i r) e.0) ≡ Some e.1) is set
set_at stored o i r n m value v set (inr none) = absurd none

pub part_read_among : PartIsReadAmong
part_read_among client server mode o i r n d number payload defined_as readable h =
    let path = Part o i r n in
    let p = resource_place o i r in
    let new = (write_outcome client server mode path number payload).client in
    let all = fails (refusals_of client server path (to_write mode number payload))
    (unrefused client server mode path number payload h) in
    let w = parts_written client server mode o i r n number payload h in
    let same = same_Some w.definition d (sym w.is_defined ∙ defined_as) in
    let target = both_are (is_multiple (definition_of client.catalog o r)) (has_instance client.store (place_of o i))
    all.1.0 in
    let place : has_instance new.store (place_of o i) ≡ true =
    ap (λ m. finite.contains_key m (place_of o i)) (wrote client server mode path number payload).instances
    ∙ target.1 in
    let several : d.multiple ≡ true = sym (ap is_multiple defined_as) ∙ target.0 in
    let back = multiple_read (with_stored client new.store) o i r d (eqb-false o 0 all.0) defined_as several readable
    place in
    let set : value_at new.store (part_of p n) ≡ Some w.value =
    w.part ∙ ap (λ (b : Bool). if b then Some w.value else value_at client.store (part_of p n))
    (ap (λ (e : ResourceDef). can_read e.ops) same ∙ readable) in
    let given : PartList = (n, w.value) ∷ [] in
    let changed : (m : ℕ)
    → IsChanged Update given m (value_at client.store (part_of p m)) (value_at new.store (part_of p m)) =
    λ m. record {
      given = λ v among. set_at new.store o i r n m w.value v set among;
      other = λ never. w.others (part_of p m) (numbers_differ o i r n m (another n m w.value never));
    } in
    subst (IsPartReadAmong client o i r n d number payload) (sym (is_stored client server mode path number payload h))
    (record {
      format = w.format;
      served = w.served;
      value = w.value;
      gives = subst (λ (e : ResourceDef). part_given e n w.format payload ≡ Ok (Parts given)) same w.gives;
      shown = back.0;
      read = back.1;
      parts = λ m v.
          let before = value_at client.store (part_of p m) in
          let after = value_at new.store (part_of p m) in (
            λ k. then_is Update given m before after v (refl, tt) (changed m) ((back.1.held m v).1 k),
            λ k. (back.1.held m v).0 (is_then Update given m before after v (changed m) k),
          );
    })
