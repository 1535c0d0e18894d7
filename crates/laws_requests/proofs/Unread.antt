-- What a server may not read shows in no answer to it.
use Rattle.std.proofs.Common.{◌≡◌, ◌⊎◌, inl, inr, ℕ, Bool, true, false, not, ◌&&◌, ◌||◌, ◌==◌, nat_le, List, []}
use Rattle.std.proofs.Common.{◌∷◌, ◌++◌, find, map, length, Option, None, Some, Result, Ok, Err, ok_or, refl, sym, ap}
use Rattle.std.proofs.Common.{◌∙◌}
use Rattle.std.specs.Bool.{if◌then◌else◌}
use Rattle.std.specs.List.{filter, flat_map, list_any}
use Rattle.std.specs.Option.{is_some, option_and_then, option_map, option_or, unwrap_or}
use Rattle.std.specs.Result.{result_ok}
use Rattle.coap_codec.specs.Message.{Message}
use Rattle.lwm2m_values.specs.Tlv.{shortest_tlv}
use Rattle.lwm2m_values.specs.Tree.{Tree, instance, part, single, trees_of_list}
use Rattle.object_defs.specs.Catalog.{definition_of}
use Rattle.object_defs.specs.Lines.{first_line}
use Rattle.object_defs.specs.Path.{object_in, part_of, path_text, single_of}
use Rattle.object_defs.specs.declared.definition.ResourceDef.{ResourceDef}
use Rattle.object_defs.specs.declared.path.Path.{Path}
use Rattle.object_defs.specs.declared.path.Path.TheVariants.{Object, Instance, Resource, Part}
use Rattle.object_defs.specs.declared.path.ResourcePath.{ResourcePath}
use Rattle.instance_store.specs.Stored.{Stored, instances_of}
use Rattle.notifier.specs.Attributes.{Numbers}
use Rattle.device_firmware.specs.Firmware.{firmware, firmware_after, firmware_resource, next_from, outcome_in, state_as}
use Rattle.device_firmware.specs.Firmware.{with_outcome, with_uri, uri_of}
use Rattle.device_firmware.specs.declared.event.FirmwareEvent.{FirmwareEvent}
use Rattle.device_firmware.specs.declared.event.FirmwareEvent.TheVariants as event
use Rattle.device_instances.specs.Numbers.{instance_at, is_free, number_for, numbers_below}
use Rattle.lwm2m_payloads.specs.Nodes.{Pairs, instance_node, is_shown, nodes_of}
use Rattle.lwm2m_payloads.specs.Given.{creation_given, instance_given}
use Rattle.lwm2m_payloads.specs.Results.{result_map}
use Rattle.lwm2m_payloads.specs.declared.counts.Excess.{Excess}
use Rattle.lwm2m_payloads.specs.declared.fault.PayloadFault.{PayloadFault}
use Rattle.device_instances.specs.Creations.{full_count}
use Rattle.device_instances.specs.declared.room.NoRoom.{NoRoom}
use Rattle.device_instances.specs.declared.room.NoRoom.TheVariants as no_room
use Rattle.lwm2m_payloads.specs.declared.format.Format.{Format}
use Rattle.lwm2m_payloads.specs.declared.given.Assignment.{Assignment}
use Rattle.lwm2m_payloads.specs.declared.given.Creation.{Creation}
use Rattle.lwm2m_payloads.specs.declared.given.Given.{Given}
use Rattle.lwm2m_payloads.specs.declared.given.Mode.{Mode}
use Rattle.lwm2m_payloads.specs.declared.given.Mode.TheVariants.{Replace, Update}
use Rattle.lwm2m_payloads.specs.Changes.{is_kept_as}
use Rattle.device_requests.specs.declared.answer.Answer.{Answer}
use Rattle.device_requests.specs.declared.operation.Operation.{Operation}
use Rattle.device_requests.specs.declared.operation.Operation.TheVariants.{Read, Discover, WriteAttributes}
use Rattle.device_requests.specs.declared.operation.Operation.TheVariants.{WriteReplace, WritePartial, Create, Execute}
use Rattle.device_requests.specs.declared.operation.Operation.TheVariants.{Delete}
use Rattle.device_requests.specs.declared.request.Request.{Request}
use Rattle.device_requests.specs.Access.{may_read, reads, rights_at, shown_instances}
use Rattle.device_requests.specs.Answer.{bare, content, created_answer, done_answer, refused_or}
use Rattle.device_requests.specs.Client.{Client, with_stored}
use Rattle.device_requests.specs.declared.create.Newborn.{Newborn}
use Rattle.device_requests.specs.declared.ruling.Ruling.{Ruling}
use Rattle.device_requests.specs.declared.ruling.Ruling.TheVariants as rule
use Rattle.device_requests.specs.Create.{create_unless, lacks_room, newborn, newborn_from, number_fault}
use Rattle.device_requests.specs.Delete.{delete_unless}
use Rattle.device_requests.specs.Discover.{attributes_text, dimension, dimension_text}
use Rattle.device_requests.specs.Discover.{discover_payload}
use Rattle.device_requests.specs.Discover.{inherits_at, paths_below}
use Rattle.device_requests.specs.Execute.{act_of, execute_unless}
use Rattle.lwm2m_payloads.specs.Scanning.{are_arguments}
use Rattle.device_requests.specs.Operation.{link_format}
use Rattle.device_requests.specs.Options.{queries_of}
use Rattle.device_requests.specs.Order.{Asks}
use Rattle.device_requests.specs.Outcomes.{attributes_outcome, create_outcome, delete_outcome, discover_answer}
use Rattle.device_requests.specs.Outcomes.{execute_outcome, read_answer, write_outcome}
use Rattle.device_requests.specs.Read.{content_in, format_at, one_payload, payload_in, read_payload}
use Rattle.device_requests.specs.Refusals.{annotates_at, can_be_read, can_be_written, is_executable, is_fixed}
use Rattle.device_requests.specs.Refusals.{is_oversized, is_plain, is_refused_now, is_tlv, is_untimely, refusal_of}
use Rattle.device_requests.specs.Refusals.{to_create, to_delete, to_execute, to_write, to_write_attributes}
use Rattle.device_requests.specs.Refusals.{unless_taken}
use Rattle.device_requests.specs.Request.{outcome_by, outcome_for, request_of}
use Rattle.device_requests.specs.Targets.{definition_at, exists, is_multiple, is_resource, place_of, resource_place}
use Rattle.device_requests.specs.Targets.{resources_defined}
use Rattle.device_requests.specs.Write.{after_write_with_event, event_of, exceeds, given_to_part, given_to_resource}
use Rattle.device_requests.specs.Write.{mode_at, new_values, resource_excess, values_given, write_unless}
use Rattle.device_requests.specs.WriteAttributes.{annotate_unless, attributes_given}
use Rattle.device_requests.proofs.Reading.{said}
use Rattle.laws_requests.specs.Unread.{AnswersHideUnread, DiffersUnread, asks_firmware, is_package}
use Rattle.device_requests.proofs.Depending.{read_by, same_instance, same_list}
use Rattle.device_requests.proofs.Hiding.{same_map}
use Rattle.laws_requests.proofs.Differing.{instance_below, resource_below, same_below, same_excess, same_excesses}
use Rattle.laws_requests.proofs.Differing.{same_exists, same_parts, same_reads, same_rights, same_target}

there : (client : Client) (stored : Stored) (server : ℕ) → DiffersUnread client stored server
    → (path : Path) → exists client.catalog stored path ≡ exists client.catalog client.store path
there client stored server h path =
    same_exists client.catalog stored client.store h.instances h.places path

-- ---- Read

unread : (a b : Bool) (lines others : List (Bool × Ruling)) (answer other : Answer)
    → refused_or (first_line ((a, rule.Security) ∷ (b, rule.Target) ∷ (true, rule.Right) ∷ lines)) answer
    ≡ refused_or (first_line ((a, rule.Security) ∷ (b, rule.Target) ∷ (true, rule.Right) ∷ others)) other
unread true b lines others answer other = refl
unread false true lines others answer other = refl
unread false false lines others answer other = refl

-- what refuses a Read that its server may make
abbrev lines_behind : Client → Path → Option ℕ → List ℕ → List (Bool × Ruling)
lines_behind client path accept payload =
    (not (can_be_read client.catalog path), rule.Operation)
    ∷ (not (is_some (format_at client.catalog path accept)), rule.Accept)
    ∷ (is_oversized payload, rule.Limit) ∷ []

hidden_by : (client : Client) (path : Path) (accept : Option ℕ) (e may : Bool) (new old : List ℕ)
    → (may ≡ true → new ≡ old) → read_by client path accept e may new ≡ read_by client path accept e may old
hidden_by client path accept e true new old h = ap (read_by client path accept e true) (h refl)
hidden_by client path accept e false new old h =
    let format = format_at client.catalog path accept in
    unread (object_in path == 0) (not e) (lines_behind client path accept new) (lines_behind client path accept old)
    (content_in format new) (content_in format old)

abbrev shown_by : List ResourceDef → Pairs → List ℕ
shown_by resources es = shortest_tlv (nodes_of (filter (λ e. is_shown resources e.0) es))

same_object : (client : Client) (stored : Stored) (server o : ℕ) (format : Format) → DiffersUnread client stored server
    → payload_in (with_stored client stored) server (Object o) format ≡ payload_in client server (Object o) format
same_object client stored server o format h =
    let resources = resources_defined client.catalog o in
    let p = reads client.store (length client.accounts) server o in
    let new = instance_node stored resources o in
    let old = instance_node client.store resources o in
    let lists : shown_instances stored (length client.accounts) server o
    ≡ shown_instances client.store (length client.accounts) server o =
    λ j. filter (λ i. same_reads client stored server o i h j) (same_list stored client.store o h.instances j) in
    ap (λ (ns : List ℕ). shortest_tlv (trees_of_list (map new ns))) lists
    ∙ ap (λ (ts : List Tree). shortest_tlv (trees_of_list ts))
    (same_map p new old (λ i may. ap (λ (es : Pairs). instance i (nodes_of (filter (λ e. is_shown resources e.0) es)))
    (same_below client stored server (Instance o i) o i h (instance_below o i) may)) (instances_of client.store o))

same_resource : (client : Client) (stored : Stored) (server o i r : ℕ) (format : Format)
    → DiffersUnread client stored server → reads client.store (length client.accounts) server o i ≡ true
    → payload_in (with_stored client stored) server (Resource o i r) format
    ≡ payload_in client server (Resource o i r) format
same_resource client stored server o i r format h may =
    let resources = resources_defined client.catalog o in
    let path = Resource o i r in
    let all = same_below client stored server path o i h (resource_below o i r) may in
    let one = h.values (single_of (resource_place o i r)) may in
    λ j. if is_multiple (definition_of client.catalog o r)
    then shown_by resources (all j) else one_payload format (single r) (one j)

same_payload : (client : Client) (stored : Stored) (server : ℕ) (path : Path) (format : Format)
    → DiffersUnread client stored server → may_read client server path ≡ true
    → payload_in (with_stored client stored) server path format ≡ payload_in client server path format
same_payload client stored server (Object o) format h may = same_object client stored server o format h
same_payload client stored server (Instance o i) format h may =
    ap (λ (es : Pairs). shown_by (resources_defined client.catalog o) es)
    (same_below client stored server (Instance o i) o i h (instance_below o i) may)
same_payload client stored server (Resource o i r) format h may =
    same_resource client stored server o i r format h may
same_payload client stored server (Part o i r n) format h may =
    ap (one_payload format (part n)) (h.values (part_of (resource_place o i r) n) may)

same_may : (client : Client) (stored : Stored) (server : ℕ) (path : Path) → DiffersUnread client stored server
    → may_read (with_stored client stored) server path ≡ may_read client server path
same_may client stored server (Object o) h =
    λ j. length (same_list stored client.store o h.instances j) == 0
    || list_any (λ i. same_reads client stored server o i h j) (same_list stored client.store o h.instances j)
same_may client stored server (Instance o i) h = same_reads client stored server o i h
same_may client stored server (Resource o i r) h = same_reads client stored server o i h
same_may client stored server (Part o i r n) h = same_reads client stored server o i h

pub same_read : (client : Client) (stored : Stored) (server : ℕ) (path : Path) (accept : Option ℕ)
    → DiffersUnread client stored server
    → read_answer (with_stored client stored) server path accept ≡ read_answer client server path accept
same_read client stored server path accept h =
    let new = read_payload (with_stored client stored) server path accept in
    let old = read_payload client server path accept in
    let e = exists client.catalog client.store path in
    ap (λ (t : Bool × Bool). read_by client path accept t.0 t.1 new)
    (λ j. (there client stored server h path j, same_may client stored server path h j))
    ∙ hidden_by client path accept e (may_read client server path) new old (λ may.
    ap (λ (f : Format → List ℕ). unwrap_or (option_map f (format_at client.catalog path accept)) [])
    (λ j format. same_payload client stored server path format h may j))

-- ---- Discover

same_below_path : (client : Client) (stored : Stored) (server : ℕ) (path : Path) → DiffersUnread client stored server
    → paths_below client.catalog stored path ≡ paths_below client.catalog client.store path
same_below_path client stored server (Object o) h =
    λ j. flat_map (λ i. Instance o i
    ∷ filter (λ p. there client stored server h p j)
    (map (λ d. Resource o i d.id) (resources_defined client.catalog o)))
    (same_list stored client.store o h.instances j)
same_below_path client stored server (Instance o i) h =
    λ j. filter (λ p. there client stored server h p j)
    (map (λ d. Resource o i d.id) (resources_defined client.catalog o))
same_below_path client stored server (Resource o i r) h = refl
same_below_path client stored server (Part o i r n) h = refl

same_dimension : (client : Client) (stored : Stored) (server : ℕ) (path : Path) → DiffersUnread client stored server
    → dimension client.catalog stored path ≡ dimension client.catalog client.store path
same_dimension client stored server (Object o) h = refl
same_dimension client stored server (Instance o i) h = refl
same_dimension client stored server (Resource o i r) h =
    ap (λ (f : ResourcePath → List ℕ). if is_multiple (definition_of client.catalog o r)
    then length (f (resource_place o i r)) else 0) (same_parts stored client.store h.places)
same_dimension client stored server (Part o i r n) h = refl

abbrev link_by : Client → ℕ → (Path → ℕ) → Bool → Path → List ℕ
link_by client server sizes inherits path =
    60 ∷ path_text path ++ 62 ∷ (dimension_text (sizes path) ++ attributes_text client.attributes server inherits path)

abbrev links_by : Client → ℕ → Path → (Path → ℕ) → List Path → List ℕ
links_by client server path sizes others =
    link_by client server sizes (inherits_at path) path
    ++ flat_map (λ p. 44 ∷ link_by client server sizes false p) others

abbrev discover_by : Path → Bool → List ℕ → Answer
discover_by path exists_there payload =
    refused_or (first_line ((object_in path == 0, rule.Security) ∷ (not exists_there, rule.Target)
    ∷ (is_oversized payload, rule.Limit) ∷ [])) (content link_format payload)

same_discover : (client : Client) (stored : Stored) (server : ℕ) (path : Path) → DiffersUnread client stored server
    → discover_answer (with_stored client stored) server path ≡ discover_answer client server path
same_discover client stored server path h =
    let payload : discover_payload (with_stored client stored) server path ≡ discover_payload client server path =
    λ j. links_by client server path (λ p. same_dimension client stored server p h j)
    (same_below_path client stored server path h j) in
    λ j. discover_by path (there client stored server h path j) (payload j)

-- ---- Write

abbrev says : Ruling → Option Ruling → Answer
says good None = bare good
says good (Some ruling) = bare ruling

write_says : (ruling : Option Ruling) (client : Client) (stored : Stored)
    → (write_unless ruling client stored).answer ≡ says rule.Changed ruling
write_says None client stored = refl
write_says (Some ruling) client stored = refl

neither : {X : Type 0} (a b : Bool) (x y : Option X) → (a || b) ≡ false
    → (if a then x else (if b then y else None)) ≡ None
neither false false x y h = refl
neither false true x y h = cc
neither true b x y h = cc

-- what a Write gives at a resource, to the firmware
event_at_resource : (client : Client) (o i r : ℕ) (payload : List ℕ) (f : Format)
    (given : Result Given PayloadFault)
    → given_to_resource (definition_of client.catalog o r) f payload ≡ given
    → is_package (Resource o i r) ≡ false
    → event_of (Resource o i r) (values_given client.catalog (Resource o i r) payload f) ≡ None
event_at_resource client o i r payload f (Err e) is h = rw is refl
event_at_resource client o i r payload f (Ok given) is h =
    rw is (neither (o == 5 && r == 0) (o == 5 && r == 1) _ _ h)

event_by : (client : Client) (o i r : ℕ) (payload : List ℕ) (format : Option Format)
    → is_package (Resource o i r) ≡ false
    → event_of (Resource o i r)
    (option_and_then (values_given client.catalog (Resource o i r) payload) format) ≡ None
event_by client o i r payload None h = refl
event_by client o i r payload (Some f) h =
    event_at_resource client o i r payload f (given_to_resource (definition_of client.catalog o r) f payload) refl h

no_event : (client : Client) (path : Path) (number : Option ℕ) (payload : List ℕ) → is_package path ≡ false
    → event_of path (new_values client path number payload) ≡ None
no_event client (Object o) number payload h =
    elim (new_values client (Object o) number payload) as (λ v. event_of (Object o) v ≡ None) [
      | None ↦ refl
      | Some v ↦ refl
    ]
no_event client (Instance o i) number payload h =
    elim (new_values client (Instance o i) number payload) as (λ v. event_of (Instance o i) v ≡ None) [
      | None ↦ refl
      | Some v ↦ refl
    ]
no_event client (Resource o i r) number payload h =
    event_by client o i r payload (format_at client.catalog (Resource o i r) number) h
no_event client (Part o i r n) number payload h =
    elim (new_values client (Part o i r n) number payload) as (λ v. event_of (Part o i r n) v ≡ None) [
      | None ↦ refl
      | Some v ↦ refl
    ]

is_mapped : {X Y : Type 0} (f : X → Y) (x : Option X) → is_some (option_map f x) ≡ is_some x
is_mapped f None = refl
is_mapped f (Some x) = refl

same_turn : (client : Client) (stored : Stored) (server : ℕ) (e : FirmwareEvent) → DiffersUnread client stored server
    → reads client.store (length client.accounts) server 5 0 ≡ true
    → is_some (firmware_after stored e) ≡ is_some (firmware_after client.store e)
same_turn client stored server e h may =
    let state = h.values (single_of (firmware_resource 3)) may in
    let outcome : outcome_in stored e ≡ outcome_in client.store e =
    λ j. if same_instance stored client.store firmware h.instances j then next_from e (state_as (state j)) else None in
    is_mapped (with_outcome (with_uri stored (uri_of e))) (outcome_in stored e)
    ∙ (λ j. is_some (outcome j))
    ∙ sym (is_mapped (with_outcome (with_uri client.store (uri_of e))) (outcome_in client.store e))

-- whether what a Write gives is too much, by the format
abbrev exceeds_by : Client → Stored → Mode → Path → List ℕ → Option Format → Bool
exceeds_by client stored mode path payload format =
    exceeds mode client.catalog stored path (option_and_then (values_given client.catalog path payload) format)

exceeds_instance : (client : Client) (stored : Stored) (server : ℕ) (mode : Mode) (o i : ℕ) (payload : List ℕ)
    (f : Format) (given : Result (List Assignment) PayloadFault) → DiffersUnread client stored server
    → instance_given (resources_defined client.catalog o) i payload ≡ given
    → exceeds_by client stored mode (Instance o i) payload (Some f)
    ≡ exceeds_by client client.store mode (Instance o i) payload (Some f)
exceeds_instance client stored server mode o i payload f (Err e) h is = rw is refl
exceeds_instance client stored server mode o i payload f (Ok given) h is =
    rw is (ap is_some
    (same_excesses mode (resources_defined client.catalog o) stored client.store (place_of o i) given h.places))

same_exceeding_at : (client : Client) (stored : Stored) (server : ℕ) (mode : Mode) (o i r : ℕ) (given : Given)
    → DiffersUnread client stored server
    → is_some (resource_excess mode (definition_of client.catalog o r) stored (resource_place o i r) given)
    ≡ is_some (resource_excess mode (definition_of client.catalog o r) client.store (resource_place o i r) given)
same_exceeding_at client stored server mode o i r given h =
    let excess : ℕ → Excess = λ n. record { resource = r; count = n } in
    ap (λ (count : Option ℕ). is_some (if is_kept_as (definition_of client.catalog o r) then option_map excess count
    else None))
    (same_excess mode stored client.store (resource_place o i r) given h.places)

exceeds_resource : (client : Client) (stored : Stored) (server : ℕ) (mode : Mode) (o i r : ℕ) (payload : List ℕ)
    (f : Format) (given : Result Given PayloadFault) → DiffersUnread client stored server
    → given_to_resource (definition_of client.catalog o r) f payload ≡ given
    → exceeds_by client stored mode (Resource o i r) payload (Some f)
    ≡ exceeds_by client client.store mode (Resource o i r) payload (Some f)
exceeds_resource client stored server mode o i r payload f (Err e) h is = rw is refl
exceeds_resource client stored server mode o i r payload f (Ok given) h is =
    rw is (same_exceeding_at client stored server mode o i r given h)

exceeds_part : (client : Client) (stored : Stored) (server : ℕ) (mode : Mode) (o i r n : ℕ) (payload : List ℕ)
    (f : Format) (given : Result Given PayloadFault) → DiffersUnread client stored server
    → given_to_part (definition_of client.catalog o r) n f payload ≡ given
    → exceeds_by client stored mode (Part o i r n) payload (Some f)
    ≡ exceeds_by client client.store mode (Part o i r n) payload (Some f)
exceeds_part client stored server mode o i r n payload f (Err e) h is = rw is refl
exceeds_part client stored server mode o i r n payload f (Ok given) h is =
    rw is (same_exceeding_at client stored server mode o i r given h)

same_exceeding : (client : Client) (stored : Stored) (server : ℕ) (mode : Mode) (path : Path) (payload : List ℕ)
    (format : Option Format) → DiffersUnread client stored server
    → exceeds_by client stored mode path payload format ≡ exceeds_by client client.store mode path payload format
same_exceeding client stored server mode path payload None h = refl
same_exceeding client stored server mode (Object o) payload (Some f) h = refl
same_exceeding client stored server mode (Instance o i) payload (Some f) h =
    exceeds_instance client stored server mode o i payload f
    (instance_given (resources_defined client.catalog o) i payload) h
    refl
same_exceeding client stored server mode (Resource o i r) payload (Some f) h =
    exceeds_resource client stored server mode o i r payload f
    (given_to_resource (definition_of client.catalog o r) f payload) h refl
same_exceeding client stored server mode (Part o i r n) payload (Some f) h =
    exceeds_part client stored server mode o i r n payload f
    (given_to_part (definition_of client.catalog o r) n f payload) h refl

-- the firmware decides nothing, or what it decides by can be read
abbrev IsSeen : Client → ℕ → Bool → Type 0
IsSeen client server asks = (asks ≡ false) ⊎ (reads client.store (length client.accounts) server 5 0 ≡ true)

same_refused : (client : Client) (stored : Stored) (server : ℕ) (e : Option FirmwareEvent)
    → DiffersUnread client stored server → (e ≡ None) ⊎ (reads client.store (length client.accounts) server 5 0 ≡ true)
    → is_refused_now stored e ≡ is_refused_now client.store e
same_refused client stored server None h seen = refl
same_refused client stored server (Some e) h (inl never) = cc
same_refused client stored server (Some e) h (inr may) = ap not (same_turn client stored server e h may)

event_seen : (client : Client) (server : ℕ) (path : Path) (number : Option ℕ) (payload : List ℕ)
    → IsSeen client server (is_package path)
    → (event_of path (new_values client path number payload) ≡ None)
    ⊎ (reads client.store (length client.accounts) server 5 0 ≡ true)
event_seen client server path number payload (inl never) = inl (no_event client path number payload never)
event_seen client server path number payload (inr may) = inr may

write_answers : (client : Client) (server : ℕ) (mode : Mode) (path : Path) (number : Option ℕ) (payload : List ℕ)
    → (write_outcome client server mode path number payload).answer
    ≡ says rule.Changed (refusal_of client server path (to_write mode number payload))
write_answers client server mode path number payload =
    let values = new_values client path number payload in
    write_says (refusal_of client server path (to_write mode number payload)) client
    (after_write_with_event (mode_at mode path) client path values (event_of path values))

same_write : (client : Client) (stored : Stored) (server : ℕ) (mode : Mode) (path : Path) (number : Option ℕ)
    (payload : List ℕ) → DiffersUnread client stored server → IsSeen client server (is_package path)
    → (write_outcome (with_stored client stored) server mode path number payload).answer
    ≡ (write_outcome client server mode path number payload).answer
same_write client stored server mode path number payload h seen =
    let values = new_values client path number payload in
    let event = event_of path values in
    let refused = same_refused client stored server event h (event_seen client server path number payload seen) in
    let much = same_exceeding client stored server (mode_at mode path) path payload
    (format_at client.catalog path number) h in
    let target = same_target client.catalog stored client.store h.instances path in
    let rights = same_rights client stored server path h in
    write_answers (with_stored client stored) server mode path number payload
    ∙ (λ j. says rule.Changed (first_line (
    (object_in path == 0, rule.Security)
    ∷ (not (target j), rule.Target)
    ∷ (not (rights j).write, rule.Right)
    ∷ (not (can_be_written client.catalog path), rule.Operation)
    ∷ (not (is_some (format_at client.catalog path number)), rule.ContentFormat)
    ∷ (not (is_some values), rule.Payload)
    ∷ (refused j, rule.State)
    ∷ (unless_taken event (much j), rule.Limit) ∷ [])))
    ∙ sym (write_answers client server mode path number payload)

-- ---- Create

free_alike : (s t : Stored) (o : ℕ) → s.instances ≡ t.instances → is_free s o ≡ is_free t o
free_alike s t o h = λ j n. not (same_instance s t (instance_at o n) h j)

same_number_for : (s t : Stored) (o : ℕ) (n : Option ℕ) → s.instances ≡ t.instances
    → number_for s o n ≡ number_for t o n
same_number_for s t o None h = ap (λ (f : ℕ → Bool). find f (numbers_below 65535)) (free_alike s t o h)
same_number_for s t o (Some n) h =
    ap (λ (b : Bool). if n == 65535 || b then None else Some n) (same_instance s t (instance_at o n) h)

same_numbered : (s t : Stored) (o : ℕ) (c : Result Creation PayloadFault) → s.instances ≡ t.instances
    → result_ok (newborn_from s o c) ≡ result_ok (newborn_from t o c)
same_numbered s t o (Err e) h = refl
same_numbered s t o (Ok c) h =
    ap (λ (r : Option ℕ). result_ok (result_map (λ n. record { number = n; given = c.assigned })
    (ok_or r (number_fault c.number)))) (same_number_for s t o c.number h)

same_full : (s t : Stored) (o : ℕ) → s.instances ≡ t.instances → full_count s o ≡ full_count t o
same_full s t o h =
    ap (λ (ns : List ℕ). if nat_le 64 (length ns) then Some (length ns) else None) (same_list s t o h)

abbrev lack_by : ℕ → Option ℕ → Option Excess → Option ℕ → Option NoRoom
lack_by accounts full excess controls =
    option_or (option_map (λ n. no_room.Instances n) full)
    (option_or (option_map (λ e. no_room.Parts e.resource e.count) excess)
    (if nat_le 2 accounts then option_map (λ n. no_room.Controls n) controls else None))

same_room : (client : Client) (stored : Stored) (server o : ℕ) (new : Option Newborn)
    → DiffersUnread client stored server
    → lacks_room (with_stored client stored) o new ≡ lacks_room client o new
same_room client stored server o None h = refl
same_room client stored server o (Some b) h =
    let excess = same_excesses Replace (resources_defined client.catalog o) stored client.store
    (place_of o b.number) b.given
    h.places in
    λ j. is_some (lack_by (length client.accounts) (same_full stored client.store o h.instances j) (excess j)
    (same_full stored client.store 2 h.instances j))

abbrev says_created : ℕ → Option Newborn → Option Ruling → Answer
says_created o new (Some ruling) = bare ruling
says_created o None None = bare rule.Payload
says_created o (Some b) None = created_answer (place_of o b.number)

create_says : (ruling : Option Ruling) (client : Client) (server o : ℕ) (new : Option Newborn)
    → (create_unless ruling client server o new).answer ≡ says_created o new ruling
create_says None client server o None = refl
create_says None client server o (Some b) = refl
create_says (Some ruling) client server o new = refl

abbrev create_by : Client → Path → Option ℕ → Bool → Bool → Option Newborn → Bool → Answer
create_by client path number exists_there may new crowded =
    says_created (object_in path) new (first_line (
    (object_in path == 0, rule.Security)
    ∷ (not exists_there, rule.Target)
    ∷ (not may, rule.Right)
    ∷ (is_fixed (object_in path), rule.Operation)
    ∷ (not (is_tlv number), rule.ContentFormat)
    ∷ (not (is_some new), rule.Payload)
    ∷ (crowded, rule.Limit) ∷ []))

create_answers : (client : Client) (server : ℕ) (path : Path) (number : Option ℕ) (payload : List ℕ)
    → (create_outcome client server path number payload).answer
    ≡ says_created (object_in path) (newborn client (object_in path) payload)
    (refusal_of client server path (to_create number payload))
create_answers client server path number payload =
    create_says (refusal_of client server path (to_create number payload)) client server (object_in path)
    (newborn client (object_in path) payload)

same_create : (client : Client) (stored : Stored) (server : ℕ) (path : Path) (number : Option ℕ) (payload : List ℕ)
    → DiffersUnread client stored server
    → (create_outcome (with_stored client stored) server path number payload).answer
    ≡ (create_outcome client server path number payload).answer
same_create client stored server path number payload h =
    let o = object_in path in
    let rights = same_rights client stored server path h in
    let new = same_numbered stored client.store o
    (creation_given (resources_defined client.catalog o) payload) h.instances in
    create_answers (with_stored client stored) server path number payload
    ∙ (λ j. create_by client path number (there client stored server h path j) (rights j).create (new j)
    (lacks_room (with_stored client stored) o (new j)))
    ∙ ap (create_by client path number (exists client.catalog client.store path)
    (rights_at client.store (length client.accounts) server path).create (newborn client o payload))
    (same_room client stored server o (newborn client o payload) h)
    ∙ sym (create_answers client server path number payload)

-- ---- Delete, Execute, Write-Attributes

delete_says : (ruling : Option Ruling) (client : Client) (path : Path)
    → (delete_unless ruling client path).answer ≡ says rule.Deleted ruling
delete_says None client path = refl
delete_says (Some ruling) client path = refl

same_delete : (client : Client) (stored : Stored) (server : ℕ) (path : Path) → DiffersUnread client stored server
    → (delete_outcome (with_stored client stored) server path).answer ≡ (delete_outcome client server path).answer
same_delete client stored server path h =
    let rights = same_rights client stored server path h in
    delete_says (refusal_of (with_stored client stored) server path to_delete) (with_stored client stored) path
    ∙ (λ j. says rule.Deleted (first_line (
    (object_in path == 0, rule.Security)
    ∷ (not (there client stored server h path j), rule.Target)
    ∷ (not (rights j).delete, rule.Right)
    ∷ (is_fixed (object_in path), rule.Operation) ∷ [])))
    ∙ sym (delete_says (refusal_of client server path to_delete) client path)

abbrev says_done : Path → Option Ruling → Answer
says_done path None = done_answer (act_of path)
says_done path (Some ruling) = bare ruling

execute_says : (ruling : Option Ruling) (client : Client) (path : Path)
    → (execute_unless ruling client path).answer ≡ says_done path ruling
execute_says None client path = refl
execute_says (Some ruling) client path = refl

same_time : (client : Client) (stored : Stored) (server : ℕ) (path : Path) → DiffersUnread client stored server
    → IsSeen client server (is_resource 5 2 path) → is_untimely stored path ≡ is_untimely client.store path
same_time client stored server path h (inl never) =
    ap (λ (b : Bool). b && not (is_some (firmware_after stored event.Update))) never
    ∙ sym (ap (λ (b : Bool). b && not (is_some (firmware_after client.store event.Update))) never)
same_time client stored server path h (inr may) =
    ap (λ (b : Bool). is_resource 5 2 path && not b) (same_turn client stored server event.Update h may)

same_execute : (client : Client) (stored : Stored) (server : ℕ) (path : Path) (number : Option ℕ) (payload : List ℕ)
    → DiffersUnread client stored server → IsSeen client server (is_resource 5 2 path)
    → (execute_outcome (with_stored client stored) server path number payload).answer
    ≡ (execute_outcome client server path number payload).answer
same_execute client stored server path number payload h seen =
    let rights = same_rights client stored server path h in
    let time = same_time client stored server path h seen in
    execute_says (refusal_of (with_stored client stored) server path (to_execute number payload))
    (with_stored client stored) path
    ∙ (λ j. says_done path (first_line (
    (object_in path == 0, rule.Security)
    ∷ (not (there client stored server h path j), rule.Target)
    ∷ (not (rights j).execute, rule.Right)
    ∷ (not (is_executable (definition_at client.catalog path)), rule.Operation)
    ∷ (not (is_plain number), rule.ContentFormat)
    ∷ (not (are_arguments payload), rule.Payload)
    ∷ (time j, rule.State) ∷ [])))
    ∙ sym (execute_says (refusal_of client server path (to_execute number payload)) client path)

abbrev says_changed : Option Numbers → Option Ruling → Answer
says_changed given (Some ruling) = bare ruling
says_changed None None = bare rule.Payload
says_changed (Some m) None = bare rule.Changed

annotate_says : (ruling : Option Ruling) (client : Client) (given : Option Numbers)
    → (annotate_unless ruling client given).answer ≡ says_changed given ruling
annotate_says None client None = refl
annotate_says None client (Some m) = refl
annotate_says (Some ruling) client given = refl

same_annotate : (client : Client) (stored : Stored) (server : ℕ) (path : Path) (queries : List (List ℕ))
    → DiffersUnread client stored server
    → (attributes_outcome (with_stored client stored) server path queries).answer
    ≡ (attributes_outcome client server path queries).answer
same_annotate client stored server path queries h =
    let rights = same_rights client stored server path h in
    let given = attributes_given client server path queries in
    annotate_says (refusal_of (with_stored client stored) server path (to_write_attributes queries))
    (with_stored client stored) given
    ∙ (λ j. says_changed given (first_line (
    (object_in path == 0, rule.Security)
    ∷ (not (there client stored server h path j), rule.Target)
    ∷ (not (annotates_at (rights j) path), rule.Right)
    ∷ (not (is_some given), rule.Payload) ∷ [])))
    ∙ sym (annotate_says (refusal_of client server path (to_write_attributes queries)) client given)

-- ---- every request

same_by : (client : Client) (stored : Stored) (server : ℕ) (m : Message) (r : Request) (operation : Operation)
    → DiffersUnread client stored server → IsSeen client server (asks_firmware r.path operation)
    → (outcome_by (with_stored client stored) server m r operation).answer
    ≡ (outcome_by client server m r operation).answer
same_by client stored server m r Read h seen = same_read client stored server r.path r.accept h
same_by client stored server m r Discover h seen = same_discover client stored server r.path h
same_by client stored server m r WriteReplace h seen =
    same_write client stored server Replace r.path r.content_format m.payload h seen
same_by client stored server m r WritePartial h seen =
    same_write client stored server Update r.path r.content_format m.payload h seen
same_by client stored server m r WriteAttributes h seen =
    same_annotate client stored server r.path (queries_of m.options) h
same_by client stored server m r Create h seen =
    same_create client stored server r.path r.content_format m.payload h
same_by client stored server m r Execute h seen =
    same_execute client stored server r.path r.content_format m.payload h seen
same_by client stored server m r Delete h seen = same_delete client stored server r.path h

answered_for : (client : Client) (stored : Stored) (server : ℕ) (m : Message) (asked : Result Request Ruling)
    → request_of m ≡ asked → DiffersUnread client stored server
    → ((path : Path) (operation : Operation) → Asks m path operation
    → IsSeen client server (asks_firmware path operation))
    → (outcome_for (with_stored client stored) server m asked).answer ≡ (outcome_for client server m asked).answer
answered_for client stored server m (Err ruling) is h seen = refl
answered_for client stored server m (Ok r) is h seen =
    let a = (said m r).0 is in
    same_by client stored server m r r.operation h
    (seen r.path r.operation (record { understood = a.understood; goes_to = a.path; means = a.operation }))

pub answers_hide : AnswersHideUnread
answers_hide client stored server m h seen = answered_for client stored server m (request_of m) refl h seen
