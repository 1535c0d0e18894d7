-- The answer to a Read (OMA LwM2M 1.1 Core). A notification is the same answer.
use Rattle.std.specs.Prelude.{ℕ, List, [], length, Option, None, Some, option_map, if◌then◌else◌}
use Rattle.std.specs.Option.{unwrap_or}
use Rattle.lwm2m_values.specs.Tlv.{shortest_tlv}
use Rattle.lwm2m_values.specs.Tree.{Tree, part, single}
use Rattle.lwm2m_values.specs.declared.value.Value.{Value}
use Rattle.object_defs.specs.Catalog.{definition_of}
use Rattle.object_defs.specs.Path.{single_of, part_of}
use Rattle.object_defs.specs.declared.definition.ObjectDef.{ObjectDef}
use Rattle.object_defs.specs.declared.path.Path.{Path}
use Rattle.object_defs.specs.declared.path.Path.TheVariants.{Object, Instance, Resource, Part}
use Rattle.instance_store.specs.Stored.{value_at}
use Rattle.lwm2m_payloads.specs.declared.format.Format.{Format}
use Rattle.lwm2m_payloads.specs.Formats.{format_number, extent_of, format_for}
use Rattle.lwm2m_payloads.specs.Nodes.{shown_in, nodes_of, object_nodes, value_payload}
use Rattle.device_requests.specs.declared.answer.Answer.{Answer}
use Rattle.device_requests.specs.declared.ruling.Ruling.TheVariants.{Accept}
use Rattle.device_requests.specs.Access.{shown_instances}
use Rattle.device_requests.specs.Answer.{bare, content}
use Rattle.device_requests.specs.Client.{Client}
use Rattle.device_requests.specs.Targets.{definition_at, is_multiple, resource_place, resources_defined}

-- the format of this number at the path, or the default one without a number, where it is served there
abbrev pub format_at : List ObjectDef → Path → Option ℕ → Option Format
format_at catalog path number = format_for (extent_of path (definition_at catalog path)) number

-- what is held at or below the path and can be read, as TLV
abbrev pub values_payload : Client → ℕ → Path → List ℕ
values_payload client o path = shortest_tlv (nodes_of (shown_in client.store (resources_defined client.catalog o) path))

-- an Object Instance for each instance on which the server has R, also for one that shows nothing
abbrev pub object_payload : Client → ℕ → ℕ → List ℕ
object_payload client server o =
    shortest_tlv (object_nodes client.store (resources_defined client.catalog o) o
    (shown_instances client.store (length client.accounts) server o))

-- one value in a format, where it is there
abbrev pub one_payload : Format → (List ℕ → Tree) → Option Value → List ℕ
one_payload format record_of None = []
one_payload format record_of (Some value) = value_payload format record_of value

-- what a server is shown in a format: a multiple resource whole, a single one by its value
abbrev pub payload_in : Client → ℕ → Path → Format → List ℕ
payload_in client server (Object o) format = object_payload client server o
payload_in client server (Instance o i) format = values_payload client o (Instance o i)
payload_in client server (Resource o i r) format =
    if is_multiple (definition_of client.catalog o r) then values_payload client o (Resource o i r)
    else one_payload format (single r) (value_at client.store (single_of (resource_place o i r)))
payload_in client server (Part o i r n) format =
    one_payload format (part n) (value_at client.store (part_of (resource_place o i r) n))

-- what a server is shown in the format that Accept names, where that is served
abbrev pub read_payload : Client → ℕ → Path → Option ℕ → List ℕ
read_payload client server path accept =
    unwrap_or (option_map (payload_in client server path) (format_at client.catalog path accept)) []

-- a payload with its format
abbrev pub content_in : Option Format → List ℕ → Answer
content_in None payload = bare Accept
content_in (Some format) payload = content (format_number format) payload
