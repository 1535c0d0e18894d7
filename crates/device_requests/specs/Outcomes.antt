-- What each operation answers and changes: the first rule of the table that refuses it (`Refusals`) answers its code,
-- and nothing changes; else it is done.
use Rattle.std.specs.Prelude.{ℕ, List, Option}
use Rattle.object_defs.specs.Path.{object_in}
use Rattle.object_defs.specs.declared.path.Path.{Path}
use Rattle.lwm2m_payloads.specs.declared.given.Mode.{Mode}
use Rattle.device_requests.specs.declared.answer.Answer.{Answer}
use Rattle.device_requests.specs.Answer.{Outcome, content, refused_or}
use Rattle.device_requests.specs.Client.{Client}
use Rattle.device_requests.specs.Create.{create_unless, newborn}
use Rattle.device_requests.specs.Delete.{delete_unless}
use Rattle.device_requests.specs.Discover.{discover_payload}
use Rattle.device_requests.specs.Execute.{execute_unless}
use Rattle.device_requests.specs.Operation.{link_format}
use Rattle.device_requests.specs.Read.{content_in, format_at, read_payload}
use Rattle.device_requests.specs.Refusals.{refusal_of, to_create, to_delete, to_discover, to_execute, to_read}
use Rattle.device_requests.specs.Refusals.{to_write, to_write_attributes}
use Rattle.device_requests.specs.Write.{after_write_with_event, event_of, mode_at, new_values, write_unless}
use Rattle.device_requests.specs.WriteAttributes.{annotate_unless, attributes_given}

-- the answer to a Read at a path, with the format that Accept names
abbrev pub read_answer : Client → ℕ → Path → Option ℕ → Answer
read_answer client server path accept =
    refused_or (refusal_of client server path (to_read accept))
    (content_in (format_at client.catalog path accept) (read_payload client server path accept))

-- the answer to a Discover
abbrev pub discover_answer : Client → ℕ → Path → Answer
discover_answer client server path =
    refused_or (refusal_of client server path to_discover) (content link_format (discover_payload client server path))

-- a Write at a path, with the format that Content-Format names
abbrev pub write_outcome : Client → ℕ → Mode → Path → Option ℕ → List ℕ → Outcome
write_outcome client server mode path number payload =
    let values = new_values client path number payload in
    write_unless (refusal_of client server path (to_write mode number payload)) client
    (after_write_with_event (mode_at mode path) client path values (event_of path values))

-- a Write-Attributes at a path
abbrev pub attributes_outcome : Client → ℕ → Path → List (List ℕ) → Outcome
attributes_outcome client server path queries =
    annotate_unless (refusal_of client server path (to_write_attributes queries)) client
    (attributes_given client server path queries)

-- a Create at a path, with the format that Content-Format names
abbrev pub create_outcome : Client → ℕ → Path → Option ℕ → List ℕ → Outcome
create_outcome client server path number payload =
    create_unless (refusal_of client server path (to_create number payload)) client server (object_in path)
    (newborn client (object_in path) payload)

-- an Execute at a path, with the format that Content-Format names
abbrev pub execute_outcome : Client → ℕ → Path → Option ℕ → List ℕ → Outcome
execute_outcome client server path number payload =
    execute_unless (refusal_of client server path (to_execute number payload)) client path

abbrev pub delete_outcome : Client → ℕ → Path → Outcome
delete_outcome client server path = delete_unless (refusal_of client server path to_delete) client path
