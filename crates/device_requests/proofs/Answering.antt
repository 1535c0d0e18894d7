-- A request is answered by the first rule that holds.
use Rattle.std.proofs.Common.{◌≡◌, ℕ, Bool, true, false, not, cond, ◌==◌, List, [], ◌∷◌, ◌++◌, Option, None, Some}
use Rattle.std.proofs.Common.{is_some, Result, Err, refl, ap, ◌∙◌}
use Rattle.std.specs.Bool.{if◌then◌else◌}
use Rattle.std.specs.Option.{unwrap_or}
use Rattle.coap_codec.specs.Message.{Message}
use Rattle.instance_store.specs.Stored.{Stored}
use Rattle.object_defs.specs.Path.{object_in}
use Rattle.object_defs.specs.declared.path.Path.{Path}
use Rattle.lwm2m_payloads.specs.declared.format.Format.{Format}
use Rattle.lwm2m_payloads.specs.declared.given.Mode.{Mode}
use Rattle.lwm2m_payloads.specs.declared.given.Mode.TheVariants.{Replace, Update}
use Rattle.device_requests.specs.declared.answer.Answer.{Answer}
use Rattle.device_requests.specs.declared.operation.Operation.{Operation}
use Rattle.device_requests.specs.declared.operation.Operation.TheVariants.{Read, Discover, WriteAttributes}
use Rattle.device_requests.specs.declared.operation.Operation.TheVariants.{WriteReplace, WritePartial, Create, Execute}
use Rattle.device_requests.specs.declared.operation.Operation.TheVariants.{Delete}
use Rattle.device_requests.specs.declared.request.Request.{Request}
use Rattle.notifier.specs.Attributes.{Numbers}
use Rattle.device_requests.specs.WriteAttributes.{annotate_unless, attributes_given}
use Rattle.device_requests.specs.Answer.{content, refused_or}
use Rattle.object_defs.specs.Lines.{first_line}
use Rattle.device_requests.specs.declared.create.Newborn.{Newborn}
use Rattle.device_requests.specs.declared.ruling.Ruling.{Ruling}
use Rattle.device_requests.specs.declared.ruling.Ruling.TheVariants as rule
use Rattle.device_requests.specs.Create.{create_unless, lacks_room, newborn}
use Rattle.device_requests.specs.Targets.{exists}
use Rattle.device_requests.specs.Delete.{delete_unless}
use Rattle.device_requests.specs.Execute.{execute_unless}
use Rattle.device_requests.specs.Discover.{discover_payload}
use Rattle.device_requests.specs.Operation.{operation_of}
use Rattle.device_requests.specs.Options.{accept_of, content_format_of, has_query, has_unrecognized_critical}
use Rattle.device_requests.specs.Options.{queries_of, segments_of, path_of}
use Rattle.device_requests.specs.Read.{content_in, format_at, read_payload}
use Rattle.device_requests.specs.Outcomes.{discover_answer, write_outcome}
use Rattle.device_requests.specs.Refusals.{can_be_read, is_fixed, is_oversized, is_tlv, may_annotate, refusal_of}
use Rattle.device_requests.specs.Refusals.{refusals_of, rules_of, to_delete, to_discover, to_execute, to_write}
use Rattle.device_requests.specs.Request.{outcome_at, outcome_for, outcome_of, purpose_of, request_by, request_on}
use Rattle.device_requests.specs.Request.{request_with}
use Rattle.device_requests.specs.Access.{may_read, rights_on}
use Rattle.device_requests.specs.Write.{after_write_with_event, event_of, mode_at, new_values, write_unless}
use Rattle.device_requests.specs.Client.{Client}
use Rattle.device_requests.specs.Laws.{lines_by, lines_on, request_lines}

-- the answer is that of the first rule that holds
abbrev Says : Answer → List (Bool × Ruling) → Type 0
Says answer lines = first_line lines ≡ Some answer.ruling

-- rules with one after them that always holds
ended : (lines : List (Bool × Ruling)) (last : Ruling) → first_line (lines ++ (true, last) ∷ [])
    ≡ Some (unwrap_or (first_line lines) last)
ended [] last = refl
ended (line ∷ lines) last =
    elim line.0 as (λ b. cond b (Some line.1) (first_line (lines ++ (true, last) ∷ []))
    ≡ Some (unwrap_or (cond b (Some line.1) (first_line lines)) last)) [
      | true ↦ refl
      | false ↦ ended lines last
    ]

read_says : (a b s c long : Bool) (format : Option Format) (payload : List ℕ)
    → let lines : List (Bool × Ruling) =
    (a, rule.Security) ∷ (b, rule.Target) ∷ (s, rule.Right) ∷ (c, rule.Operation)
    ∷ (not (is_some format), rule.Accept) ∷ (long, rule.Limit) ∷ [] in
    Says (refused_or (first_line lines) (content_in format payload)) (lines ++ (true, rule.Content) ∷ [])
read_says true b s c long format payload = refl
read_says false true s c long format payload = refl
read_says false false true c long format payload = refl
read_says false false false true long format payload = refl
read_says false false false false long None payload = refl
read_says false false false false true (Some format) payload = refl
read_says false false false false false (Some format) payload = refl

refused_ruling : (ruling : Option Ruling) (format : ℕ) (payload : List ℕ) → unwrap_or ruling rule.Content
    ≡ (refused_or ruling (content format payload)).ruling
refused_ruling None format payload = refl
refused_ruling (Some ruling) format payload = refl

write_ruling : (ruling : Option Ruling) (client : Client) (stored : Stored) → unwrap_or ruling rule.Changed
    ≡ (write_unless ruling client stored).answer.ruling
write_ruling None client stored = refl
write_ruling (Some ruling) client stored = refl

execute_ruling : (ruling : Option Ruling) (client : Client) (path : Path) → unwrap_or ruling rule.Changed
    ≡ (execute_unless ruling client path).answer.ruling
execute_ruling None client path = refl
execute_ruling (Some ruling) client path = refl

delete_ruling : (ruling : Option Ruling) (client : Client) (path : Path) → unwrap_or ruling rule.Deleted
    ≡ (delete_unless ruling client path).answer.ruling
delete_ruling None client path = refl
delete_ruling (Some ruling) client path = refl

create_says : (a b c d e room : Bool) (client : Client) (server o : ℕ) (new : Option Newborn)
    → let lines : List (Bool × Ruling) =
    (a, rule.Security) ∷ (b, rule.Target) ∷ (c, rule.Right) ∷ (d, rule.Operation) ∷ (e, rule.ContentFormat)
    ∷ (not (is_some new), rule.Payload) ∷ (room, rule.Limit) ∷ [] in
    Says (create_unless (first_line lines) client server o new).answer (lines ++ (true, rule.Created) ∷ [])
create_says true b c d e room client server o new = refl
create_says false true c d e room client server o new = refl
create_says false false true d e room client server o new = refl
create_says false false false true e room client server o new = refl
create_says false false false false true room client server o new = refl
create_says false false false false false room client server o None = refl
create_says false false false false false true client server o (Some n) = refl
create_says false false false false false false client server o (Some n) = refl

attributes_says : (a b c : Bool) (client : Client) (given : Option Numbers)
    → let lines : List (Bool × Ruling) =
    (a, rule.Security) ∷ (b, rule.Target) ∷ (c, rule.Right) ∷ (not (is_some given), rule.Payload) ∷ [] in
    Says (annotate_unless (first_line lines) client given).answer (lines ++ (true, rule.Changed) ∷ [])
attributes_says true b c client given = refl
attributes_says false true c client given = refl
attributes_says false false true client given = refl
attributes_says false false false client None = refl
attributes_says false false false client (Some m) = refl

discover_says : (client : Client) (server : ℕ) (path : Path)
    → Says (discover_answer client server path) (rules_of client server path to_discover)
discover_says client server path =
    ended (refusals_of client server path to_discover) rule.Content
    ∙ ap Some (refused_ruling (refusal_of client server path to_discover) 40 (discover_payload client server path))

write_says : (client : Client) (server : ℕ) (mode : Mode) (path : Path) (number : Option ℕ) (payload : List ℕ)
    → Says (write_outcome client server mode path number payload).answer
    (rules_of client server path (to_write mode number payload))
write_says client server mode path number payload =
    ended (refusals_of client server path (to_write mode number payload)) rule.Changed
    ∙ ap Some (write_ruling (refusal_of client server path (to_write mode number payload)) client
    (after_write_with_event (mode_at mode path) client path (new_values client path number payload)
    (event_of path (new_values client path number payload))))

says_at : (client : Client) (server : ℕ) (m : Message) (path : Path) (operation : Operation)
    → Says (outcome_at client server m (request_with m path operation)).answer
    (rules_of client server path (purpose_of m operation))
says_at client server m path Read =
    read_says (object_in path == 0) (not (exists client.catalog client.store path))
    (not (may_read client server path)) (not (can_be_read client.catalog path))
    (is_oversized (read_payload client server path (accept_of m.options)))
    (format_at client.catalog path (accept_of m.options)) (read_payload client server path (accept_of m.options))
says_at client server m path Discover = discover_says client server path
says_at client server m path WriteAttributes =
    attributes_says (object_in path == 0) (not (exists client.catalog client.store path))
    (not (may_annotate client server path)) client
    (attributes_given client server path (queries_of m.options))
says_at client server m path WriteReplace =
    write_says client server Replace path (content_format_of m.options) m.payload
says_at client server m path WritePartial = write_says client server Update path (content_format_of m.options) m.payload
says_at client server m path Create =
    let o = object_in path in
    let new = newborn client o m.payload in
    create_says (o == 0) (not (exists client.catalog client.store path)) (not (rights_on client server path).create)
    (is_fixed o)
    (not (is_tlv (content_format_of m.options))) (lacks_room client o new) client server o new
says_at client server m path Execute =
    let purpose = to_execute (content_format_of m.options) m.payload in
    ended (refusals_of client server path purpose) rule.Changed
    ∙ ap Some (execute_ruling (refusal_of client server path purpose) client path)
says_at client server m path Delete =
    ended (refusals_of client server path to_delete) rule.Deleted
    ∙ ap Some (delete_ruling (refusal_of client server path to_delete) client path)

says_by : (client : Client) (server : ℕ) (m : Message) (path : Path) (operation : Option Operation)
    → Says (outcome_for client server m (request_by m path operation)).answer
    (lines_by client server m path operation)
says_by client server m path None = refl
says_by client server m path (Some operation) = says_at client server m path operation

says_on : (client : Client) (server : ℕ) (m : Message) (path : Option Path)
    → Says (outcome_for client server m (request_on m path)).answer (lines_on client server m path)
says_on client server m None = refl
says_on client server m (Some path) =
    says_by client server m path (operation_of m.code (accept_of m.options) (has_query m.options) path)

says_if : (b : Bool) (client : Client) (server : ℕ) (m : Message) (request : Result Request Ruling)
    (lines : List (Bool × Ruling)) → Says (outcome_for client server m request).answer lines
    → Says (outcome_for client server m (if b then Err rule.Options else request)).answer ((b, rule.Options) ∷ lines)
says_if true client server m request lines h = refl
says_if false client server m request lines h = h

-- the answer is that of the first rule that holds
pub says : (client : Client) (server : ℕ) (m : Message) → first_line (request_lines client server m)
    ≡ Some (outcome_of client server m).answer.ruling
says client server m =
    let path = path_of (segments_of m.options) in
    says_if (has_unrecognized_critical m.options) client server m (request_on m path)
    (lines_on client server m path) (says_on client server m path)
