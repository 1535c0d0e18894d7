-- What follows from the tables, in the words of the standard.
use Rattle.std.specs.Prelude.{◌≡◌, ◌≢◌, ℕ, ◌==◌, nat_le, Bool, true, false, List, [], ◌∷◌, Option, None, Some, Ok}
use Rattle.std.specs.Prelude.{◌*◌, ◌&&◌, ◌⊎◌, ◌↔◌, if◌then◌else◌}
use Rattle.coap_codec.specs.Message.{Message}
use Rattle.lwm2m_values.specs.Tree.{single}
use Rattle.lwm2m_values.specs.declared.value.Value.{Value}
use Rattle.object_defs.specs.Catalog.{definition_of}
use Rattle.object_defs.specs.Operations.{can_read}
use Rattle.object_defs.specs.declared.definition.ResourceDef.{ResourceDef}
use Rattle.object_defs.specs.declared.path.Path.{Path}
use Rattle.object_defs.specs.declared.path.Path.TheVariants.{Resource, Object, Instance, Part}
use Rattle.instance_store.specs.Stored.{Stored}
use Rattle.lwm2m_payloads.specs.declared.format.Format.{Format}
use Rattle.lwm2m_payloads.specs.declared.given.Given.TheVariants.{Single}
use Rattle.lwm2m_payloads.specs.declared.given.Mode.TheVariants.{Replace}
use Rattle.lwm2m_payloads.specs.Formats.{one, format_for, format_number}
use Rattle.lwm2m_payloads.specs.Given.{resource_given}
use Rattle.lwm2m_payloads.specs.Nodes.{value_payload}
use Rattle.device_requests.specs.declared.answer.Answer.{Answer}
use Rattle.device_requests.specs.declared.answer.Code.{Code}
use Rattle.device_requests.specs.declared.answer.Code.TheVariants.{Changed}
use Rattle.device_requests.specs.declared.operation.Operation.{Operation}
use Rattle.device_requests.specs.declared.ruling.Ruling.{Ruling}
use Rattle.device_requests.specs.declared.ruling.Ruling.TheVariants.{Limit, Method, NoPath, Options}
use Rattle.device_requests.specs.Access.{may_read}
use Rattle.device_requests.specs.Answer.{bare, code_byte, content, is_change}
use Rattle.device_requests.specs.Discover.{linked_paths}
use Rattle.object_defs.specs.Lines.{first_line}
use Rattle.device_requests.specs.Operation.{operation_of}
use Rattle.device_requests.specs.Options.{accept_of, has_query, has_unrecognized_critical, path_of, segments_of}
use Rattle.device_requests.specs.Outcomes.{read_answer, write_outcome}
use Rattle.device_requests.specs.Refusals.{is_oversized, rules_of}
use Rattle.device_requests.specs.Request.{outcome_of, purpose_of}
use Rattle.device_requests.specs.Ruling.{code_of}
use Rattle.device_requests.specs.Client.{Client, with_stored}
use Rattle.object_defs.specs.declared.definition.ObjectDef.{ObjectDef}
use Rattle.device_requests.specs.Targets.{exists}

-- the rules from the operation on
abbrev pub lines_by : Client → ℕ → Message → Path → Option Operation → List (Bool × Ruling)
lines_by client server m path None = (true, Method) ∷ []
lines_by client server m path (Some operation) = rules_of client server path (purpose_of m operation)

-- the rules from the path on
abbrev pub lines_on : Client → ℕ → Message → Option Path → List (Bool × Ruling)
lines_on client server m None = (true, NoPath) ∷ []
lines_on client server m (Some path) =
    lines_by client server m path (operation_of m.code (accept_of m.options) (has_query m.options) path)

-- all the rules of requests, in their order, of which the last is their success
abbrev pub request_lines : Client → ℕ → Message → List (Bool × Ruling)
request_lines client server m =
    (has_unrecognized_critical m.options, Options) ∷ lines_on client server m (path_of (segments_of m.options))

-- a response code of class 4 or 5 (RFC 7252 section 5.9)
abbrev pub is_refusal : Code → Bool
is_refusal code = nat_le (4 * 32) (code_byte code)

-- accounts and catalog are as they were
pub record KeepsFrame (old new : Client) : Type 0 where
  pub accounts : new.accounts ≡ old.accounts
  pub catalog : new.catalog ≡ old.catalog

-- no request changes them
abbrev pub RequestsKeepFrame : Type 0
RequestsKeepFrame = (client : Client) (server : ℕ) (m : Message) → KeepsFrame client (outcome_of client server m).client

-- the answer is that of the first rule that holds
abbrev pub FirstLineAnswers : Type 0
FirstLineAnswers =
    (client : Client) (server : ℕ) (m : Message)
    → first_line (request_lines client server m) ≡ Some (outcome_of client server m).answer.ruling

-- a refusal changes nothing
abbrev pub RefusalKeeps : Type 0
RefusalKeeps =
    (client : Client) (server : ℕ) (m : Message)
    → is_refusal (code_of (outcome_of client server m).answer.ruling) ≡ true
    → (outcome_of client server m).client ≡ client

-- so does each other request whose answer does not say that it changed something
abbrev pub ChangesAreSaid : Type 0
ChangesAreSaid =
    (client : Client) (server : ℕ) (m : Message)
    → is_change (code_of (outcome_of client server m).answer.ruling) ≡ false
    → (outcome_of client server m).client ≡ client

-- a code alone, with neither option nor payload, after which the device does not act
pub record IsCodeAlone (answer : Answer) : Type 0 where
  pub location : answer.location ≡ None
  pub format : answer.format ≡ None
  pub payload : answer.payload ≡ []
  pub act : answer.act ≡ None

-- the answer of a refusal
abbrev pub RefusalIsCodeAlone : Type 0
RefusalIsCodeAlone =
    (client : Client) (server : ℕ) (m : Message)
    → is_refusal (code_of (outcome_of client server m).answer.ruling) ≡ true
    → IsCodeAlone (outcome_of client server m).answer

-- a payload in a format; 5.00 where it has more than 1,024 bytes
abbrev pub content_within : Format → List ℕ → Answer
content_within format payload =
    if is_oversized payload then bare Limit else content (format_number format) payload

-- the payload gives this value, and a Read of the resource then answers it in each format that is served, to each
-- server that may read it
pub record IsReadBack (client : Client) (o i r : ℕ) (d : ResourceDef) (number : Option ℕ) (payload : List ℕ)
    (stored : Stored) : Type 0 where
  pub format : Format
  pub served : format_for (one d.kind) number ≡ Some format
  pub value : Value
  pub given : resource_given d format payload ≡ Ok (Single value)
  pub read : (server : ℕ) (accept : Option ℕ) (wanted : Format)
      → may_read (with_stored client stored) server (Resource o i r) ≡ true
      → format_for (one d.kind) accept ≡ Some wanted
      → read_answer (with_stored client stored) server (Resource o i r) accept
      ≡ content_within wanted (value_payload wanted (single r) value)

-- a Write of a single resource that can be read and is not one of Firmware Update, answered by Changed
abbrev pub WrittenIsRead : Type 0
WrittenIsRead =
    (client : Client) (server o i r : ℕ) (d : ResourceDef) (number : Option ℕ) (payload : List ℕ)
    → definition_of client.catalog o r ≡ Some d → d.multiple ≡ false → can_read d.ops ≡ true → o ≢ 5
    → code_of (write_outcome client server Replace (Resource o i r) number payload).answer.ruling ≡ Changed
    → IsReadBack client o i r d number payload
    (write_outcome client server Replace (Resource o i r) number payload).client.store

-- a path is among these
abbrev pub IsAmong : {X : Type 0} → X → List X → Type 0
IsAmong q [] = ⊥
IsAmong q (p ∷ ps) = (p ≡ q) ⊎ IsAmong q ps

-- a path of an object, an instance or a resource lies at or below another one
abbrev pub lies_at : Path → Path → Bool
lies_at (Object o) (Object p) = p == o
lies_at (Object o) (Instance p i) = p == o
lies_at (Object o) (Resource p i r) = p == o
lies_at (Instance o i) (Instance p j) = p == o && j == i
lies_at (Instance o i) (Resource p j r) = p == o && j == i
lies_at (Resource o i r) (Resource p j s) = p == o && (j == i && s == r)
lies_at path q = false

abbrev pub is_part : Path → Bool
is_part (Object _) = false
is_part (Instance _ _) = false
is_part (Resource _ _ _) = false
is_part (Part _ _ _ _) = true

-- the links of a path that exists are those of the paths at and below it that exist, parts left out
abbrev pub LinksWhatExists : Type 0
LinksWhatExists =
    (catalog : List ObjectDef) (stored : Stored) (path q : Path) → exists catalog stored path ≡ true
    → is_part path ≡ false
    → IsAmong q (linked_paths catalog stored path) ↔ ((lies_at path q ≡ true) × (exists catalog stored q ≡ true))
