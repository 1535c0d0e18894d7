-- Which rule decides where several refuse a request: a law for each two neighbours of the table (`Refusals`), in other
-- words than the table, for all operations alike (OMA LwM2M 1.1 Core and Transport).
use Rattle.std.specs.Prelude.{◌≡◌, ◌≢◌, ℕ, ◌==◌, Bool, true, false, [], ◌∷◌, Option, None, Some}
use Rattle.coap_codec.specs.Message.{Message}
use Rattle.object_defs.specs.Numbers.{security_object}
use Rattle.object_defs.specs.Lines.{first_line}
use Rattle.object_defs.specs.Path.{object_in}
use Rattle.object_defs.specs.declared.path.Path.{Path}
use Rattle.device_requests.specs.declared.answer.Code.TheVariants.{Unauthorized}
use Rattle.device_requests.specs.declared.observe.Interest.{Interest}
use Rattle.device_requests.specs.declared.operation.Operation.{Operation}
use Rattle.device_requests.specs.declared.operation.Operation.TheVariants.{Read}
use Rattle.device_requests.specs.declared.ruling.Ruling.{Ruling}
use Rattle.device_requests.specs.declared.ruling.Ruling.TheVariants as rule
use Rattle.device_requests.specs.declared.write.NewValues.{NewValues}
use Rattle.device_requests.specs.Client.{Client}
use Rattle.device_requests.specs.Laws.{IsAmong}
use Rattle.device_requests.specs.Observe.{interest_of}
use Rattle.device_requests.specs.Operation.{operation_of}
use Rattle.device_requests.specs.Options.{accept_of, content_format_of, has_query, has_unrecognized_critical}
use Rattle.device_requests.specs.Options.{segments_of, path_of}
use Rattle.device_requests.specs.Refusals.{Purpose, format_ruling, is_invalid, is_out_of_turn, is_too_much}
use Rattle.device_requests.specs.Refusals.{lacks_format, lacks_operation, lacks_right, lacks_target, rules_of}
use Rattle.device_requests.specs.Request.{outcome_of, purpose_of}
use Rattle.device_requests.specs.Ruling.{code_of}
use Rattle.device_requests.specs.Write.{new_values}

-- a request whose options are understood, whose Uri-Path is this path, and whose method is this operation there
pub record Asks (m : Message) (path : Path) (operation : Operation) : Type 0 where
  pub understood : has_unrecognized_critical m.options ≡ false
  pub goes_to : path_of (segments_of m.options) ≡ Some path
  pub means : operation_of m.code (accept_of m.options) (has_query m.options) path ≡ Some operation

-- what the payload of a Write gives
abbrev pub given_by : Client → Message → Path → Option NewValues
given_by client m path = new_values client path (content_format_of m.options) m.payload

-- one table of rules serves all operations
abbrev pub OneTable : Type 0
OneTable =
    (client : Client) (server : ℕ) (m : Message) (path : Path) (operation : Operation) → Asks m path operation
    → first_line (rules_of client server path (purpose_of m operation))
    ≡ Some (outcome_of client server m).answer.ruling

-- an option that must be understood and isn't: rule 3, 4.02, whatever the path and the method are
abbrev pub OptionsComeFirst : Type 0
OptionsComeFirst =
    (client : Client) (server : ℕ) (m : Message) → has_unrecognized_critical m.options ≡ true
    → (outcome_of client server m).answer.ruling ≡ rule.Options

-- no path: rule 4, 4.04, whatever the method is
abbrev pub PathsPrecedeMethods : Type 0
PathsPrecedeMethods =
    (client : Client) (server : ℕ) (m : Message) → has_unrecognized_critical m.options ≡ false
    → path_of (segments_of m.options) ≡ None
    → (outcome_of client server m).answer.ruling ≡ rule.NoPath

-- a method that is not an operation at this kind of path: rule 5, 4.05, also at Security and where nothing is
abbrev pub MethodsPrecedeObjects : Type 0
MethodsPrecedeObjects =
    (client : Client) (server : ℕ) (m : Message) (path : Path) → has_unrecognized_critical m.options ≡ false
    → path_of (segments_of m.options) ≡ Some path
    → operation_of m.code (accept_of m.options) (has_query m.options) path ≡ None
    → (outcome_of client server m).answer.ruling ≡ rule.Method

-- Security: rule 6, 4.01, whether or not the target is there
abbrev pub SecurityPrecedesTargets : Type 0
SecurityPrecedesTargets =
    (client : Client) (server : ℕ) (m : Message) (path : Path) (operation : Operation) → Asks m path operation
    → object_in path ≡ security_object
    → (outcome_of client server m).answer.ruling ≡ rule.Security

-- no target: rule 7, 4.04, whatever the server's rights are
abbrev pub TargetsPrecedeRights : Type 0
TargetsPrecedeRights =
    (client : Client) (server : ℕ) (m : Message) (path : Path) (operation : Operation) → Asks m path operation
    → object_in path ≢ security_object → lacks_target client path (purpose_of m operation) ≡ true
    → (outcome_of client server m).answer.ruling ≡ rule.Target

-- no right to a target that is there: 4.01, whether or not the target has the operation
abbrev pub RightsPrecedeOperations : Type 0
RightsPrecedeOperations =
    (client : Client) (server : ℕ) (m : Message) (path : Path) (operation : Operation) → Asks m path operation
    → lacks_target client path (purpose_of m operation) ≡ false
    → lacks_right client server path (purpose_of m operation) ≡ true
    → code_of (outcome_of client server m).answer.ruling ≡ Unauthorized

-- the target does not have the operation: rule 9, 4.05, whatever the format is, where none of rules 6 to 8 comes first
abbrev pub OperationsPrecedeFormats : Type 0
OperationsPrecedeFormats =
    (client : Client) (server : ℕ) (m : Message) (path : Path) (operation : Operation) → Asks m path operation
    → lacks_operation client.catalog path (purpose_of m operation) ≡ true
    → IsAmong (outcome_of client server m).answer.ruling
    (rule.Security ∷ rule.Target ∷ rule.Right ∷ rule.Operation ∷ [])

-- a format that is not served: rule 10, 4.06 of a Read, else 4.15, whatever the payload is, where none of rules 6 to 9
-- comes first
abbrev pub FormatsPrecedePayloads : Type 0
FormatsPrecedePayloads =
    (client : Client) (server : ℕ) (m : Message) (path : Path) (operation : Operation) → Asks m path operation
    → lacks_format client.catalog path (purpose_of m operation) ≡ true
    → IsAmong (outcome_of client server m).answer.ruling
    (rule.Security ∷ rule.Target ∷ rule.Right ∷ rule.Operation ∷ format_ruling (purpose_of m operation) ∷ [])

-- a payload, queries or arguments that are not valid: rule 11, 4.00, whatever state the firmware is in, where none of
-- rules 6 to 8 and 10 comes first, of a target that has the operation
abbrev pub PayloadsPrecedeStates : Type 0
PayloadsPrecedeStates =
    (client : Client) (server : ℕ) (m : Message) (path : Path) (operation : Operation) → Asks m path operation
    → lacks_operation client.catalog path (purpose_of m operation) ≡ false
    → is_invalid client server path (purpose_of m operation) ≡ true
    → IsAmong (outcome_of client server m).answer.ruling
    (rule.Security ∷ rule.Target ∷ rule.Right ∷ format_ruling (purpose_of m operation) ∷ rule.Payload ∷ [])

-- what each rule says of a request that asks for an operation; those of success say nothing
abbrev pub has_reason : Client → ℕ → Path → Purpose → Ruling → Bool
has_reason client server path purpose rule.Options = false
has_reason client server path purpose rule.NoPath = false
has_reason client server path purpose rule.Method = false
has_reason client server path purpose rule.Security = object_in path == security_object
has_reason client server path purpose rule.Target = lacks_target client path purpose
has_reason client server path purpose rule.Right = lacks_right client server path purpose
has_reason client server path purpose rule.Operation = lacks_operation client.catalog path purpose
has_reason client server path purpose rule.Accept = lacks_format client.catalog path purpose
has_reason client server path purpose rule.ContentFormat = lacks_format client.catalog path purpose
has_reason client server path purpose rule.Payload = is_invalid client server path purpose
has_reason client server path purpose rule.State = is_out_of_turn client path purpose
has_reason client server path purpose rule.Limit = is_too_much client server path purpose
has_reason client server path purpose ruling = true

-- no request that asks for an operation is refused without the reason that the rule gives
abbrev pub RefusalsHaveReasons : Type 0
RefusalsHaveReasons =
    (client : Client) (server : ℕ) (m : Message) (path : Path) (operation : Operation) → Asks m path operation
    → has_reason client server path (purpose_of m operation) (outcome_of client server m).answer.ruling ≡ true

-- a request to read, whose options are understood
pub record AsksToRead (m : Message) : Type 0 where
  pub path : Path
  pub asks : Asks m path Read

-- no other request asks for an observation, or for the end of one
abbrev pub OnlyReadsObserve : Type 0
OnlyReadsObserve = (m : Message) (interest : Interest) → interest_of m ≡ Some interest → AsksToRead m
