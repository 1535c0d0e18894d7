-- Rule 11: what of a payload, of queries or of arguments is not valid (OMA LwM2M 1.1 Core, data formats, attributes and
-- Execute). Queries are counted from 1, bytes from 0.
use Rattle.std.specs.Prelude.{◌≡◌, ℕ, ◌+◌, int_lt, true, List, [], ◌∷◌, ◌++◌, length, Option, None, Some}
use Rattle.std.specs.Prelude.{Ok, Err, option_map, is_some, if◌then◌else◌}
use Rattle.std.specs.List.{list_any, slice_get}
use Rattle.std.specs.Result.{result_err}
use Rattle.lwm2m_values.specs.Reading.{nodes_of_bytes}
use Rattle.lwm2m_values.specs.TlvPlace.{HasFaultAt}
use Rattle.lwm2m_values.specs.declared.level.Around.TheVariants.{Top}
use Rattle.object_defs.specs.Path.{object_in}
use Rattle.object_defs.specs.declared.path.Path.{Path}
use Rattle.lwm2m_payloads.specs.Arguments.{IsArgumentFault}
use Rattle.lwm2m_payloads.specs.declared.fault.PayloadFault.{PayloadFault}
use Rattle.lwm2m_payloads.specs.declared.fault.PayloadFault.TheVariants as payload_fault
use Rattle.lwm2m_payloads.specs.declared.format.Format.{Format}
use Rattle.lwm2m_payloads.specs.declared.format.Format.TheVariants.{Tlv}
use Rattle.notifier.specs.Attributes.{Numbers, assigned_number, with_changes}
use Rattle.notifier.specs.NumberEnd.{IsQueryFault}
use Rattle.notifier.specs.Query.{changes_of, is_of, reading_of}
use Rattle.notifier.specs.declared.attribute.Change.{Change}
use Rattle.notifier.specs.declared.attribute.Level.{Level}
use Rattle.notifier.specs.declared.attribute.Name.{Name}
use Rattle.notifier.specs.declared.attribute.Name.TheVariants as name
use Rattle.notifier.specs.declared.fault.QueryFault.{QueryFault}
use Rattle.notifier.specs.declared.fault.QueryFault.TheVariants as query_fault
use Rattle.device_requests.specs.Client.{Client}
use Rattle.device_requests.specs.Create.{newborn_judged}
use Rattle.device_requests.specs.Read.{format_at}
use Rattle.device_requests.specs.Refusals.{Purpose, to_create, to_delete, to_discover, to_execute, to_read, to_write}
use Rattle.device_requests.specs.Refusals.{to_write_attributes}
use Rattle.device_requests.specs.Write.{values_judged}
use Rattle.device_requests.specs.WriteAttributes.{level_at}
use Rattle.device_requests.specs.declared.create.CreationFault.{CreationFault}
use Rattle.device_requests.specs.declared.create.CreationFault.TheVariants as creation_fault
use Rattle.request_reasons.specs.declared.unfit.Standing.{Standing}
use Rattle.request_reasons.specs.declared.unfit.Unfit.{Unfit}
use Rattle.request_reasons.specs.declared.unfit.Unfit.TheVariants.{NotArguments, Query, Inconsistent, NotTlv, Payload}
use Rattle.request_reasons.specs.declared.unfit.Unfit.TheVariants.{Taken, NoNumber}

-- ---- payloads

-- what is told of the fault of a payload, read in a format: where the payload is not TLV, the place instead
abbrev pub IsToldOf : List ℕ → Format → PayloadFault → Unfit → Type 0
IsToldOf payload format fault (Payload read told) =
    (read ≡ format) × (told ≡ fault) × (fault ≡ payload_fault.NotTlv → is_some (nodes_of_bytes payload) ≡ true)
IsToldOf payload format fault (NotTlv place) = (fault ≡ payload_fault.NotTlv) × HasFaultAt Top 0 payload place
IsToldOf payload format fault unfit = ⊥

-- in a Write: the fault that its payload has in the format that is named
abbrev pub IsUnfitWrite : Client → Path → Option ℕ → List ℕ → Unfit → Type 0
IsUnfitWrite client path number payload unfit =
    (format : Format) × (fault : PayloadFault) × (format_at client.catalog path number ≡ Some format)
    × (result_err (values_judged client.catalog path payload format) ≡ Some fault)
    × IsToldOf payload format fault unfit

-- in a Create
abbrev pub IsToldOfCreation : List ℕ → CreationFault → Unfit → Type 0
IsToldOfCreation payload (creation_fault.Payload fault) unfit = IsToldOf payload Tlv fault unfit
IsToldOfCreation payload (creation_fault.Taken number) unfit = unfit ≡ Taken number
IsToldOfCreation payload creation_fault.NoNumber unfit = unfit ≡ NoNumber

abbrev pub IsUnfitCreate : Client → ℕ → List ℕ → Unfit → Type 0
IsUnfitCreate client object payload unfit =
    (fault : CreationFault) × (result_err (newborn_judged client object payload) ≡ Some fault)
    × IsToldOfCreation payload fault unfit

-- in an Execute: where its payload stops being arguments, and the byte there
abbrev pub IsUnfitExecute : List ℕ → Unfit → Type 0
IsUnfitExecute payload (NotArguments at byte) = IsArgumentFault payload at × (slice_get payload at ≡ byte)
IsUnfitExecute payload unfit = ⊥

-- ---- queries

-- the first query that spells no change after those of the queries before it
pub record IsBadQuery (level : Level) (queries : List (List ℕ)) (place : ℕ) (query : List ℕ) (fault : QueryFault)
    : Type 0 where
  pub before : List (List ℕ)
  pub after : List (List ℕ)
  pub changes : List Change
  pub split : queries ≡ before ++ query ∷ after
  pub placed : place ≡ length before + 1
  pub spelled : changes_of [] level before ≡ Ok changes
  pub refused : reading_of changes level query ≡ Err fault

-- where the number of a query stops being one, if that is its fault
abbrev pub IsNumberEnd : List ℕ → QueryFault → Option ℕ → Type 0
IsNumberEnd query query_fault.BadNumber at = (n : ℕ) × (at ≡ Some n) × IsQueryFault query n
IsNumberEnd query fault at = at ≡ None

-- the number that an attribute has after changes, and whether one of them gives it
abbrev pub standing : Numbers → ℕ → Path → List Change → Name → Option Standing
standing m server path changes n =
    option_map (λ z. record { number = z; is_given = list_any (is_of n) changes })
    (assigned_number (with_changes m server path changes) server path n)

-- gt and lt after changes by which they do not agree; st too, where lt is less than gt
pub record Disagrees (m : Numbers) (server : ℕ) (path : Path) (changes : List Change) (gt lt : Standing)
    (st : Option Standing) : Type 0 where
  pub upper : standing m server path changes name.Gt ≡ Some gt
  pub lower : standing m server path changes name.Lt ≡ Some lt
  pub step : (if int_lt lt.number gt.number then standing m server path changes name.St else None) ≡ st

-- in a Write-Attributes: a query that spells no change; where all do, that the numbers do not agree after the changes
abbrev pub IsUnfitAnnotation : Numbers → ℕ → Path → Level → List (List ℕ) → Unfit → Type 0
IsUnfitAnnotation m server path level queries (Query place query fault at) =
    IsBadQuery level queries place query fault × IsNumberEnd query fault at
IsUnfitAnnotation m server path level queries (Inconsistent gt lt st) =
    (changes : List Change) × (changes_of [] level queries ≡ Ok changes) × Disagrees m server path changes gt lt st
IsUnfitAnnotation m server path level queries unfit = ⊥

-- ---- requests

-- what of a request is not valid
abbrev pub IsUnfit : Client → ℕ → Path → Purpose → Unfit → Type 0
IsUnfit client server path (to_read accept) unfit = ⊥
IsUnfit client server path to_discover unfit = ⊥
IsUnfit client server path (to_write mode number payload) unfit = IsUnfitWrite client path number payload unfit
IsUnfit client server path (to_write_attributes queries) unfit =
    IsUnfitAnnotation client.attributes server path (level_at client.catalog path) queries unfit
IsUnfit client server path (to_create number payload) unfit = IsUnfitCreate client (object_in path) payload unfit
IsUnfit client server path (to_execute number payload) unfit = IsUnfitExecute payload unfit
IsUnfit client server path to_delete unfit = ⊥
