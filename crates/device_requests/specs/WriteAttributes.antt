-- What a Write-Attributes answers and changes (OMA LwM2M 1.1 Core, Write-Attributes).
use Rattle.std.specs.Prelude.{ℕ, Bool, true, false, not, ◌&&◌, List, [], Option, None, Some, option_and_then}
use Rattle.std.specs.Prelude.{Result, Ok, Err, if◌then◌else◌}
use Rattle.lwm2m_values.specs.declared.kind.ValueKind.{ValueKind}
use Rattle.lwm2m_values.specs.declared.kind.ValueKind.TheVariants.{Text, Whole, Flag, Opaque, Moment, Link}
use Rattle.notifier.specs.declared.attribute.Change.{Change}
use Rattle.notifier.specs.declared.attribute.Level.{Level}
use Rattle.notifier.specs.declared.attribute.Level.TheVariants as level
use Rattle.notifier.specs.declared.fault.QueryFault.{QueryFault}
use Rattle.notifier.specs.Attributes.{Numbers, is_consistent, with_changes}
use Rattle.notifier.specs.Query.{changes_of}
use Rattle.object_defs.specs.Catalog.{definition_of}
use Rattle.object_defs.specs.declared.definition.ObjectDef.{ObjectDef}
use Rattle.object_defs.specs.declared.definition.ResourceDef.{ResourceDef}
use Rattle.object_defs.specs.declared.path.Path.{Path}
use Rattle.object_defs.specs.declared.path.Path.TheVariants.{Object, Instance, Resource, Part}
use Rattle.device_requests.specs.declared.ruling.Ruling.{Ruling}
use Rattle.device_requests.specs.declared.ruling.Ruling.TheVariants.{Changed, Payload}
use Rattle.device_requests.specs.Answer.{Outcome, answer_alone, bare}
use Rattle.device_requests.specs.Client.{Client, with_attributes}

-- Integers and Times are numbers
abbrev pub is_numeric_kind : ValueKind → Bool
is_numeric_kind Text = false
is_numeric_kind Whole = true
is_numeric_kind Flag = false
is_numeric_kind Opaque = false
is_numeric_kind Moment = true
is_numeric_kind Link = false

-- a single resource of a number
abbrev pub is_numeric : Option ResourceDef → Bool
is_numeric None = false
is_numeric (Some d) = not d.multiple && is_numeric_kind d.kind

-- what a path is to attributes
abbrev pub level_at : List ObjectDef → Path → Level
level_at catalog (Object o) = level.Object
level_at catalog (Instance o i) = level.Instance
level_at catalog (Resource o i r) = if is_numeric (definition_of catalog o r) then level.Number else level.Resource
level_at catalog (Part o i r n) = level.Resource

-- the changes, where the queries spell some
abbrev pub changes_or_none : Result (List Change) QueryFault → Option (List Change)
changes_or_none (Ok changes) = Some changes
changes_or_none (Err fault) = None

abbrev pub changes_given : List ObjectDef → Path → List (List ℕ) → Option (List Change)
changes_given catalog path queries = changes_or_none (changes_of [] (level_at catalog path) queries)

-- the attributes with changes of a server on a path, where its numbers there agree then
abbrev pub new_numbers : Numbers → ℕ → Path → List Change → Option Numbers
new_numbers m server path changes =
    if is_consistent (with_changes m server path changes) server path then Some (with_changes m server path changes)
    else None

-- the attributes with the changes that queries spell, where they may stand so
abbrev pub attributes_given : Client → ℕ → Path → List (List ℕ) → Option Numbers
attributes_given client server path queries =
    option_and_then (new_numbers client.attributes server path) (changes_given client.catalog path queries)

-- a refusal changes nothing; else the attributes are these
abbrev pub annotate_unless : Option Ruling → Client → Option Numbers → Outcome
annotate_unless (Some ruling) client given = answer_alone client (bare ruling)
annotate_unless None client None = answer_alone client (bare Payload)
annotate_unless None client (Some m) = record { answer = bare Changed; client = with_attributes client m }
