-- What a message of an observation reports.
use Rattle.std.specs.Prelude.{ℕ, ℤ, Bool, true, false, List, Option, None, Some}
use Rattle.lwm2m_values.specs.declared.value.Value.{Value}
use Rattle.lwm2m_values.specs.declared.value.Value.TheVariants.{Text, Whole, Flag, Opaque, Moment, Link}
use Rattle.object_defs.specs.Catalog.{definition_of}
use Rattle.object_defs.specs.Path.{single_of}
use Rattle.object_defs.specs.declared.path.Path.{Path}
use Rattle.object_defs.specs.declared.path.Path.TheVariants.{Object, Instance, Resource, Part}
use Rattle.instance_store.specs.Stored.{value_at}
use Rattle.notifier.specs.declared.observation.Report.{Report}
use Rattle.device_requests.specs.Client.{Client}
use Rattle.device_requests.specs.Targets.{is_multiple, resource_place}

-- the number that a value is: an Integer's or a Time's
abbrev pub number_in : Option Value → Option ℤ
number_in None = None
number_in (Some (Text _)) = None
number_in (Some (Whole z)) = Some z
number_in (Some (Flag _)) = None
number_in (Some (Opaque _)) = None
number_in (Some (Moment z)) = Some z
number_in (Some (Link _ _)) = None

-- that of the value of a resource, where it is a single one
abbrev pub single_number : Bool → Option Value → Option ℤ
single_number true value = None
single_number false value = number_in value

-- the number at a path: there is one where the path names a single resource that is an Integer or a Time
abbrev pub number_at : Client → Path → Option ℤ
number_at client (Object _) = None
number_at client (Instance _ _) = None
number_at client (Resource o i r) =
    single_number (is_multiple (definition_of client.catalog o r))
    (value_at client.store (single_of (resource_place o i r)))
number_at client (Part _ _ _ _) = None

-- a message with this payload reports the payload, and the number at the path
abbrev pub report_of : Client → Path → List ℕ → Report
report_of client path payload = record { payload = payload; number = number_at client path }
