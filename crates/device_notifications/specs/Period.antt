-- The minimum and the maximum period of an observation, in seconds (OMA LwM2M 1.1 Core, attributes, and object 1 LwM2M
-- Server).
use Rattle.std.specs.Prelude.{ℕ, nat_lt, ℤ, pos, negsuc, Bool, find, cond, Option, None, Some}
use Rattle.std.specs.Prelude.{option_and_then}
use Rattle.std.specs.Option.{option_or, unwrap_or}
use Rattle.lwm2m_values.specs.Value.{is_integer}
use Rattle.object_defs.specs.Numbers.{server_object, short_server_id, default_minimum_period, default_maximum_period}
use Rattle.object_defs.specs.Path.{single_of}
use Rattle.object_defs.specs.declared.path.FullPath.{FullPath}
use Rattle.object_defs.specs.declared.path.Path.{Path}
use Rattle.instance_store.specs.Stored.{Stored, value_at, instances_of}
use Rattle.notifier.specs.Attributes.{effective}
use Rattle.notifier.specs.declared.attribute.Name.{Name}
use Rattle.notifier.specs.declared.attribute.Name.TheVariants as name
use Rattle.device_requests.specs.Client.{Client}
use Rattle.device_requests.specs.Targets.{resource_place}
use Rattle.device_notifications.specs.Report.{number_in}

-- the seconds that a number is, from 0 to 2,147,483,647
abbrev pub seconds_in : ℤ → Option ℕ
seconds_in (pos n) = cond (nat_lt n 2147483648) (Some n) None
seconds_in (negsuc n) = None

-- a single resource of an instance of Server
abbrev pub account_path : ℕ → ℕ → FullPath
account_path instance resource = single_of (resource_place server_object instance resource)

-- whether an instance of Server is of this server
abbrev pub is_account : Stored → ℕ → ℕ → Bool
is_account stored server instance =
    is_integer server (number_in (value_at stored (account_path instance short_server_id)))

-- the lowest instance of Server that is of this server
abbrev pub account_of : Stored → ℕ → Option ℕ
account_of stored server = find (λ instance. is_account stored server instance) (instances_of stored server_object)

-- the seconds that this resource of it says; where that one says none, a higher instance is not asked
abbrev pub default_period : Stored → ℕ → ℕ → Option ℕ
default_period stored server resource =
    option_and_then (λ instance. option_and_then seconds_in
    (number_in (value_at stored (account_path instance resource)))) (account_of stored server)

-- the attribute of the lowest level that has one, else the default of the server
abbrev pub period_of : Client → ℕ → Path → Name → ℕ → Option ℕ
period_of client server path n resource =
    option_or (option_and_then seconds_in (effective client.attributes server path n))
    (default_period client.store server resource)

-- the minimum period that has effect, 0 where none is set
abbrev pub pmin_of : Client → ℕ → Path → ℕ
pmin_of client server path = unwrap_or (period_of client server path name.Pmin default_minimum_period) 0

-- the maximum period
abbrev pub pmax_of : Client → ℕ → Path → Option ℕ
pmax_of client server path = period_of client server path name.Pmax default_maximum_period
