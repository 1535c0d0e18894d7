-- Which values an observation depends on: those that its present answer may show, and those by which rights and periods
-- are found (RFC 7641 section 1.3; OMA LwM2M 1.1 Core, access control, attributes, and object 1 LwM2M Server).
use Rattle.std.specs.Prelude.{◌≡◌, ◌≢◌, ◌==◌, Bool, ◌&&◌, ◌||◌, List}
use Rattle.std.specs.List.{AllByRecursion, list_any}
use Rattle.object_defs.specs.Numbers.{server_object, short_server_id, default_minimum_period, default_maximum_period}
use Rattle.object_defs.specs.declared.path.FullPath.{FullPath}
use Rattle.instance_store.specs.Stored.{Stored, value_at}
use Rattle.notifier.specs.declared.observation.Observation.{Observation}
use Rattle.device_requests.specs.Client.{Client, with_stored}
use Rattle.device_requests.specs.Depending.{AgreeWhere, is_read_by}
use Rattle.device_notifications.specs.Outlooks.{outlook_of}
use Rattle.device_notifications.specs.Period.{pmin_of, pmax_of}
use Rattle.device_notifications.specs.Second.{present_answer}

-- a value of Server by which periods are found: the Short Server ID, and the two default periods
abbrev pub is_of_periods : FullPath → Bool
is_of_periods q =
    q.object == server_object
    && (q.resource == short_server_id
    || (q.resource == default_minimum_period || q.resource == default_maximum_period))

-- a value reaches an observation: it is at or below the observed path, or rights or periods are found by it
abbrev pub reaches : FullPath → Observation → Bool
reaches q o = is_read_by o.path q || is_of_periods q

-- one of these values reaches the observation
abbrev pub is_reached : List FullPath → Observation → Bool
is_reached qs o = list_any (λ q. reaches q o) qs

-- one of these values reaches one of the observations
abbrev pub is_one_reached : List FullPath → List Observation → Bool
is_one_reached qs os = list_any (is_reached qs) os

-- two stores have the same instances, and the same values but at these full paths
pub record DifferAt (qs : List FullPath) (old new : Stored) : Type 0 where
  pub instances : new.instances ≡ old.instances
  pub others : (q : FullPath) → AllByRecursion (λ p. q ≢ p) qs → value_at new q ≡ value_at old q

-- the present answer of an observation and its periods are the same, and so is what is said of it
pub record StaysSaid (old new : Client) (o : Observation) : Type 0 where
  pub answer : present_answer new o ≡ present_answer old o
  pub pmin : pmin_of new o.server o.path ≡ pmin_of old o.server o.path
  pub pmax : pmax_of new o.server o.path ≡ pmax_of old o.server o.path
  pub outlook : outlook_of new o ≡ outlook_of old o

-- so it is where the values that reach the observation are the same, whatever the others are
abbrev pub OthersDoNotReach : Type 0
OthersDoNotReach =
    (client : Client) (stored : Stored) (o : Observation) → AgreeWhere (λ q. reaches q o) client.store stored
    → StaysSaid client (with_stored client stored) o
