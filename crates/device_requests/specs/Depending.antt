-- What the answer to a Read depends on (OMA LwM2M 1.1 Core, Read and access control).
use Rattle.std.specs.Prelude.{◌≡◌, ℕ, ◌==◌, Bool, true, ◌||◌, Option}
use Rattle.object_defs.specs.Numbers.{access_control_object}
use Rattle.object_defs.specs.declared.path.FullPath.{FullPath}
use Rattle.object_defs.specs.declared.path.Path.{Path}
use Rattle.instance_store.specs.Stored.{Stored, lies_in, value_at}
use Rattle.device_requests.specs.Client.{Client, with_stored}
use Rattle.device_requests.specs.Outcomes.{read_answer}

-- a value of Access Control: rights are found by these
abbrev pub is_of_rights : FullPath → Bool
is_of_rights q = q.object == access_control_object

-- a Read of a path depends on the values at or below it, and on those by which rights are found
abbrev pub is_read_by : Path → FullPath → Bool
is_read_by path q = lies_in path q || is_of_rights q

-- two stores have the same instances, and the same values at the full paths of which this holds
pub record AgreeWhere (chosen : FullPath → Bool) (old new : Stored) : Type 0 where
  pub instances : new.instances ≡ old.instances
  pub values : (q : FullPath) → chosen q ≡ true → value_at new q ≡ value_at old q

-- where these are the same, the answer to a Read is the same, whatever the other values are
abbrev pub ReadsDependOnTheirValues : Type 0
ReadsDependOnTheirValues =
    (client : Client) (stored : Stored) (server : ℕ) (path : Path) (accept : Option ℕ)
    → AgreeWhere (is_read_by path) client.store stored
    → read_answer (with_stored client stored) server path accept ≡ read_answer client server path accept
