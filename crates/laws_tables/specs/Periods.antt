-- The periods of an observation (OMA LwM2M 1.1 Core, attributes, and object 1 LwM2M Server; the range is this
-- profile's). Resources of Server are named by their numbers: 0 Short Server ID, 2 Default Minimum Period, 3 Default
-- Maximum Period.
use Rattle.std.specs.Prelude.{◌≡◌, ◌↔◌, ◌⊎◌, ℕ, ◌<◌, ◌≤◌, ℤ, pos, true, None, Some}
use Rattle.lwm2m_values.specs.declared.value.Value.TheVariants.{Whole, Moment}
use Rattle.object_defs.specs.declared.path.FullPath.{FullPath}
use Rattle.object_defs.specs.declared.path.Path.{Path}
use Rattle.instance_store.specs.Stored.{Stored, has_instance, value_at}
use Rattle.notifier.specs.Attributes.{effective}
use Rattle.notifier.specs.declared.attribute.Name.{Name}
use Rattle.notifier.specs.declared.attribute.Name.TheVariants.{Pmin, Pmax}
use Rattle.device_requests.specs.Client.{Client}
use Rattle.device_notifications.specs.Period.{pmax_of, pmin_of}

-- the path of a resource of instance x of Server
abbrev pub server_path : ℕ → ℕ → FullPath
server_path x resource = record { object = 1; instance = x; resource = resource; part = None }

-- an Integer or a Time stands there
abbrev pub SaysNumber : Stored → ℕ → ℕ → ℤ → Type 0
SaysNumber stored x resource z =
    (value_at stored (server_path x resource) ≡ Some (Whole z))
    ⊎ (value_at stored (server_path x resource) ≡ Some (Moment z))

-- instance x of Server is there, and is of this server
pub record IsOfServer (stored : Stored) (server x : ℕ) : Type 0 where
  pub there : has_instance stored (record { object = 1; instance = x }) ≡ true
  pub id : SaysNumber stored x 0 (pos server)

-- it is the lowest that is
pub record IsAccount (stored : Stored) (server x : ℕ) : Type 0 where
  pub of_server : IsOfServer stored server x
  pub lowest : (k : ℕ) → k < x → ¬ (IsOfServer stored server k)

-- a number of seconds, of 31 bits
abbrev pub IsSeconds : ℤ → ℕ → Type 0
IsSeconds z n = (z ≡ pos n) × (n ≤ 2147483647)

-- the attribute of the path is n seconds
abbrev pub SetByAttribute : Client → ℕ → Path → Name → ℕ → Type 0
SetByAttribute client server path name n =
    (z : ℤ) × (effective client.attributes server path name ≡ Some z) × IsSeconds z n

-- the resource of the lowest instance of the server is n seconds; higher ones are not looked at
abbrev pub SetByServer : Stored → ℕ → ℕ → ℕ → Type 0
SetByServer stored server resource n =
    (x : ℕ) × IsAccount stored server x × ((z : ℤ) × SaysNumber stored x resource z × IsSeconds z n)

-- the attribute decides; where it says nothing, Server does
abbrev pub IsPeriod : Client → ℕ → Path → Name → ℕ → ℕ → Type 0
IsPeriod client server path name resource n =
    SetByAttribute client server path name n
    ⊎ (((m : ℕ) → ¬ (SetByAttribute client server path name m)) × SetByServer client.store server resource n)

-- the minimum period is that of pmin and Default Minimum Period, and 0 where there is none
pub record HasMinimum (client : Client) (server : ℕ) (path : Path) (pmin : ℕ) : Type 0 where
  pub set : (n : ℕ) → IsPeriod client server path Pmin 2 n → pmin ≡ n
  pub none_set : ((n : ℕ) → ¬ (IsPeriod client server path Pmin 2 n)) → pmin ≡ 0

abbrev pub MinimumsAreSet : Type 0
MinimumsAreSet = (client : Client) (server : ℕ) (path : Path)
    → HasMinimum client server path (pmin_of client server path)

-- the maximum period is that of pmax and Default Maximum Period, and there may be none
abbrev pub MaximumsAreSet : Type 0
MaximumsAreSet =
    (client : Client) (server : ℕ) (path : Path)
    → ((n : ℕ) → (pmax_of client server path ≡ Some n) ↔ IsPeriod client server path Pmax 3 n)
    × ((pmax_of client server path ≡ None) ↔ ((n : ℕ) → ¬ (IsPeriod client server path Pmax 3 n)))
