-- What the requests of device management look at and change.
use Rattle.std.specs.Prelude.{ℕ, ◌==◌, Bool, List}
use Rattle.std.specs.Coded.{Coded, coded_ℤ}
use Rattle.std.specs.FinMap as map
use Rattle.std.specs.List.{list_any}
use Rattle.instance_store.specs.Stored.{Stored}
use Rattle.notifier.specs.Attributes.{Numbers, key_code}
use Rattle.object_defs.specs.declared.definition.ObjectDef.{ObjectDef}

-- the servers that have an account, the definitions of the objects, what is there of them, the attributes that servers
-- set, and how long the device waits for the Ack of a Confirmable notification before it sends it again for the first
-- time, in seconds: 0 where its notifications are Non-confirmable
pub record Client : Type 0 where
  pub accounts : List ℕ
  pub catalog : List ObjectDef
  pub store : Stored
  pub attributes : Numbers
  pub notify : ℕ

abbrev pub attributes_code : Coded Numbers
attributes_code = map.code key_code coded_ℤ

-- the same with this store
abbrev pub with_stored : Client → Stored → Client
with_stored client stored = record client { store = stored }

-- the same with these attributes
abbrev pub with_attributes : Client → Numbers → Client
with_attributes client attributes = record client { attributes = attributes }

-- whether a server has an account
abbrev pub has_account : Client → ℕ → Bool
has_account client server = list_any (λ account. account == server) client.accounts
