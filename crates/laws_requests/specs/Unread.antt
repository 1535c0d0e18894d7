-- What a server may not read shows in no answer to it (OMA LwM2M 1.1 Core, access control).
use Rattle.std.specs.Prelude.{◌≡◌, ◌⊎◌, ℕ, Bool, true, false, ◌||◌, length, Option, is_some}
use Rattle.coap_codec.specs.Message.{Message}
use Rattle.object_defs.specs.Numbers.{firmware_update_object, package_uri, update, update_package}
use Rattle.object_defs.specs.declared.path.FullPath.{FullPath}
use Rattle.object_defs.specs.declared.path.Path.{Path}
use Rattle.instance_store.specs.Stored.{Stored, value_at}
use Rattle.device_requests.specs.declared.operation.Operation.{Operation}
use Rattle.device_requests.specs.declared.operation.Operation.TheVariants.{WriteReplace, WritePartial, Execute}
use Rattle.device_requests.specs.Access.{reads}
use Rattle.device_requests.specs.Client.{Client, with_stored}
use Rattle.device_requests.specs.Order.{Asks}
use Rattle.device_requests.specs.Outcomes.{read_answer}
use Rattle.device_requests.specs.Request.{outcome_of}
use Rattle.device_requests.specs.Targets.{is_resource}

-- a store differs from that of a client only in values of instances that a server may not read: there are the same
-- instances, and values at the same full paths, since what exists shows without a right; and where the server may read,
-- the values are the same. So they are in Access Control, which all may read, and the server has the same rights
pub record DiffersUnread (client : Client) (stored : Stored) (server : ℕ) : Type 0 where
  pub instances : stored.instances ≡ client.store.instances
  pub places : (q : FullPath) → is_some (value_at stored q) ≡ is_some (value_at client.store q)
  pub values : (q : FullPath) → reads client.store (length client.accounts) server q.object q.instance ≡ true
      → value_at stored q ≡ value_at client.store q

-- the Package and the Package URI of Firmware Update
abbrev pub is_package : Path → Bool
is_package path =
    is_resource firmware_update_object update_package path || is_resource firmware_update_object package_uri path

-- the firmware decides, by its State, on a Write of a Package or a Package URI and on an Execute of Update
abbrev pub asks_firmware : Path → Operation → Bool
asks_firmware path WriteReplace = is_package path
asks_firmware path WritePartial = is_package path
asks_firmware path Execute = is_resource firmware_update_object update path
asks_firmware path operation = false

-- a Read has the same answer then, and so has what a notification reports, which is the answer to a Read
abbrev pub ReadsHideUnread : Type 0
ReadsHideUnread =
    (client : Client) (stored : Stored) (server : ℕ) (path : Path) (accept : Option ℕ)
    → DiffersUnread client stored server
    → read_answer (with_stored client stored) server path accept ≡ read_answer client server path accept

-- every request has the same answer then, whatever it asks for, except for what the firmware decides while the server
-- may not read its State
abbrev pub AnswersHideUnread : Type 0
AnswersHideUnread =
    (client : Client) (stored : Stored) (server : ℕ) (m : Message) → DiffersUnread client stored server
    → ((path : Path) (operation : Operation) → Asks m path operation
    → (asks_firmware path operation ≡ false)
    ⊎ (reads client.store (length client.accounts) server firmware_update_object 0 ≡ true))
    → (outcome_of (with_stored client stored) server m).answer ≡ (outcome_of client server m).answer
