-- What a server that has no right to read does not see (OMA LwM2M 1.1 Core, access control).
use Rattle.std.specs.Prelude.{◌≡◌, ℕ, true, false, ◌⊎◌, length, Option}
use Rattle.object_defs.specs.declared.path.Path.{Path}
use Rattle.object_defs.specs.declared.path.Path.TheVariants.{Object, Instance}
use Rattle.instance_store.specs.Stored.{Stored, instances_of}
use Rattle.lwm2m_payloads.specs.Nodes.{shown_in}
use Rattle.device_requests.specs.declared.ruling.Ruling.TheVariants.{Right, Security, Target}
use Rattle.device_requests.specs.Access.{may_read, reads}
use Rattle.device_requests.specs.Answer.{bare}
use Rattle.device_requests.specs.Client.{Client, with_stored}
use Rattle.device_requests.specs.Outcomes.{read_answer}
use Rattle.device_requests.specs.Targets.{resources_defined}

-- where a server may not read, the answer to its Read is a code alone
abbrev pub UnreadableIsRefused : Type 0
UnreadableIsRefused =
    (client : Client) (server : ℕ) (path : Path) (accept : Option ℕ) → may_read client server path ≡ false
    → (read_answer client server path accept ≡ bare Security)
    ⊎ ((read_answer client server path accept ≡ bare Target) ⊎ (read_answer client server path accept ≡ bare Right))

-- a store with the same instances of an object, the same R on each, and the same values in those on which the server
-- has R
pub record IsAlike (client : Client) (stored : Stored) (server o : ℕ) : Type 0 where
  pub instances : instances_of stored o ≡ instances_of client.store o
  pub rights : (i : ℕ)
      → reads stored (length client.accounts) server o i ≡ reads client.store (length client.accounts) server o i
  pub values : (i : ℕ) → reads client.store (length client.accounts) server o i ≡ true
      → shown_in stored (resources_defined client.catalog o) (Instance o i)
      ≡ shown_in client.store (resources_defined client.catalog o) (Instance o i)

-- a Read of the object has the same answer then, whatever the other instances hold
abbrev pub UnreadableIsHidden : Type 0
UnreadableIsHidden =
    (client : Client) (stored : Stored) (server o : ℕ) (accept : Option ℕ) → IsAlike client stored server o
    → read_answer (with_stored client stored) server (Object o) accept ≡ read_answer client server (Object o) accept
