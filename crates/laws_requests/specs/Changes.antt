-- What kinds of thing an operation changes (OMA LwM2M 1.1 Core).
use Rattle.std.specs.Prelude.{◌≡◌, ℕ, Bool, true, false}
use Rattle.coap_codec.specs.Message.{Message}
use Rattle.object_defs.specs.declared.path.Path.{Path}
use Rattle.device_requests.specs.declared.operation.Operation.{Operation}
use Rattle.device_requests.specs.declared.operation.Operation.TheVariants.{Read, Discover, WriteAttributes}
use Rattle.device_requests.specs.declared.operation.Operation.TheVariants.{Create, Delete}
use Rattle.device_requests.specs.Client.{Client}
use Rattle.device_requests.specs.Order.{Asks}
use Rattle.device_requests.specs.Request.{outcome_of}

-- attributes are set by Write-Attributes, and go with what is deleted
abbrev pub moves_attributes : Operation → Bool
moves_attributes WriteAttributes = true
moves_attributes Delete = true
moves_attributes operation = false

-- instances come by Create and go by Delete
abbrev pub moves_instances : Operation → Bool
moves_instances Create = true
moves_instances Delete = true
moves_instances operation = false

-- Read, Discover and Write-Attributes change no instance and no value
abbrev pub moves_values : Operation → Bool
moves_values Read = false
moves_values Discover = false
moves_values WriteAttributes = false
moves_values operation = true

-- what is not the operation's to change is as it was
pub record KeepsOthers (old new : Client) (operation : Operation) : Type 0 where
  pub attributes : moves_attributes operation ≡ false → new.attributes ≡ old.attributes
  pub instances : moves_instances operation ≡ false → new.store.instances ≡ old.store.instances
  pub values : moves_values operation ≡ false → new.store ≡ old.store

-- each operation changes only what is its own
abbrev pub OperationsKeepOthers : Type 0
OperationsKeepOthers =
    (client : Client) (server : ℕ) (m : Message) (path : Path) (operation : Operation) → Asks m path operation
    → KeepsOthers client (outcome_of client server m).client operation
