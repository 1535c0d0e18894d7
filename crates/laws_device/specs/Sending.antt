-- To whom a device sends, and on which events it sends nothing.
use Rattle.std.specs.Prelude.{◌≡◌, ℕ, false, ◌⊎◌, List, [], ◌∷◌}
use Rattle.std.specs.List.{AllByRecursion}
use Rattle.lwm2m_values.specs.declared.value.Value.{Value}
use Rattle.object_defs.specs.declared.path.Path.{Path}
use Rattle.device_requests.specs.Client.{has_account}
use Rattle.device_requests.specs.declared.answer.Act.TheVariants.{Missed}
use Rattle.device_machine.specs.declared.event.Event.{Event}
use Rattle.device_machine.specs.declared.event.Event.TheVariants.{Firmware, Put, Recv}
use Rattle.device_machine.specs.declared.output.Output.{Output}
use Rattle.device_machine.specs.declared.output.Output.TheVariants.{Act, Send}
use Rattle.device_machine.specs.Reactions.{flat_after, outputs_of}
use Rattle.device_machine.specs.State.{Machine}

-- a datagram of a server that has no account gets nothing, and changes nothing
abbrev pub StrangersAreIgnored : Type 0
StrangersAreIgnored =
    (f : Machine) (server : ℕ) (bytes : List ℕ) → has_account f.kept.client server ≡ false
    → (outputs_of f (Recv server bytes) ≡ []) × (flat_after f (Recv server bytes) ≡ f)

-- what is sent goes to this server
abbrev pub IsTo : ℕ → Output → Type 0
IsTo server (Send s bytes) = s ≡ server
IsTo server (Act act) = Unit {0}

-- whatever arrives, only the server that sent it is sent something for it
abbrev pub OnlyTheAskerIsAnswered : Type 0
OnlyTheAskerIsAnswered =
    (f : Machine) (server : ℕ) (bytes : List ℕ) → AllByRecursion (IsTo server) (outputs_of f (Recv server bytes))

-- an event changes values and nothing else, with no output
pub record OnlyStores (f : Machine) (event : Event) : Type 0 where
  pub sent : outputs_of f event ≡ []
  pub instances : (flat_after f event).kept.client.store.instances ≡ f.kept.client.store.instances
  pub accounts : (flat_after f event).kept.client.accounts ≡ f.kept.client.accounts
  pub catalog : (flat_after f event).kept.client.catalog ≡ f.kept.client.catalog
  pub attributes : (flat_after f event).kept.client.attributes ≡ f.kept.client.attributes
  pub notify : (flat_after f event).kept.client.notify ≡ f.kept.client.notify
  pub observations : (flat_after f event).kept.observations ≡ f.kept.observations
  pub clock : (flat_after f event).kept.clock ≡ f.kept.clock
  pub next_id : (flat_after f event).kept.next_id ≡ f.kept.next_id
  pub recorded : (flat_after f event).recorded ≡ f.recorded

-- it changes nothing, and the device only says that it missed
pub record IsMissed (f : Machine) (event : Event) : Type 0 where
  pub acted : outputs_of f event ≡ Act Missed ∷ []
  pub unchanged : flat_after f event ≡ f

-- one of them it is of a value that changes, and of the end of a download or an update of the firmware
abbrev pub PutsSendNothing : Type 0
PutsSendNothing = (f : Machine) (path : Path) (value : Value)
    → OnlyStores f (Put path value) ⊎ IsMissed f (Put path value)

abbrev pub FirmwareSendsNothing : Type 0
FirmwareSendsNothing = (f : Machine) (code : ℕ) → OnlyStores f (Firmware code) ⊎ IsMissed f (Firmware code)
