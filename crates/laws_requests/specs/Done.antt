-- What a request that is done changes, as one table of the operations (OMA LwM2M 1.1 Core): which values, instances and
-- attributes are others afterwards, and that all else is as before.
use Rattle.std.specs.Prelude.{◌≡◌, ◌≢◌, ℕ, None, Some}
use Rattle.coap_codec.specs.Message.{Message}
use Rattle.object_defs.specs.declared.path.Path.{Path}
use Rattle.object_defs.specs.declared.path.Path.TheVariants.{Object, Instance, Resource, Part}
use Rattle.device_firmware.specs.declared.event.FirmwareEvent.{FirmwareEvent}
use Rattle.lwm2m_payloads.specs.declared.given.Mode.{Mode}
use Rattle.lwm2m_payloads.specs.declared.given.Mode.TheVariants.{Replace, Update}
use Rattle.device_requests.specs.declared.operation.Operation.{Operation}
use Rattle.device_requests.specs.declared.operation.Operation.TheVariants.{Read, Discover, WriteAttributes}
use Rattle.device_requests.specs.declared.operation.Operation.TheVariants.{WriteReplace, WritePartial, Create, Execute}
use Rattle.device_requests.specs.declared.operation.Operation.TheVariants.{Delete}
use Rattle.device_requests.specs.Answer.{Outcome}
use Rattle.device_requests.specs.Client.{Client, with_attributes, with_stored}
use Rattle.device_requests.specs.Options.{content_format_of, queries_of}
use Rattle.device_requests.specs.Order.{Asks, given_by}
use Rattle.device_requests.specs.Refusals.{done_ruling}
use Rattle.device_requests.specs.Request.{outcome_of, purpose_of}
use Rattle.device_requests.specs.Targets.{place_of}
use Rattle.device_requests.specs.Write.{event_of}
use Rattle.laws_requests.specs.Annotations.{AreAnnotated}
use Rattle.laws_requests.specs.Creations.{IsCreated}
use Rattle.laws_requests.specs.Deletions.{TakesAway}
use Rattle.laws_requests.specs.Executions.{BeginsUpdate, HasNoError}
use Rattle.laws_requests.specs.Taken.{IsTaken}
use Rattle.laws_requests.specs.Writes.{IsInstanceWritten, IsPartWritten, IsResourceWritten}

-- a Write changes the values of its target as the payload says; what is a Package, or a Package URI, to the firmware is
-- not stored, the firmware takes it
pub record WritesTo (old : Client) (m : Message) (mode : Mode) (path : Path) (new : Client) : Type 0 where
  pub frame : new ≡ with_stored old new.store
  pub instances : new.store.instances ≡ old.store.instances
  pub instance : (o i : ℕ) → path ≡ Instance o i → IsInstanceWritten old mode o i m.payload new.store
  pub resource : (o i r : ℕ) → path ≡ Resource o i r → event_of path (given_by old m path) ≡ None
      → IsResourceWritten old mode o i r (content_format_of m.options) m.payload new.store
  pub firmware : (event : FirmwareEvent) → event_of path (given_by old m path) ≡ Some event
      → IsTaken old.store event new.store
  pub part : (o i r n : ℕ) → path ≡ Part o i r n
      → IsPartWritten old o i r n (content_format_of m.options) m.payload new.store

-- a Write-Attributes changes the attributes of its server at its path
pub record Annotates (old : Client) (server : ℕ) (m : Message) (path : Path) (new : Client) : Type 0 where
  pub frame : new ≡ with_attributes old new.attributes
  pub set : AreAnnotated old new server path (queries_of m.options)

-- a Create adds one instance of its object, and may add one of Access Control
pub record Adds (old : Client) (server : ℕ) (m : Message) (path : Path) (outcome : Outcome) : Type 0 where
  pub frame : outcome.client ≡ with_stored old outcome.client.store
  pub added : (o : ℕ) → path ≡ Object o → IsCreated old server o m.payload outcome

-- an Execute changes nothing but by Update of Firmware Update and Reset Error Code of Device
pub record Executes (old : Client) (path : Path) (new : Client) : Type 0 where
  pub frame : new ≡ with_stored old new.store
  pub instances : new.store.instances ≡ old.store.instances
  pub update : (i : ℕ) → path ≡ Resource 5 i 2 → BeginsUpdate old.store new.store
  pub reset : (i : ℕ) → path ≡ Resource 3 i 12 → HasNoError old.store new.store i
  pub others : ((i : ℕ) → path ≢ Resource 5 i 2) → ((i : ℕ) → path ≢ Resource 3 i 12) → new ≡ old

-- a Delete takes its instance away, and what belongs to it
pub record Removes (old : Client) (path : Path) (new : Client) : Type 0 where
  pub frame : new ≡ with_attributes (with_stored old new.store) new.attributes
  pub taken : (o i : ℕ) → path ≡ Instance o i → TakesAway old new (place_of o i)

-- what an operation at a path changes: the client before, and the outcome
abbrev pub Changes : Client → ℕ → Message → Path → Operation → Outcome → Type 0
Changes old server m path Read outcome = outcome.client ≡ old
Changes old server m path Discover outcome = outcome.client ≡ old
Changes old server m path WriteReplace outcome = WritesTo old m Replace path outcome.client
Changes old server m path WritePartial outcome = WritesTo old m Update path outcome.client
Changes old server m path WriteAttributes outcome = Annotates old server m path outcome.client
Changes old server m path Create outcome = Adds old server m path outcome
Changes old server m path Execute outcome = Executes old path outcome.client
Changes old server m path Delete outcome = Removes old path outcome.client

-- a request that is done changes just that
abbrev pub DoneIsChanged : Type 0
DoneIsChanged =
    (client : Client) (server : ℕ) (m : Message) (path : Path) (operation : Operation) → Asks m path operation
    → (outcome_of client server m).answer.ruling ≡ done_ruling (purpose_of m operation)
    → Changes client server m path operation (outcome_of client server m)
