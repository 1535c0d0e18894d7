-- What a device does beside replying (OMA LwM2M 1.1 Core, Execute, objects 1 LwM2M Server and 3 Device).
use Rattle.std.specs.Prelude.{◌≡◌, ◌↔◌, ℕ, Some}
use Rattle.coap_codec.specs.Message.{Message}
use Rattle.object_defs.specs.declared.path.Path.{Path}
use Rattle.object_defs.specs.declared.path.Path.TheVariants.{Resource}
use Rattle.device_requests.specs.declared.answer.Act.{Act}
use Rattle.device_requests.specs.declared.answer.Act.TheVariants.{Reboot, FactoryReset, RegUpdate, Disable, Missed}
use Rattle.device_requests.specs.declared.operation.Operation.TheVariants.{Execute}
use Rattle.device_requests.specs.declared.answer.Code.TheVariants.{Changed}
use Rattle.device_requests.specs.Client.{Client}
use Rattle.device_requests.specs.Order.{Asks}
use Rattle.device_requests.specs.Request.{outcome_of}
use Rattle.device_requests.specs.Ruling.{code_of}

-- the resource that asks for an act, of any instance: Reboot 3/i/4, Factory Reset 3/i/5, Registration Update Trigger
-- 1/i/8, Disable 1/i/4
abbrev pub IsActOf : Path → Act → Type 0
IsActOf path Reboot = (i : ℕ) × (path ≡ Resource 3 i 4)
IsActOf path FactoryReset = (i : ℕ) × (path ≡ Resource 3 i 5)
IsActOf path RegUpdate = (i : ℕ) × (path ≡ Resource 1 i 8)
IsActOf path Disable = (i : ℕ) × (path ≡ Resource 1 i 4)
IsActOf path Missed = ⊥

-- a request is an Execute of this resource, and is answered by 2.04
pub record IsAskedToAct (client : Client) (server : ℕ) (m : Message) (act : Act) : Type 0 where
  pub path : Path
  pub asks : Asks m path Execute
  pub resource : IsActOf path act
  pub done : code_of (outcome_of client server m).answer.ruling ≡ Changed

-- a device acts after such a request, and after no other
abbrev pub ActsAreAsked : Type 0
ActsAreAsked =
    (client : Client) (server : ℕ) (m : Message) (act : Act)
    → ((outcome_of client server m).answer.act ≡ Some act) ↔ IsAskedToAct client server m act
