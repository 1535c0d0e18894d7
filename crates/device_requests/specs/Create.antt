-- What a Create answers and changes (OMA LwM2M 1.1 Core, Create).
use Rattle.std.specs.Prelude.{ℕ, Bool, List, length, Option, None, Some, is_some, ok_or, Result, Ok, Err}
use Rattle.std.specs.Result.{result_ok}
use Rattle.instance_store.specs.Stored.{Stored}
use Rattle.device_instances.specs.Creations.{lack_of_room, with_created}
use Rattle.device_instances.specs.Numbers.{number_for}
use Rattle.device_instances.specs.declared.room.NoRoom.{NoRoom}
use Rattle.lwm2m_payloads.specs.Given.{creation_given}
use Rattle.lwm2m_payloads.specs.Results.{result_map}
use Rattle.lwm2m_payloads.specs.declared.fault.PayloadFault.{PayloadFault}
use Rattle.lwm2m_payloads.specs.declared.given.Creation.{Creation}
use Rattle.device_requests.specs.declared.create.CreationFault.{CreationFault}
use Rattle.device_requests.specs.declared.create.CreationFault.TheVariants.{Payload, Taken, NoNumber}
use Rattle.device_requests.specs.declared.create.Newborn.{Newborn}
use Rattle.device_requests.specs.declared.ruling.Ruling.{Ruling}
use Rattle.device_requests.specs.declared.ruling.Ruling.TheVariants as rule
use Rattle.device_requests.specs.Answer.{Outcome, answer_alone, bare, created_answer}
use Rattle.device_requests.specs.Client.{Client, with_stored}
use Rattle.device_requests.specs.Targets.{place_of, resources_defined}

-- why no number is free: the one that is named is in use, or 65535; or each one is in use
abbrev pub number_fault : Option ℕ → CreationFault
number_fault None = NoNumber
number_fault (Some n) = Taken n

-- what a payload gives, with the number of the new instance, or why there is none
abbrev pub numbered : Stored → ℕ → Creation → Result Newborn CreationFault
numbered stored o c =
    result_map (λ n. record { number = n; given = c.assigned })
    (ok_or (number_for stored o c.number) (number_fault c.number))

abbrev pub newborn_from : Stored → ℕ → Result Creation PayloadFault → Result Newborn CreationFault
newborn_from stored o (Ok c) = numbered stored o c
newborn_from stored o (Err e) = Err (Payload e)

-- what a payload makes of an object, or why it makes nothing: its fault, or else that no number is free
abbrev pub newborn_judged : Client → ℕ → List ℕ → Result Newborn CreationFault
newborn_judged client o payload =
    newborn_from client.store o (creation_given (resources_defined client.catalog o) payload)

-- what it makes, where it is good and a number is free
abbrev pub newborn : Client → ℕ → List ℕ → Option Newborn
newborn client o payload = result_ok (newborn_judged client o payload)

-- for what there is no room, where something is made
abbrev pub creation_lack : Client → ℕ → Option Newborn → Option NoRoom
creation_lack client o None = None
creation_lack client o (Some b) =
    lack_of_room client.store (length client.accounts) (resources_defined client.catalog o)
    (place_of o b.number) b.given

abbrev pub lacks_room : Client → ℕ → Option Newborn → Bool
lacks_room client o new = is_some (creation_lack client o new)

-- a refusal changes nothing; else there is the new instance, which the server owns
abbrev pub create_unless : Option Ruling → Client → ℕ → ℕ → Option Newborn → Outcome
create_unless (Some ruling) client server o new = answer_alone client (bare ruling)
create_unless None client server o None = answer_alone client (bare rule.Payload)
create_unless None client server o (Some b) =
    record {
      answer = created_answer (place_of o b.number);
      client = with_stored client
          (with_created client.store (length client.accounts) server (resources_defined client.catalog o)
          (place_of o b.number) b.given);
    }
