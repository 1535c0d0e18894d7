-- What a Delete answers and changes (OMA LwM2M 1.1 Core, Delete).
use Rattle.std.specs.Prelude.{ℕ, not, filter, List, [], ◌∷◌, Option, None, Some}
use Rattle.object_defs.specs.Numbers.{access_control_object}
use Rattle.object_defs.specs.declared.path.Path.{Path}
use Rattle.object_defs.specs.declared.path.Path.TheVariants.{Object, Instance, Resource, Part}
use Rattle.instance_store.specs.Stored.{Stored, has_instance, instances_of}
use Rattle.notifier.specs.Attributes.{Numbers, without_under}
use Rattle.device_instances.specs.Deletions.{without_deleted}
use Rattle.device_requests.specs.declared.ruling.Ruling.{Ruling}
use Rattle.device_requests.specs.declared.ruling.Ruling.TheVariants.{Deleted}
use Rattle.device_requests.specs.Answer.{Outcome, answer_alone, bare}
use Rattle.device_requests.specs.Client.{Client, with_attributes, with_stored}
use Rattle.device_requests.specs.Targets.{place_of}

-- the instance is removed, and each instance of Access Control for it
abbrev pub after_delete : Stored → Path → Stored
after_delete stored (Object o) = stored
after_delete stored (Instance o i) = without_deleted stored (place_of o i)
after_delete stored (Resource o i r) = stored
after_delete stored (Part o i r n) = stored

-- the instances of Access Control that were there and are not any more
abbrev pub taken_away : Stored → Stored → List ℕ
taken_away old new =
    filter (λ j. not (has_instance new (place_of access_control_object j)))
    (instances_of old access_control_object)

-- without the attributes of all servers at or below these instances of Access Control
abbrev pub without_controls : Numbers → List ℕ → Numbers
without_controls m [] = m
without_controls m (j ∷ js) = without_controls (without_under m (Instance access_control_object j)) js

-- attributes go with what they are set for
abbrev pub attributes_after_delete : Client → Path → Numbers
attributes_after_delete client path =
    without_controls (without_under client.attributes path) (taken_away client.store (after_delete client.store path))

-- a refusal changes nothing
abbrev pub delete_unless : Option Ruling → Client → Path → Outcome
delete_unless (Some ruling) client path = answer_alone client (bare ruling)
delete_unless None client path =
    record {
      answer = bare Deleted;
      client = with_attributes (with_stored client (after_delete client.store path))
          (attributes_after_delete client path);
    }
