-- The attributes that servers set, in every state that a device can reach (OMA LwM2M 1.1 Core, attributes).
use Rattle.std.specs.Prelude.{◌≡◌, ℕ, ℤ, pos, ◌+ℤ◌, ◌*ℤ◌, int_lt, true, List, [], ◌∷◌, Some}
use Rattle.object_defs.specs.declared.path.Path.{Path}
use Rattle.notifier.specs.declared.attribute.Name.TheVariants.{Gt, Lt, St}
use Rattle.notifier.specs.Attributes.{Numbers, assigned_number}
use Rattle.device_requests.specs.Client.{Client}
use Rattle.device_template.specs.Template.{Template}
use Rattle.device_machine.specs.declared.event.Event.{Event}
use Rattle.device_machine.specs.Reactions.{flat_after}
use Rattle.device_machine.specs.State.{Machine}
use Rattle.device_machine.specs.Template.{start_of}
use Rattle.laws_discover.specs.Printed.{HasValidAttributes}

-- what a server set at a path agrees: lt is below gt, and so is lt + 2 st
pub record NumbersAgree (m : Numbers) (server : ℕ) (path : Path) : Type 0 where
  pub below : (lt gt : ℤ) → assigned_number m server path Lt ≡ Some lt → assigned_number m server path Gt ≡ Some gt
      → int_lt lt gt ≡ true
  pub apart : (lt gt st : ℤ) → assigned_number m server path Lt ≡ Some lt → assigned_number m server path Gt ≡ Some gt
      → assigned_number m server path St ≡ Some st → int_lt (lt +ℤ (pos 2 *ℤ st)) gt ≡ true

-- each attribute has a number that it may have, at a level at which it stands, and those of a server at a path agree
pub record HasSoundAttributes (client : Client) : Type 0 where
  pub valid : HasValidAttributes client
  pub agree : (server : ℕ) (path : Path) → NumbersAgree client.attributes server path

-- no event of a device gives an attribute anything else
abbrev pub EventsKeepSound : Type 0
EventsKeepSound =
    (f : Machine) (event : Event) → HasSoundAttributes f.kept.client
    → HasSoundAttributes (flat_after f event).kept.client

-- the flat state after events, one after another
abbrev pub flat_after_all : Machine → List Event → Machine
flat_after_all f [] = f
flat_after_all f (event ∷ events) = flat_after_all (flat_after f event) events

-- so it is in each state that a device reaches from its start
abbrev pub ReachedAreSound : Type 0
ReachedAreSound =
    (class : Template) (events : List Event)
    → HasSoundAttributes (flat_after_all (record { kept = start_of class; recorded = [] }) events).kept.client
