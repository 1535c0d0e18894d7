-- What is counted of the ports of a session, and what is taken of them to be told.
use Rattle.std.specs.Prelude.{◌≡◌, ℕ, List, [], ◌++◌, Option, None, Some}
use Rattle.fleet_link.specs.Counting.{AreCountsOf}
use Rattle.fleet_link.specs.Traffic.{Traffic}
use Rattle.fleet_wire.specs.declared.happened.Happened.{Happened}
use Rattle.fleet_wire.specs.declared.note.Note.{Note}
use Rattle.fleet_wire.specs.declared.plan.Plan.{Plan}
use Rattle.fleet_wire.specs.Happened.{happened_in}
use Rattle.fleet_wire.specs.Over.{FixedWire, IsOverWire}
use Rattle.fleet_lines.specs.declared.counted.Account.{Account}
use Rattle.fleet_lines.specs.declared.shown.Shown.{Shown}
use Rattle.fleet_lines.specs.Shown.{AreShown}

-- ---- what is taken

-- a wire with this plan, for n devices
pub record PlannedWire : Type 0 where
  pub plan : Plan
  pub devices : ℕ

-- Of ports: the wire between them and the devices, if there is one; the traffic that they had told before they were
-- shown, if they are; and all that was taken since: notes of the wire, and datagrams that devices received or sent.
pub record WatchedPorts : Type 0 where
  pub wire : Option PlannedWire
  pub began : Option (ℕ → Option Traffic)
  pub notes : List Note
  pub shown : List Shown

-- without a wire, and not shown
abbrev pub unwatched_ports : WatchedPorts
unwatched_ports = record { wire = None; began = None; notes = []; shown = [] }

-- with a wire of which this is fixed, and not shown
abbrev pub watched_on : FixedWire → WatchedPorts
watched_on fixed =
    record {
      wire = Some (record { plan = fixed.plan; devices = fixed.devices });
      began = None;
      notes = fixed.taken;
      shown = [];
    }

-- the same, shown: this was told at the beginning, and that was taken since
abbrev pub shown_over : WatchedPorts → (ℕ → Option Traffic) → List Shown → WatchedPorts
shown_over watched began shown =
    record { wire = watched.wire; began = Some began; notes = watched.notes; shown = shown }

-- these notes were taken too
abbrev pub with_notes : WatchedPorts → List Note → WatchedPorts
with_notes watched notes = record watched { notes = watched.notes ++ notes }

-- these datagrams were taken too
abbrev pub with_shown : WatchedPorts → List Shown → WatchedPorts
with_shown watched shown = record watched { shown = watched.shown ++ shown }

-- these are all datagrams that went through since ports are shown; none, if they are not
abbrev pub AreAllShown : Option (ℕ → Option Traffic) → (ℕ → Option Traffic) → List Shown → Type 0
AreAllShown None told shown = shown ≡ []
AreAllShown (Some began) told shown = AreShown began told shown

-- ---- what is counted

-- The ports carried this, and the devices received and sent that: it is what the wire made of the one by its plan; and
-- these are its notes.
pub record IsMadeBy (wired : PlannedWire) (notes : List Note) (carried told : ℕ → Option Traffic) : Type 0 where
  pub below : ℕ → Traffic
  pub below_is : (e : ℕ) → carried e ≡ Some (below e)
  pub near : ℕ → Traffic
  pub near_is : (e : ℕ) → told e ≡ Some (near e)
  pub over : ∥ IsOverWire wired.plan wired.devices notes below near ∥₁

-- without a wire the devices received and sent what the ports carried, and nothing is noted
abbrev pub IsMadeOf : Option PlannedWire → List Note → (ℕ → Option Traffic) → (ℕ → Option Traffic) → Type 0
IsMadeOf None notes carried told = (notes ≡ []) × ((e : ℕ) → told e ≡ carried e)
IsMadeOf (Some wired) notes carried told = IsMadeBy wired notes carried told

-- how often a wire did what, by its notes
abbrev pub happened_on : Option PlannedWire → List Note → Option Happened
happened_on None notes = None
happened_on (Some wired) notes = Some (happened_in notes)

-- what is counted of devices that received and sent this, where a wire, if there is one, has these notes: the datagrams
-- that the ports carried, and what happened to them on the wire
pub record IsAccount (wire : Option PlannedWire) (told : ℕ → Option Traffic) (notes : List Note) (account : Account)
    : Type 0 where
  pub carried : ℕ → Option Traffic
  pub counted : AreCountsOf carried account.counts
  pub made : IsMadeOf wire notes carried told
  pub happened : account.happened ≡ happened_on wire notes
