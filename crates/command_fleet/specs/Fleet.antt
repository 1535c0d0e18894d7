-- What `fleet FILE PORT ..` comes to: devices of a scenario are served for a session, whose seconds are told; then its
-- line is printed, and then their steps are saved as a scenario.
use Rattle.std.specs.Prelude.{⊤, ℕ, ◌≡◌, ◌+◌, ◌⊎◌, ◌≤◌, ◌==◌, ◌&&◌, Bool, true, false, not, List, [], ◌∷◌, ◌++◌, length}
use Rattle.std.specs.Prelude.{nat_le, map, count_by, is_some, Option, None, Some, codes, option_map, if◌then◌else◌}
use Rattle.std.specs.Fmt.{decimal}
use Rattle.std.specs.Io.KnownBytes.{Appends}
use Rattle.std.specs.Net.Grammar.{IsIpText}
use Rattle.std.specs.Net.Socket.{IsPlainSocket, socket_ip}
use Rattle.std.specs.Net.Text.{socket_text}
use Rattle.std.specs.declared.net.socket_addr.SocketAddr.{SocketAddr}
use Rattle.command_line.specs.declared.fleet_words.AskedFleet.{AskedFleet}
use Rattle.scenario_image.specs.Image.{IsImageIn}
use Rattle.scenario_image.specs.Scenario.{Scenario}
use Rattle.fleet_link.specs.declared.directory.FixedServer.{FixedServer}
use Rattle.fleet_link.specs.declared.slot.Slot.{Slot}
use Rattle.fleet_link.specs.declared.udp.Counts.{Counts}
use Rattle.fleet_link.specs.Saved.{IsSaved}
use Rattle.fleet_link.specs.Serving.{AreAt, AreRepeated, IsFleet}
use Rattle.fleet_link.specs.Timing.{second_of}
use Rattle.fleet_link.specs.Traffic.{Traffic, no_traffic}
use Rattle.fleet_wire.specs.declared.note.Note.{Note}
use Rattle.fleet_wire.specs.Over.{new_ports}
use Rattle.fleet_lines.specs.declared.counted.Account.{Account}
use Rattle.fleet_lines.specs.declared.shown.Shown.{Shown}
use Rattle.fleet_lines.specs.Counting.{IsAccount, PlannedWire}
use Rattle.fleet_lines.specs.Shown.{AreShown}
use Rattle.fleet_wire.specs.declared.happened.Happened.{Happened}
use Rattle.scenario_words.specs.Words.{ended_line}
use Rattle.command_files.specs.Fault.{IsReadingFault, IsWritingFault}
use Rattle.command_files.specs.Files.{Grows, MadeFile}
use Rattle.command_files.specs.Loading.{IsHeld}
use Rattle.command_files.specs.World.{FilesKnown, IsSilent, StreamFaults, Streams, World}
use Rattle.command_files.specs.declared.fault.Fault.{Fault}
use Rattle.command_files.specs.declared.fault.Fault.TheVariants as faults
use Rattle.command_files.specs.declared.status.Status.{Status}
use Rattle.command_files.specs.declared.status.Status.TheVariants as ends
use Rattle.command_sources.specs.Sources.{IsNoScenario, IsScenarioOf}
use Rattle.command_fleet.specs.declared.concluding.Held.{Held}
use Rattle.command_files.specs.declared.devices.Devices.{Devices}
use Rattle.command_fleet.specs.declared.shortfall.Shortfall.{Shortfall}
use Rattle.command_fleet.specs.declared.telling.Telling.{Telling}
use Rattle.command_fleet.specs.Devices.{AreChosen, IsPart}
use Rattle.command_fleet.specs.InJson.{done_json, port_json, ready_json}
use Rattle.command_fleet.specs.Listing.{AreListedIf, IsUnlisted}
use Rattle.command_fleet.specs.Servers.{AreServers}
use Rattle.command_fleet.specs.Snapshots.{AreKept, snapshot_path}
use Rattle.command_fleet.specs.Telling.{AreTold, IsCut, telling_of}
use Rattle.command_fleet.specs.Wires.{IsNoPlan, IsWireBy}
use Rattle.trace_json.specs.Writing.{json_line}

-- ---- devices that are served

-- what came of a session: the devices, the second at its end, and what is counted of the datagrams
pub record Session : Type 0 where
  pub slots : List Slot
  pub second : ℕ
  pub account : Account

-- a session has a last second, and this is it, or a later one
abbrev pub has_passed : Option ℕ → ℕ → Bool
has_passed None second = false
has_passed (Some seconds) second = nat_le seconds second

-- a session came to no end of its own: its clock was read 2^64 - 1 times before its last second
pub record IsEndless (second : ℕ) : Type 0 where
  pub readings : List ℕ
  pub many : 18446744073709551615 ≤ length readings
  pub second_is : second ≡ second_of readings

-- where datagrams are shown, these are all that devices received and sent; where they are not, there are none
abbrev pub IsShownIf : Bool → (ℕ → Option Traffic) → List Shown → Type 0
IsShownIf false told shown = shown ≡ []
IsShownIf true told shown = AreShown new_ports told shown

-- The devices of a scenario were served, each from the start of its class to the end of the session, at ports that were
-- new, with this wire on them or with none, and whose datagrams were counted; these are the notes of the wire, and the
-- datagrams that are shown. The devices' rows were played, once or over and over, or were not. The session has at least
-- these seconds, unless it was asked to end.
pub record IsServed (s : Scenario) (played repeat show : Bool) (seconds : Option ℕ) (quit : Bool)
    (wire : Option PlannedWire) (notes : List Note) (shown : List Shown) (session : Session) : Type 0 where
  pub before : ℕ → Option Traffic
  pub new : (e : ℕ) → before e ≡ Some no_traffic
  pub after : ℕ → Option Traffic
  pub counted : IsAccount wire after notes session.account
  pub shown_are : ∥ IsShownIf show after shown ∥₁
  pub fleet : IsFleet s played before session.slots session.second false after
  pub repeated : AreRepeated session.slots (played && repeat)
  pub finished : AreAt session.slots (length session.slots) session.second
  pub ended :
      (has_passed seconds session.second ≡ true) ⊎ ((quit ≡ true) ⊎ IsEndless session.second)

-- ---- before it

-- the word is an IP address; this is the place at this port of it
pub record IsPlace (word : List ℕ) (port : ℕ) (place : SocketAddr) : Type 0 where
  pub address : IsIpText word (socket_ip place)
  pub port_is : IsPlainSocket place port

-- the file is a scenario, of which these devices are asked for, and these servers are fixed
pub record AreAskedFor (files : FilesKnown) (asked : AskedFleet) (s : Scenario) (devices : Devices) : Type 0 where
  pub found : IsHeld files.holds asked.file.now (λ bytes. IsScenarioOf bytes s)
  pub chosen : AreChosen s (option_map (λ w. w.now) asked.devices) devices
  pub servers : List FixedServer
  pub fixed : AreServers s (map (λ w. w.now) asked.servers.items) servers

-- a scenario has no such devices
abbrev pub AreMissing : AskedFleet → Scenario → Type 0
AreMissing asked s = (devices : Devices) → AreChosen s (option_map (λ w. w.now) asked.devices) devices → ⊥

-- what stands on standard error once the ports are there: `lwbench: ready N at ADDRESS:PORT`
abbrev pub ready_line : ℕ → SocketAddr → List ℕ
ready_line devices place =
    ended_line (codes "lwbench: ready " ++ decimal devices ++ codes " at " ++ socket_text place)

-- its object, if JSON is asked for
abbrev pub ready_text : Bool → ℕ → SocketAddr → List ℕ
ready_text false devices place = []
ready_text true devices place = json_line (ready_json devices place)

-- `device D at port PORT`; or its object, if JSON is asked for
abbrev pub port_line : ℕ → ℕ → List ℕ
port_line device port = ended_line (codes "device " ++ decimal device ++ codes " at port " ++ decimal port)

abbrev pub port_text : Bool → ℕ → ℕ → List ℕ
port_text false device port = port_line device port
port_text true device port = json_line (port_json device port)

-- the same of devices one after another, of which this is the first
abbrev pub ports_text : Bool → ℕ → List ℕ → List ℕ
ports_text json device [] = []
ports_text json device (port ∷ ports) = port_text json device port ++ ports_text json (device + 1) ports

-- what standard output gets once the ports are there, of which the system chose these
abbrev pub opening_text : Bool → ℕ → SocketAddr → List ℕ → List ℕ
opening_text json devices place ports = ready_text json devices place ++ ports_text json 0 ports

-- of the ports of devices those that the system chose: all, if the port that is asked for is 0, and none otherwise
abbrev pub free_ports : Bool → List ℕ → List ℕ
free_ports true ports = ports
free_ports false ports = []

-- the devices that are asked for are there, with the steps that are to be played, the first of them at this place
pub record AreReady (files : FilesKnown) (asked : AskedFleet) (part : Scenario) (place : SocketAddr) : Type 0 where
  pub scenario : Scenario
  pub devices : Devices
  pub asked_for : AreAskedFor files asked scenario devices
  pub part_is : IsPart scenario devices asked.copies asked.play part
  pub place_is : IsPlace asked.bind.now asked.port place

-- it was told that n devices are there, the first of them at this place, and which ports the system chose
pub record IsReadyTold (json : Bool) (devices : ℕ) (place : SocketAddr) (ports : List ℕ) (before after : Streams)
    : Type 0 where
  pub shown : Appends before.errors after.errors (ready_line devices place)
  pub printed : Appends before.output after.output (opening_text json devices place ports)

-- the devices are there, the first of them at this place: the file of their ports was made, if it has a place, and no
-- other file; and then that was told
pub record IsOpened (asked : AskedFleet) (part : Scenario) (place : SocketAddr) (ports : List ℕ)
    (before after : World) : Type 0 where
  pub listed : AreListedIf before.made after.made (option_map (λ p. p.now) asked.ports) ports
  pub told : IsReadyTold asked.json (length part.rows) place (free_ports (asked.port == 0) ports) before.streams
      after.streams

-- ---- its line

-- `received N sent N dropped N lost N`
abbrev pub counts_words : Counts → List ℕ
counts_words counts =
    codes "received " ++ decimal counts.received ++ codes " sent " ++ decimal counts.sent ++ codes " dropped "
    ++ decimal counts.dropped ++ codes " lost " ++ decimal counts.lost

-- ` wire lost N twice N swapped N late N`
abbrev pub happened_words : Happened → List ℕ
happened_words happened =
    codes " wire lost " ++ decimal happened.lost ++ codes " twice " ++ decimal happened.twice ++ codes " swapped "
    ++ decimal happened.swapped ++ codes " late " ++ decimal happened.late

-- the same, where there is a wire
abbrev pub wire_words : Option Happened → List ℕ
wire_words None = []
wire_words (Some happened) = happened_words happened

-- ` cut N`, where a row of what is saved is cut
abbrev pub cut_words : ℕ → List ℕ
cut_words cut = if cut == 0 then [] else codes " cut " ++ decimal cut

-- ` ended N`, where a device ended before the session did
abbrev pub ended_words : ℕ → List ℕ
ended_words ended = if ended == 0 then [] else codes " ended " ++ decimal ended

abbrev pub shortfall_words : Shortfall → List ℕ
shortfall_words shortfall = ended_words shortfall.ended ++ cut_words shortfall.cut

abbrev pub counted_line : ℕ → ℕ → List ℕ → List ℕ → List ℕ → List ℕ
counted_line seconds devices counted wire short =
    ended_line (codes "done seconds " ++ decimal seconds ++ codes " devices " ++ decimal devices ++ codes " "
    ++ counted ++ wire ++ short)

-- `done seconds S devices N received N sent N dropped N lost N`, what a wire did, how many devices ended before, and
-- how many rows are cut
abbrev pub done_line : ℕ → ℕ → Account → Shortfall → List ℕ
done_line seconds devices account shortfall =
    counted_line seconds devices (counts_words account.counts) (wire_words account.happened)
    (shortfall_words shortfall)

-- how many rows of what is saved end before the session did
abbrev pub cut_of : Option (List ℕ) → List Slot → ℕ
cut_of None slots = 0
cut_of (Some path) slots = count_by (λ (slot : Slot). not slot.recording.complete) slots

-- a device ended before the session did: its port failed, or its clock was at its end
abbrev pub has_ended : Slot → Bool
has_ended slot = is_some slot.end

-- how many did
abbrev pub ended_of : List Slot → ℕ
ended_of slots = count_by has_ended slots

-- what did not last as long as the session
abbrev pub shortfall_of : Option (List ℕ) → List Slot → Shortfall
shortfall_of save slots = record { ended = ended_of slots; cut = cut_of save slots }

-- the line of a session with this shortfall, or its object
abbrev pub line_of : Bool → Shortfall → Session → List ℕ
line_of false shortfall session = done_line session.second (length session.slots) session.account shortfall
line_of true shortfall session =
    json_line (done_json session.second (length session.slots) session.account shortfall)

-- what is printed at the end: the line of the session, or its object if JSON is asked for
abbrev pub end_text : AskedFleet → Session → List ℕ
end_text asked session =
    line_of asked.json (shortfall_of (option_map (λ p. p.now) asked.save) session.slots) session

-- status 3, with `--strict`, where a datagram was dropped or lost
abbrev pub status_of : Bool → Counts → Status
status_of strict counts =
    if strict && not (counts.dropped == 0 && counts.lost == 0) then ends.NotRun else ends.Done

-- ---- its scenario

-- the image, in version 2, of the scenario of the devices' steps was made at the path, and no other file
pub record IsSavedAt (before after : Option (List MadeFile)) (path : List ℕ) (part : Scenario) (slots : List Slot)
    : Type 0 where
  pub scenario : Scenario
  pub saved : IsSaved part slots scenario
  pub bytes : List ℕ
  pub image : IsImageIn 2 bytes scenario
  pub made : Grows before after ((record { path = path; bytes = bytes }) ∷ [])

-- the same where there is a path; else no file was made
abbrev pub IsSavedIf : Option (List MadeFile) → Option (List MadeFile) → Option (List ℕ) → Scenario → List Slot → Type 0
IsSavedIf before after None part slots = after ≡ before
IsSavedIf before after (Some path) part slots = IsSavedAt before after path part slots

-- the scenario of the devices' steps is there, where there is a path
abbrev pub IsScenarioIf : Option (List ℕ) → Scenario → List Slot → Option Scenario → Type 0
IsScenarioIf None part slots saved = saved ≡ None
IsScenarioIf (Some path) part slots saved = (s : Scenario) × (saved ≡ Some s) × IsSaved part slots s

-- no memory was left for the image, or a step cannot be one of a scenario
abbrev pub IsUnfit : Fault → Type 0
IsUnfit faults.Memory = ⊤
IsUnfit (faults.Session fault) = ⊤
IsUnfit _ = ⊥

-- there is no image, or no file could be made at the path
abbrev pub IsSaveFault : (List ℕ → Type 0) → List ℕ → Fault → Type 0
IsSaveFault refuses path fault = IsUnfit fault ⊎ IsWritingFault (refuses path) fault

abbrev pub IsUnsaved : (List ℕ → Type 0) → Option (List ℕ) → Fault → Type 0
IsUnsaved refuses None fault = ⊥
IsUnsaved refuses (Some path) fault = IsSaveFault refuses path fault

-- a snapshot could not be made, beside the path
abbrev pub IsUnkept : (List ℕ → Type 0) → Option (List ℕ) → Fault → Type 0
IsUnkept refuses path fault = IsUnsaved refuses (option_map snapshot_path path) fault

-- ---- its conclusion

-- the session's line was printed, and the steps were saved, if they are to be; the scenario that was saved is left, and
-- the status, which tells of losses
pub record IsConcluded (before after : World) (asked : AskedFleet) (part : Scenario) (session : Session)
    (held : Held) : Type 0 where
  pub printed : Appends before.streams.output after.streams.output (end_text asked session)
  pub saved : IsSavedIf before.made after.made (option_map (λ p. p.now) asked.save) part session.slots
  pub left : IsScenarioIf (option_map (λ p. p.now) asked.save) part session.slots held.saved
  pub ended : held.status ≡ status_of asked.strict session.account.counts

-- the session's line was not printed; or it was, and then the steps were not saved
abbrev pub IsUnconcluded : (List ℕ → Type 0) → StreamFaults → Streams → Streams → AskedFleet → Session → Fault
    → Type 0
IsUnconcluded refuses faults before after asked session fault =
    IsWritingFault (faults.output_refuses (end_text asked session)) fault
    ⊎ (Appends before.output after.output (end_text asked session)
    × IsUnsaved refuses (option_map (λ p. p.now) asked.save) fault)

-- ---- a session

-- how the seconds of these devices are told
abbrev pub telling_for : AskedFleet → Bool → Scenario → Telling
telling_for asked terminal part = telling_of asked.json terminal (length part.rows)

-- the file of the ports was made, and it was told that the devices are there; then they were served, and each second
-- was told, with what the wire did and the datagrams that are shown, and snapshots were made; and then the session was
-- concluded, of which standard error heard nothing
pub record IsSessionDone (before after : World) (asked : AskedFleet) (terminal : Bool) (part : Scenario)
    (place : SocketAddr) (ports : List ℕ) (quit : Bool) (held : Held) : Type 0 where
  pub first : World
  pub opened : IsOpened asked part place ports before first
  pub wire : Option PlannedWire
  pub wire_is : IsWireBy asked.wire (length part.rows) wire
  pub session : Session
  pub notes : List Note
  pub shown : List Shown
  pub served : IsServed part asked.play asked.repeat asked.show asked.seconds quit wire notes shown session
  pub last : World
  pub told : AreTold (telling_for asked terminal part) notes shown session.second first.streams last.streams
  -- the second of the last snapshot
  pub kept_last : ℕ
  pub kept : AreKept asked part served.before kept_last session.second first.made last.made
  pub concluded : IsConcluded last after asked part session held
  pub quiet : after.streams.errors ≡ last.streams.errors

-- standard error did not take the line that the devices are there; or it did, and standard output did not take what it
-- gets
abbrev pub IsUnready : StreamFaults → Streams → Streams → AskedFleet → Scenario → SocketAddr → List ℕ → Fault → Type 0
IsUnready streams before after asked part place ports fault =
    (IsWritingFault (streams.errors_refuse (ready_line (length part.rows) place)) fault
    × (after.output ≡ before.output))
    ⊎ (Appends before.errors after.errors (ready_line (length part.rows) place)
    × IsWritingFault (streams.output_refuses (opening_text asked.json (length part.rows) place ports)) fault)

-- it was not told that the devices are there: the file of their ports could not be made, and nothing was printed; or it
-- was made, if it has a place, and a stream did not take what it gets
abbrev pub IsUntold : (List ℕ → Type 0) → StreamFaults → World → World → AskedFleet → Scenario → SocketAddr → List ℕ
    → Fault → Type 0
IsUntold refuses streams before after asked part place ports fault =
    (IsUnlisted refuses (option_map (λ p. p.now) asked.ports) fault × (after.made ≡ before.made)
    × IsSilent before.streams after.streams)
    ⊎ (AreListedIf before.made after.made (option_map (λ p. p.now) asked.ports) ports
    × IsUnready streams before.streams after.streams asked part place (free_ports (asked.port == 0) ports) fault)

-- A session was broken off while its devices were served: this second was told last, and its snapshots were made up to
-- then.
pub record IsServingCut (telling : Telling) (streams : StreamFaults) (asked : AskedFleet) (part : Scenario)
    (told : ℕ → Option Traffic) (before after : World) (fault : Fault) : Type 0 where
  pub second : ℕ
  pub cut : IsCut telling streams second before.streams after.streams fault
  pub kept_last : ℕ
  pub kept : AreKept asked part told kept_last second before.made after.made

-- It was broken off by a snapshot, which was to be made at the end of a turn, at the second that was told last, and
-- could not be made. The others were made up to the second at which the turn began.
pub record IsSnapshotLost (telling : Telling) (refuses : List ℕ → Type 0) (asked : AskedFleet) (part : Scenario)
    (told : ℕ → Option Traffic) (before after : World) (fault : Fault) : Type 0 where
  pub notes : List Note
  pub shown : List Shown
  pub second : ℕ
  pub events : AreTold telling notes shown second before.streams after.streams
  pub began : ℕ
  pub kept_last : ℕ
  pub kept : AreKept asked part told kept_last began before.made after.made
  pub due : kept_last + 60 ≤ second
  pub why : IsUnkept refuses (option_map (λ p. p.now) asked.save) fault

-- the one or the other, on ports that told this at the beginning
abbrev pub IsBrokenOff : Telling → (List ℕ → Type 0) → StreamFaults → AskedFleet → Scenario → (ℕ → Option Traffic)
    → World → World → Fault → Type 0
IsBrokenOff telling refuses streams asked part told before after fault =
    IsServingCut telling streams asked part told before after fault
    ⊎ IsSnapshotLost telling refuses asked part told before after fault

-- it was told that the devices are there, at ports that were new; and then the session was broken off
pub record IsSessionCut (refuses : List ℕ → Type 0) (streams : StreamFaults) (before after : World) (asked : AskedFleet)
    (terminal : Bool) (part : Scenario) (place : SocketAddr) (ports : List ℕ) (fault : Fault) : Type 0 where
  pub first : World
  pub opened : IsOpened asked part place ports before first
  pub told : ℕ → Option Traffic
  pub new : (e : ℕ) → told e ≡ Some no_traffic
  pub cut : IsBrokenOff (telling_for asked terminal part) refuses streams asked part told first after fault

-- it came to its end, with its snapshots, and was not concluded; no file was made at its end
pub record IsSessionLost (refuses : List ℕ → Type 0) (streams : StreamFaults) (before after : World)
    (asked : AskedFleet)
    (terminal : Bool) (part : Scenario) (place : SocketAddr) (ports : List ℕ) (quit : Bool) (fault : Fault) : Type 0
  where
    pub first : World
    pub opened : IsOpened asked part place ports before first
    pub wire : Option PlannedWire
    pub wire_is : IsWireBy asked.wire (length part.rows) wire
    pub session : Session
    pub notes : List Note
    pub shown : List Shown
    pub served : IsServed part asked.play asked.repeat asked.show asked.seconds quit wire notes shown session
    pub last : World
    pub told : AreTold (telling_for asked terminal part) notes shown session.second first.streams last.streams
    pub kept_last : ℕ
    pub kept : AreKept asked part served.before kept_last session.second first.made last.made
    pub why : IsUnconcluded refuses streams last.streams after.streams asked session fault
    pub none_made : after.made ≡ last.made
    pub quiet : after.streams.errors ≡ last.streams.errors

abbrev pub IsSessionFault : (List ℕ → Type 0) → StreamFaults → World → World → AskedFleet → Bool → Scenario → SocketAddr
    → List ℕ → Bool → Fault → Type 0
IsSessionFault refuses streams before after asked terminal part place ports quit fault =
    IsUntold refuses streams before after asked part place ports fault
    ⊎ (IsSessionCut refuses streams before after asked terminal part place ports fault
    ⊎ IsSessionLost refuses streams before after asked terminal part place ports quit fault)

-- the same, of a session that was asked to end, or was not
abbrev pub IsHeldDone : World → World → AskedFleet → Bool → Scenario → SocketAddr → List ℕ → Held → Type 0
IsHeldDone before after asked terminal part place ports held =
    (quit : Bool) × IsSessionDone before after asked terminal part place ports quit held

-- there was no memory for a session, and no file was made; or it has a fault
abbrev pub IsHeldFault : (List ℕ → Type 0) → StreamFaults → World → World → AskedFleet → Bool → Scenario → SocketAddr
    → List ℕ
    → Fault → Type 0
IsHeldFault refuses streams before after asked terminal part place ports fault =
    ((fault ≡ faults.Memory) × (after.made ≡ before.made) × IsSilent before.streams after.streams)
    ⊎ ((quit : Bool) × IsSessionFault refuses streams before after asked terminal part place ports quit fault)

-- ---- the command

-- the devices are there, each at a port of its own, and have a session, which was asked to end, or was not
pub record IsFleetDone (files : FilesKnown) (before after : World) (asked : AskedFleet) (terminal : Bool)
    (held : Held) : Type 0 where
  pub part : Scenario
  pub place : SocketAddr
  pub ready : AreReady files asked part place
  pub ports : List ℕ
  pub each : length ports ≡ length part.rows
  pub done : IsHeldDone before after asked terminal part place ports held

-- the scenario has no such devices; or it has, and the address is none, a server is wrong, their ports could not be had
-- or a word for datagrams says no choice; or no memory was left
abbrev pub IsUnstarted : AskedFleet → Scenario → Fault → Type 0
IsUnstarted asked s faults.Memory = ⊤
IsUnstarted asked s faults.NoDevice = AreMissing asked s
IsUnstarted asked s faults.Wire = IsNoPlan asked.wire
IsUnstarted asked s faults.Bind =
    (devices : Devices) × AreChosen s (option_map (λ w. w.now) asked.devices) devices
IsUnstarted asked s _ = ⊥

-- the file is a scenario, of which this holds
pub record IsOverSource (files : FilesKnown) (asked : AskedFleet) (over : Scenario → Type 0) : Type 0 where
  pub scenario : Scenario
  pub found : IsHeld files.holds asked.file.now (λ bytes. IsScenarioOf bytes scenario)
  pub so : over scenario

-- there was no session: the file is to blame, or the devices, the address, the servers or the ports; and no file was
-- made, and nothing printed
pub record IsNoSession (files : FilesKnown) (before after : World) (asked : AskedFleet) (fault : Fault) : Type 0 where
  pub why :
      (IsReadingFault (files.fails asked.file.now) fault
      ⊎ IsHeld files.holds asked.file.now (λ bytes. IsNoScenario bytes fault))
      ⊎ IsOverSource files asked (λ s. IsUnstarted asked s fault)
  pub none_made : after.made ≡ before.made
  pub silent : after.streams.output ≡ before.streams.output
  pub untold : after.streams.errors ≡ before.streams.errors

-- the devices are there, each at a port of its own, and their session has a fault
pub record IsSessionBroken (files : FilesKnown) (streams : StreamFaults) (before after : World) (asked : AskedFleet)
    (terminal : Bool) (fault : Fault) : Type 0 where
  pub part : Scenario
  pub place : SocketAddr
  pub ready : AreReady files asked part place
  pub ports : List ℕ
  pub each : length ports ≡ length part.rows
  pub why : IsHeldFault files.refuses streams before after asked terminal part place ports fault

abbrev pub IsFleetFault : FilesKnown → StreamFaults → World → World → AskedFleet → Bool → Fault → Type 0
IsFleetFault files streams before after asked terminal fault =
    IsNoSession files before after asked fault
    ⊎ IsSessionBroken files streams before after asked terminal fault
