-- Devices on UDP: what their session came to, put together from its parts.
use Rattle.std.proofs.Common.{ℕ, Bool, Bor, ◌==◌, ◌&&◌, ◌≡◌, ◌⊎◌, arith, List, [], ◌∷◌, length, map, Option, None, Some}
use Rattle.std.proofs.Common.{inl}
use Rattle.std.proofs.Common.{inr, IfErr, IfOk, OnErr, Result, Ok, Err, option_map, false, true, refl, sym, subst, ap}
use Rattle.std.proofs.Common.{◌∙◌}
use Rattle.std.specs.Io.KnownBytes.{Appends}
use Rattle.std.specs.declared.net.socket_addr.SocketAddr.{SocketAddr}
use Rattle.command_line.specs.declared.fleet_words.AskedFleet.{AskedFleet}
use Rattle.command_line.specs.declared.wire_words.AskedWire.{AskedWire}
use Rattle.fleet_wire.specs.declared.note.Note.{Note}
use Rattle.fleet_wire.specs.declared.plan.Plan.{Plan}
use Rattle.fleet_wire.specs.Over.{FixedWire}
use Rattle.fleet_lines.specs.declared.shown.Shown.{Shown}
use Rattle.fleet_lines.specs.Counting.{AreAllShown, IsAccount, PlannedWire}
use Rattle.fleet_lines.specs.Shown.{AreShownOf}
use Rattle.live_link.specs.Wire.{WhereTold}
use Rattle.std.proofs.Math.Logic.{∥∥₁_map}
use Rattle.scenario_image.specs.declared.fault.ScenarioFault.{ScenarioFault}
use Rattle.scenario_image.specs.declared.fault.ScenarioFault.TheVariants as session
use Rattle.scenario_image.specs.Image.{IsImageIn}
use Rattle.scenario_image.specs.Scenario.{Scenario}
use Rattle.live_link.proofs.Turned.{none_read}
use Rattle.fleet_link.specs.declared.directory.FixedServer.{FixedServer}
use Rattle.fleet_link.specs.declared.slot.Slot.{Slot}
use Rattle.fleet_link.specs.Saved.{IsSaved}
use Rattle.fleet_link.specs.Serving.{AreAt, AreRepeated, IsFleet}
use Rattle.fleet_link.specs.Timing.{AreAsked}
use Rattle.fleet_link.specs.Traffic.{Traffic, no_traffic}
use Rattle.command_files.specs.Fault.{session_fault, IsReadingFault, IsWritingFault}
use Rattle.command_files.specs.Files.{Grows, MadeFile}
use Rattle.command_files.specs.Loading.{IsHeld}
use Rattle.command_files.specs.World.{FilesKnown, OnlyMakes, OnlyNotes, OnlyPrints, StreamFaults, Streams, World}
use Rattle.command_files.specs.declared.fault.Fault.{Fault}
use Rattle.command_files.specs.declared.fault.Fault.TheVariants as faults
use Rattle.command_files.specs.declared.refusal.Refusal.{Refusal}
use Rattle.command_sources.specs.Sources.{IsNoScenario, IsScenarioOf}
use Rattle.command_fleet.specs.declared.concluding.Held.{Held}
use Rattle.command_files.specs.declared.devices.Devices.{Devices}
use Rattle.command_fleet.specs.declared.telling.Telling.{Telling}
use Rattle.command_fleet.specs.Devices.{AreChosen, IsPart}
use Rattle.command_fleet.specs.Inside.{IsNotKeptUp, IsShownFrom}
use Rattle.command_fleet.specs.Listing.{AreListedIf, IsUnlisted}
use Rattle.command_fleet.specs.Servers.{AreServers, IsServersFault}
use Rattle.command_fleet.specs.Snapshots.{AreKept}
use Rattle.command_fleet.specs.Fleet.{AreMissing, AreReady, IsBrokenOff, IsConcluded, IsEndless, IsFleetDone}
use Rattle.command_fleet.specs.Fleet.{IsFleetFault, IsOpened, IsPlace, IsReadyTold, IsSaveFault, IsSavedAt, IsSavedIf}
use Rattle.command_fleet.specs.Fleet.{IsScenarioIf, IsServed, IsSessionCut, IsSessionDone, IsSessionFault}
use Rattle.command_fleet.specs.Fleet.{IsUnconcluded, IsUnfit}
use Rattle.command_fleet.specs.declared.shortfall.Shortfall.{Shortfall}
use Rattle.command_fleet.specs.Fleet.{IsHeldDone, IsHeldFault, IsShownIf, IsUnsaved, IsUnstarted, Session, shortfall_of}
use Rattle.command_fleet.specs.Fleet.{free_ports, has_passed, line_of, opening_text, ready_line, status_of, telling_for}
use Rattle.command_fleet.specs.Telling.{AreTold, IsCut, telling_of}
use Rattle.command_fleet.proofs.Kept.{kept_first}
use Rattle.command_fleet.proofs.Told.{cut_at_start}
use Rattle.command_fleet.specs.Wires.{IsNoPlan, IsPlanBy, IsPlanned, IsWireBy}

-- ---- the scenario of a session

pub saved_at : (before after : Option (List MadeFile)) (path at bytes : List ℕ) (part s : Scenario) (slots : List Slot)
    → at ≡ path → IsSaved part slots s → IsImageIn 2 bytes s
    → Grows before after ((record { path = at; bytes = bytes }) ∷ []) → IsSavedAt before after path part slots
saved_at before after path at bytes part s slots same saved image grows = record {
  scenario = s;
  saved = saved;
  bytes = bytes;
  image = image;
  made = subst (λ p. Grows before after ((record { path = p; bytes = bytes }) ∷ [])) same grows;
}

pub unfit_memory : (fault : Fault) → fault ≡ faults.Memory → IsUnfit fault
unfit_memory fault h = subst IsUnfit (sym h) tt

pub unfit_step : (e : ScenarioFault) → IsUnfit (session_fault e)
unfit_step session.Range = tt
unfit_step session.Missing = tt
unfit_step session.Limit = tt
unfit_step session.Memory = tt

pub not_fit : (refuses : List ℕ → Type 0) (path : List ℕ) (fault : Fault) → IsUnfit fault
    → IsSaveFault refuses path fault
not_fit refuses path fault h = inl h

pub not_made : (refuses : List ℕ → Type 0) (path at : List ℕ) (fault : Fault) → at ≡ path
    → IsWritingFault (refuses at) fault → IsSaveFault refuses path fault
not_made refuses path at fault same h = inr (subst (λ p. IsWritingFault (refuses p) fault) same h)

-- ---- its conclusion

pub concluded : (before printed after : World) (asked : AskedFleet) (part : Scenario) (session : Session)
    (held : Held) (short : Shortfall) → short ≡ shortfall_of (option_map (λ p. p.now) asked.save) session.slots
    → Appends before.streams.output printed.streams.output (line_of asked.json short session)
    → OnlyPrints before printed
    → IsSavedIf printed.made after.made (option_map (λ p. p.now) asked.save) part session.slots
    → OnlyMakes printed after → IsScenarioIf (option_map (λ p. p.now) asked.save) part session.slots held.saved
    → held.status ≡ status_of asked.strict session.account.counts → IsConcluded before after asked part session held
concluded before printed after asked part session held short is got prints saved makes left ended = record {
  printed = subst (λ n. Appends before.streams.output after.streams.output (line_of asked.json n session)) is
      (subst (λ o. Appends before.streams.output o (line_of asked.json short session)) (sym makes.1) got);
  saved = subst (λ m. IsSavedIf m after.made (option_map (λ p. p.now) asked.save) part session.slots) prints.0 saved;
  left = left;
  ended = ended;
}

pub line_unprinted : (refuses : List ℕ → Type 0) (faults : StreamFaults) (before after : Streams) (asked : AskedFleet)
    (session : Session) (fault : Fault) (short : Shortfall)
    → short ≡ shortfall_of (option_map (λ p. p.now) asked.save) session.slots
    → IsWritingFault (faults.output_refuses (line_of asked.json short session)) fault
    → IsUnconcluded refuses faults before after asked session fault
line_unprinted refuses faults before after asked session fault short is h =
    inl (subst (λ n. IsWritingFault (faults.output_refuses (line_of asked.json n session)) fault) is h)

pub steps_unsaved : (refuses : List ℕ → Type 0) (faults : StreamFaults) (before printed after : World)
    (asked : AskedFleet) (session : Session) (fault : Fault) (short : Shortfall)
    → short ≡ shortfall_of (option_map (λ p. p.now) asked.save) session.slots
    → Appends before.streams.output printed.streams.output (line_of asked.json short session)
    → OnlyMakes printed after → IsUnsaved refuses (option_map (λ p. p.now) asked.save) fault
    → IsUnconcluded refuses faults before.streams after.streams asked session fault
steps_unsaved refuses faults before printed after asked session fault short is got makes h =
    inr (
      subst (λ n. Appends before.streams.output after.streams.output (line_of asked.json n session)) is
          (subst (λ o. Appends before.streams.output o (line_of asked.json short session)) (sym makes.1) got),
      h,
    )

-- ---- there is no session

pub source_refused : (files : FilesKnown) (faults : StreamFaults) (before after : World) (asked : AskedFleet)
    (terminal : Bool)
    (fault : Fault)
    → IsReadingFault (files.fails asked.file.now) fault
    ⊎ IsHeld files.holds asked.file.now (λ bytes. IsNoScenario bytes fault)
    → after.made ≡ before.made → after.streams.output ≡ before.streams.output
    → after.streams.errors ≡ before.streams.errors
    → IsFleetFault files faults before after asked terminal fault
source_refused files faults before after asked terminal fault why none silent untold =
    inl (record { why = inl why; none_made = none; silent = silent; untold = untold })

unstarted : (files : FilesKnown) (streams : StreamFaults) (before after : World) (asked : AskedFleet)
    (terminal : Bool) (s : Scenario)
    (fault : Fault) → IsHeld files.holds asked.file.now (λ bytes. IsScenarioOf bytes s) → IsUnstarted asked s fault
    → after.made ≡ before.made → after.streams.output ≡ before.streams.output
    → after.streams.errors ≡ before.streams.errors
    → IsFleetFault files streams before after asked terminal fault
unstarted files streams before after asked terminal s fault found why none silent untold =
    inl (record {
      why = inr (record { scenario = s; found = found; so = why });
      none_made = none;
      silent = silent;
      untold = untold;
    })

pub devices_missing : (files : FilesKnown) (streams : StreamFaults) (before after : World) (asked : AskedFleet)
    (terminal : Bool)
    (s : Scenario) → IsHeld files.holds asked.file.now (λ bytes. IsScenarioOf bytes s) → AreMissing asked s
    → after.made ≡ before.made → after.streams.output ≡ before.streams.output
    → after.streams.errors ≡ before.streams.errors
    → IsFleetFault files streams before after asked terminal faults.NoDevice
devices_missing files streams before after asked terminal s found missing none silent untold =
    unstarted files streams before after asked terminal s faults.NoDevice found missing none silent untold

pub part_refused : (files : FilesKnown) (streams : StreamFaults) (before after : World) (asked : AskedFleet)
    (terminal : Bool)
    (s : Scenario) (fault : Fault) → IsHeld files.holds asked.file.now (λ bytes. IsScenarioOf bytes s)
    → fault ≡ faults.Memory → after.made ≡ before.made → after.streams.output ≡ before.streams.output
    → after.streams.errors ≡ before.streams.errors
    → IsFleetFault files streams before after asked terminal fault
part_refused files streams before after asked terminal s fault found memory none silent untold =
    unstarted files streams before after asked terminal s fault found
    (subst (IsUnstarted asked s) (sym memory) tt) none silent untold

why_unbound : (asked : AskedFleet) (s : Scenario) (devices : Devices) (fault : Fault)
    → AreChosen s (option_map (λ w. w.now) asked.devices) devices → (fault ≡ faults.Memory) ⊎ (fault ≡ faults.Bind)
    → IsUnstarted asked s fault
why_unbound asked s devices fault chosen (inl h) = subst (IsUnstarted asked s) (sym h) tt
why_unbound asked s devices fault chosen (inr h) = subst (IsUnstarted asked s) (sym h) (devices, chosen)

pub ports_refused : (files : FilesKnown) (streams : StreamFaults) (before after : World) (asked : AskedFleet)
    (terminal : Bool)
    (s : Scenario) (devices : Devices) (fault : Fault)
    → IsHeld files.holds asked.file.now (λ bytes. IsScenarioOf bytes s)
    → AreChosen s (option_map (λ w. w.now) asked.devices) devices → (fault ≡ faults.Memory) ⊎ (fault ≡ faults.Bind)
    → after.made ≡ before.made → after.streams.output ≡ before.streams.output
    → after.streams.errors ≡ before.streams.errors
    → IsFleetFault files streams before after asked terminal fault
ports_refused files streams before after asked terminal s devices fault found chosen why none silent untold =
    unstarted files streams before after asked terminal s fault found
    (why_unbound asked s devices fault chosen why) none silent untold

pub plan_refused : (files : FilesKnown) (streams : StreamFaults) (before after : World) (asked : AskedFleet)
    (terminal : Bool) (s : Scenario) (fault : Fault)
    → IsHeld files.holds asked.file.now (λ bytes. IsScenarioOf bytes s)
    → (fault ≡ faults.Memory) ⊎ ((fault ≡ faults.Wire) × IsNoPlan asked.wire)
    → after.made ≡ before.made → after.streams.output ≡ before.streams.output
    → after.streams.errors ≡ before.streams.errors
    → IsFleetFault files streams before after asked terminal fault
plan_refused files streams before after asked terminal s fault found (inl memory) none silent untold =
    unstarted files streams before after asked terminal s fault found
    (subst (IsUnstarted asked s) (sym memory) tt) none silent untold
plan_refused files streams before after asked terminal s fault found (inr word) none silent untold =
    unstarted files streams before after asked terminal s fault found
    (subst (IsUnstarted asked s) (sym word.0) word.1) none silent untold

pub place_refused : (files : FilesKnown) (streams : StreamFaults) (before after : World) (asked : AskedFleet)
    (terminal : Bool)
    (s : Scenario) (devices : Devices) (fault : Fault)
    → IsHeld files.holds asked.file.now (λ bytes. IsScenarioOf bytes s)
    → AreChosen s (option_map (λ w. w.now) asked.devices) devices → fault ≡ faults.Bind
    → after.made ≡ before.made → after.streams.output ≡ before.streams.output
    → after.streams.errors ≡ before.streams.errors
    → IsFleetFault files streams before after asked terminal fault
place_refused files streams before after asked terminal s devices fault found chosen why none silent untold =
    ports_refused files streams before after asked terminal s devices fault found chosen (inr why) none silent untold

pub servers_refused : (files : FilesKnown) (streams : StreamFaults) (before after : World) (asked : AskedFleet)
    (terminal : Bool)
    (s : Scenario) (devices : Devices) (words : List (List ℕ)) (about : Option (List ℕ)) (fault : Fault)
    → IsHeld files.holds asked.file.now (λ bytes. IsScenarioOf bytes s)
    → AreChosen s (option_map (λ w. w.now) asked.devices) devices → IsServersFault s words about fault
    → after.made ≡ before.made → after.streams.output ≡ before.streams.output
    → after.streams.errors ≡ before.streams.errors
    → IsFleetFault files streams before after asked terminal fault
servers_refused files streams before after asked terminal s devices words about fault found chosen why none silent
    untold =
    ports_refused files streams before after asked terminal s devices fault found chosen (of why) none silent untold
  where
    of : IsServersFault s words about fault → (fault ≡ faults.Memory) ⊎ (fault ≡ faults.Bind)
    of (inl memory) = inl memory
    of (inr wrong) = inr wrong.0

-- ---- the session

-- the servers of the words that were handed over
pub fixed_as : (s : Scenario) (given words : List (Bor (List ℕ))) (servers : List FixedServer) → given ≡ words
    → AreServers s (map (λ w. w.now) given) servers → AreServers s (map (λ w. w.now) words) servers
fixed_as s given words servers same are = subst (λ ws. AreServers s (map (λ w. w.now) ws) servers) same are

pub ready : (files : FilesKnown) (asked : AskedFleet) (s part : Scenario) (devices : Devices)
    (servers : List FixedServer) (place : SocketAddr)
    → IsHeld files.holds asked.file.now (λ bytes. IsScenarioOf bytes s)
    → AreChosen s (option_map (λ w. w.now) asked.devices) devices
    → AreServers s (map (λ w. w.now) asked.servers.items) servers
    → IsPart s devices asked.copies asked.play part → IsPlace asked.bind.now asked.port place
    → AreReady files asked part place
ready files asked s part devices servers place found chosen fixed is there = record {
  scenario = s;
  devices = devices;
  asked_for = record { found = found; chosen = chosen; servers = servers; fixed = fixed };
  part_is = is;
  place_is = there;
}

-- nothing was read yet, and nothing asked
pub none_asked : (read asked : Option (List ℕ)) (first : Option ℕ) (now : ℕ) → first ≡ None → now ≡ 0
    → AreAsked read read asked asked first now 0
none_asked read asked first now none zero = record {
  readings = [];
  read = none_read read;
  seconds = [];
  asked = none_read asked;
  are = record { count = refl; each = λ k l. absurd (omega (arith, l)) };
  often = omega arith;
  first_is = none;
  now_is = zero;
}

endless : (rb ra ab aa : Option (List ℕ)) (first : Option ℕ) (now : ℕ)
    → AreAsked rb ra ab aa first now 18446744073709551615 → IsEndless now
endless rb ra ab aa first now h = record {
  readings = h.readings;
  many = omega (arith, h.often, h.are.count);
  second_is = h.now_is;
}

-- it had its seconds, or was asked to end; else its clock was read too often
pub ended_so : (seconds : Option ℕ) (quit : Type 0) (second now : ℕ) (rb ra ab aa : Option (List ℕ)) (first : Option ℕ)
    → now ≡ second
    → (has_passed seconds second ≡ true) ⊎ (quit ⊎ AreAsked rb ra ab aa first second 18446744073709551615)
    → (has_passed seconds now ≡ true) ⊎ (quit ⊎ IsEndless now)
ended_so seconds quit second now rb ra ab aa first same (inl h) =
    inl (subst (λ n. has_passed seconds n ≡ true) (sym same) h)
ended_so seconds quit second now rb ra ab aa first same (inr (inl h)) = inr (inl h)
ended_so seconds quit second now rb ra ab aa first same (inr (inr h)) =
    inr (inr (subst IsEndless (sym same) (endless rb ra ab aa first second h)))

-- ports that are shown from the beginning, when nothing had gone through them
pub shown_if : (show : Bool) (began : Option (ℕ → Option Traffic)) (told : ℕ → Option Traffic) (shown : List Shown)
    → IsShownFrom show began → ∥ AreAllShown began told shown ∥₁ → ∥ IsShownIf show told shown ∥₁
shown_if false began told shown none all = subst (λ b. ∥ AreAllShown b told shown ∥₁) none all
shown_if true None told shown none all = absurd none
shown_if true (Some began) told shown from all =
    ∥∥₁_map all (λ h e. subst (λ t. WhereTold (AreShownOf e shown) t (told e)) (from e) (h e))

unfoldable pub served : (s : Scenario) (played repeat show : Bool) (seconds : Option ℕ) (quit : Bool)
    (wire : Option PlannedWire) (began : Option (ℕ → Option Traffic)) (notes : List Note) (shown : List Shown)
    (session : Session) (before after : ℕ → Option Traffic)
    → IsFleet s played before session.slots session.second false after
    → AreAt session.slots (length session.slots) session.second
    → (has_passed seconds session.second ≡ true) ⊎ ((quit ≡ true) ⊎ IsEndless session.second)
    → ((e : ℕ) → before e ≡ Some no_traffic) → IsAccount wire after notes session.account
    → AreRepeated session.slots (played && repeat) → IsShownFrom show began
    → ∥ AreAllShown began after shown ∥₁ → IsServed s played repeat show seconds quit wire notes shown session
served s played repeat show seconds quit wire began notes shown session before after fleet finished ended new counted
    repeated from all =
    record {
      before = before;
      new = new;
      after = after;
      counted = counted;
      shown_are = shown_if show began after shown from all;
      fleet = fleet;
      repeated = repeated;
      finished = finished;
      ended = ended;
    }

-- that the devices are there, told of as many as there are rows
ready_told : (json : Bool) (rows devices : ℕ) (place : SocketAddr) (ports : List ℕ) (before after : Streams)
    → devices ≡ rows → Appends before.errors after.errors (ready_line devices place)
    → Appends before.output after.output (opening_text json devices place ports)
    → IsReadyTold json rows place ports before after
ready_told json rows devices place ports before after same shown printed =
    subst (λ n. IsReadyTold json n place ports before after) same (record { shown = shown; printed = printed })

-- the file of their ports was made, that was noted, and then it was printed which ports the system chose
pub opened : (asked : AskedFleet) (part : Scenario) (place : SocketAddr) (ports free : List ℕ) (devices : ℕ)
    (before listed noted after : World) → devices ≡ length part.rows → free ≡ free_ports (asked.port == 0) ports
    → AreListedIf before.made listed.made (option_map (λ p. p.now) asked.ports) ports → OnlyMakes before listed
    → Appends listed.streams.errors noted.streams.errors (ready_line devices place) → OnlyNotes listed noted
    → Appends noted.streams.output after.streams.output (opening_text asked.json devices place free)
    → OnlyPrints noted after → IsOpened asked part place ports before after
opened asked part place ports free devices before listed noted after same is made makes shown notes printed prints =
    record {
      listed = subst (λ m. AreListedIf before.made m (option_map (λ p. p.now) asked.ports) ports)
          (sym (prints.0 ∙ notes.0)) made;
      told = ready_told asked.json (length part.rows) devices place (free_ports (asked.port == 0) ports)
          before.streams after.streams same
          (subst (λ e. Appends before.streams.errors e (ready_line devices place)) (sym prints.2)
          (subst (λ e. Appends e noted.streams.errors (ready_line devices place)) makes.2 shown))
          (subst (λ ps. Appends before.streams.output after.streams.output (opening_text asked.json devices place ps))
          is
          (subst (λ o. Appends o after.streams.output (opening_text asked.json devices place free))
          (notes.2 ∙ makes.1) printed));
    }

pub ports_unlisted : (refuses : List ℕ → Type 0) (streams : StreamFaults) (before after : World) (asked : AskedFleet)
    (terminal : Bool) (part : Scenario) (place : SocketAddr) (ports : List ℕ) (quit : Bool) (fault : Fault)
    → IsUnlisted refuses (option_map (λ p. p.now) asked.ports) fault → after.made ≡ before.made
    → OnlyMakes before after
    → IsSessionFault refuses streams before after asked terminal part place ports quit fault
ports_unlisted refuses streams before after asked terminal part place ports quit fault why none makes =
    inl (inl (why, none, (makes.1, makes.2)))

pub line_refused : (refuses : List ℕ → Type 0) (streams : StreamFaults) (before listed after : World)
    (asked : AskedFleet) (terminal : Bool) (part : Scenario) (place : SocketAddr) (ports : List ℕ) (quit : Bool)
    (devices : ℕ) (fault : Fault) → devices ≡ length part.rows
    → AreListedIf before.made listed.made (option_map (λ p. p.now) asked.ports) ports → OnlyMakes before listed
    → IsWritingFault (streams.errors_refuse (ready_line devices place)) fault → OnlyNotes listed after
    → IsSessionFault refuses streams before after asked terminal part place ports quit fault
line_refused refuses streams before listed after asked terminal part place ports quit devices fault same made makes why
    notes =
    inl (inr (
      subst (λ m. AreListedIf before.made m (option_map (λ p. p.now) asked.ports) ports) (sym notes.0) made,
      inl (
        subst (λ n. IsWritingFault (streams.errors_refuse (ready_line n place)) fault) same why,
        notes.2 ∙ makes.1,
      ),
    ))

pub opening_refused : (refuses : List ℕ → Type 0) (streams : StreamFaults) (before listed noted after : World)
    (asked : AskedFleet) (terminal : Bool) (part : Scenario) (place : SocketAddr) (ports free : List ℕ) (quit : Bool)
    (devices : ℕ) (fault : Fault) → devices ≡ length part.rows → free ≡ free_ports (asked.port == 0) ports
    → AreListedIf before.made listed.made (option_map (λ p. p.now) asked.ports) ports → OnlyMakes before listed
    → Appends listed.streams.errors noted.streams.errors (ready_line devices place) → OnlyNotes listed noted
    → IsWritingFault (streams.output_refuses (opening_text asked.json devices place free)) fault
    → OnlyPrints noted after
    → IsSessionFault refuses streams before after asked terminal part place ports quit fault
opening_refused refuses streams before listed noted after asked terminal part place ports free quit devices fault same
    is made makes shown notes why prints =
    let text : opening_text asked.json devices place free
    ≡ opening_text asked.json (length part.rows) place (free_ports (asked.port == 0) ports) =
    ap (λ n. opening_text asked.json n place free) same
    ∙ ap (opening_text asked.json (length part.rows) place) is in
    inl (inr (
      subst (λ m. AreListedIf before.made m (option_map (λ p. p.now) asked.ports) ports) (sym (prints.0 ∙ notes.0))
          made,
      inr (
        subst (λ n. Appends before.streams.errors after.streams.errors (ready_line n place)) same
            (subst (λ e. Appends before.streams.errors e (ready_line devices place)) (sym prints.2)
            (subst (λ e. Appends e noted.streams.errors (ready_line devices place)) makes.2 shown)),
        subst (λ l. IsWritingFault (streams.output_refuses l) fault) text why,
      ),
    ))

-- how the seconds are told, of as many devices as there are rows
pub telling_is : (asked : AskedFleet) (terminal : Bool) (part : Scenario) (devices : ℕ) (telling : Telling)
    → devices ≡ length part.rows → telling ≡ telling_of asked.json terminal devices
    → telling ≡ telling_for asked terminal part
telling_is asked terminal part devices telling same is = is ∙ ap (telling_of asked.json terminal) same

pub done_if : (before after : World) (asked : AskedFleet) (terminal : Bool) (part : Scenario) (place : SocketAddr)
    (ports : List ℕ) (quit : Bool) (wire : Option PlannedWire) (notes : List Note) (shown : List Shown)
    (session : Session)
    (telling : Telling) (first last : World) (r : Result Held Refusal) → IsOpened asked part place ports before first
    → IsWireBy asked.wire (length part.rows) wire
    → (were : IsServed part asked.play asked.repeat asked.show asked.seconds quit wire notes shown session)
    → telling ≡ telling_for asked terminal part
    → AreTold telling notes shown session.second first.streams last.streams
    → ((kept : ℕ) × AreKept asked part were.before kept session.second first.made last.made)
    → after.streams.errors ≡ last.streams.errors
    → IfOk r (IsConcluded last after asked part session)
    → IfOk r (IsSessionDone before after asked terminal part place ports quit)
done_if before after asked terminal part place ports quit wire notes shown session telling first last (Err e) opened
    wired were is told kept quiet done = tt
done_if before after asked terminal part place ports quit wire notes shown session telling first last (Ok held) opened
    wired were is told kept quiet done =
    record {
      first = first;
      opened = opened;
      wire = wire;
      wire_is = wired;
      session = session;
      notes = notes;
      shown = shown;
      served = were;
      last = last;
      told = subst (λ t. AreTold t notes shown session.second first.streams last.streams) is told;
      kept_last = kept.0;
      kept = kept.1;
      concluded = done;
      quiet = quiet;
    }

pub cut_if : (refuses : List ℕ → Type 0) (streams : StreamFaults) (before after : World) (asked : AskedFleet)
    (terminal : Bool) (part : Scenario) (place : SocketAddr) (ports : List ℕ) (telling : Telling) (first : World)
    (told : ℕ → Option Traffic) (fault : Fault) → IsOpened asked part place ports before first
    → telling ≡ telling_for asked terminal part → ((e : ℕ) → told e ≡ Some no_traffic)
    → IsBrokenOff telling refuses streams asked part told first after fault
    → IsSessionCut refuses streams before after asked terminal part place ports fault
cut_if refuses streams before after asked terminal part place ports telling first told fault opened is new cut =
    record {
      first = first;
      opened = opened;
      told = told;
      new = new;
      cut = subst (λ t. IsBrokenOff t refuses streams asked part told first after fault) is cut;
    }

pub lost_if : (refuses : List ℕ → Type 0) (streams : StreamFaults) (before after : World) (asked : AskedFleet)
    (terminal : Bool) (part : Scenario) (place : SocketAddr) (ports : List ℕ) (quit : Bool) (wire : Option PlannedWire)
    (notes : List Note) (shown : List Shown) (session : Session) (telling : Telling) (first last : World)
    (r : Result Held Refusal) → IsOpened asked part place ports before first
    → IsWireBy asked.wire (length part.rows) wire
    → (were : IsServed part asked.play asked.repeat asked.show asked.seconds quit wire notes shown session)
    → telling ≡ telling_for asked terminal part
    → AreTold telling notes shown session.second first.streams last.streams
    → ((kept : ℕ) × AreKept asked part were.before kept session.second first.made last.made)
    → OnErr r (after.made ≡ last.made) → after.streams.errors ≡ last.streams.errors
    → IfErr r (λ e. IsUnconcluded refuses streams last.streams after.streams asked session e.fault)
    → IfErr r (λ e. IsSessionFault refuses streams before after asked terminal part place ports quit e.fault)
lost_if refuses streams before after asked terminal part place ports quit wire notes shown session telling first last
    (Ok held) opened wired were is told kept none quiet why = tt
lost_if refuses streams before after asked terminal part place ports quit wire notes shown session telling first last
    (Err e) opened wired were is told kept none quiet why =
    inr (inr (record {
      first = first;
      opened = opened;
      wire = wire;
      wire_is = wired;
      session = session;
      notes = notes;
      shown = shown;
      served = were;
      last = last;
      told = subst (λ t. AreTold t notes shown session.second first.streams last.streams) is told;
      kept_last = kept.0;
      kept = kept.1;
      why = why;
      none_made = none;
      quiet = quiet;
    }))

-- ---- it is broken off

-- while its devices are served
pub serving_cut : (telling : Telling) (refuses : List ℕ → Type 0) (streams : StreamFaults) (asked : AskedFleet)
    (part : Scenario) (told : ℕ → Option Traffic) (second last : ℕ) (before after : World) (fault : Fault)
    → IsCut telling streams second before.streams after.streams fault
    → AreKept asked part told last second before.made after.made
    → IsBrokenOff telling refuses streams asked part told before after fault
serving_cut telling refuses streams asked part told second last before after fault cut kept =
    inl (record { second = second; cut = cut; kept_last = last; kept = kept })

-- before an event was told
pub broken_at_start : (telling : Telling) (refuses : List ℕ → Type 0) (streams : StreamFaults) (asked : AskedFleet)
    (part : Scenario) (told : ℕ → Option Traffic) (world : World) (fault : Fault) → fault ≡ faults.Memory
    → IsBrokenOff telling refuses streams asked part told world world fault
broken_at_start telling refuses streams asked part told world fault memory =
    serving_cut telling refuses streams asked part told 0 0 world world fault
    (cut_at_start telling streams world.streams fault memory)
    (kept_first (option_map (λ p. p.now) asked.save) part asked.play (asked.play && asked.repeat) told 0 0 world.made
    refl refl)

-- by a snapshot
pub snapshot_lost : (telling : Telling) (refuses : List ℕ → Type 0) (streams : StreamFaults) (asked : AskedFleet)
    (part : Scenario) (told : ℕ → Option Traffic) (notes : List Note) (shown : List Shown) (second began last : ℕ)
    (before after : World) (made : Option (List MadeFile)) (fault : Fault)
    → AreTold telling notes shown second before.streams after.streams
    → AreKept asked part told last began before.made made → after.made ≡ made
    → IsNotKeptUp refuses (option_map (λ p. p.now) asked.save) last second fault
    → IsBrokenOff telling refuses streams asked part told before after fault
snapshot_lost telling refuses streams asked part told notes shown second began last before after made fault events kept
    none lost =
    inr (record {
      notes = notes;
      shown = shown;
      second = second;
      events = events;
      began = began;
      kept_last = last;
      kept = subst (AreKept asked part told last began before.made) (sym none) kept;
      due = lost.0;
      why = lost.1;
    })

-- ---- a wire on it

-- a wire of this plan is the one that the words ask for
pub wire_on : (wire : AskedWire) (rows devices : ℕ) (plan : Plan) (fixed made : FixedWire) → fixed ≡ made
    → made.plan ≡ plan → made.devices ≡ devices → devices ≡ rows → IsPlanned wire (Some plan)
    → IsWireBy wire rows (Some (record { plan = fixed.plan; devices = fixed.devices }))
wire_on wire rows devices plan fixed made is as_planned as_many same planned =
    let plan_is : fixed.plan ≡ plan = ap (λ (f : FixedWire). f.plan) is ∙ as_planned in
    let count : fixed.devices ≡ rows = ap (λ (f : FixedWire). f.devices) is ∙ as_many ∙ same in
    (planned.0, subst (IsPlanBy wire) (sym plan_is) planned.1, count)

pub held_done : (before after : World) (asked : AskedFleet) (terminal : Bool) (part : Scenario) (place : SocketAddr)
    (ports bound : List ℕ) (quit : Bool) (r : Result Held Refusal) → bound ≡ ports
    → IfOk r (IsSessionDone before after asked terminal part place bound quit)
    → IfOk r (IsHeldDone before after asked terminal part place ports)
held_done before after asked terminal part place ports bound quit (Err e) are done = tt
held_done before after asked terminal part place ports bound quit (Ok held) are done =
    (quit, subst (λ ps. IsSessionDone before after asked terminal part place ps quit held) are done)

pub held_broken : (refuses : List ℕ → Type 0) (streams : StreamFaults) (before after : World) (asked : AskedFleet)
    (terminal : Bool) (part : Scenario) (place : SocketAddr) (ports bound : List ℕ) (quit : Bool)
    (r : Result Held Refusal) → bound ≡ ports
    → IfErr r (λ e. IsSessionFault refuses streams before after asked terminal part place bound quit e.fault)
    → IfErr r (λ e. IsHeldFault refuses streams before after asked terminal part place ports e.fault)
held_broken refuses streams before after asked terminal part place ports bound quit (Ok held) are why = tt
held_broken refuses streams before after asked terminal part place ports bound quit (Err e) are why =
    inr (
      quit,
      subst (λ ps. IsSessionFault refuses streams before after asked terminal part place ps quit e.fault) are why,
    )

-- ---- the command

pub fleet_done : (files : FilesKnown) (before after : World) (asked : AskedFleet) (terminal : Bool) (part : Scenario)
    (place : SocketAddr) (ports : List ℕ) (r : Result Held Refusal) → AreReady files asked part place
    → length ports ≡ length part.rows → IfOk r (IsHeldDone before after asked terminal part place ports)
    → IfOk r (IsFleetDone files before after asked terminal)
fleet_done files before after asked terminal part place ports (Err e) there each done = tt
fleet_done files before after asked terminal part place ports (Ok held) there each done =
    record { part = part; place = place; ready = there; ports = ports; each = each; done = done }

pub fleet_broken : (files : FilesKnown) (streams : StreamFaults) (before after : World) (asked : AskedFleet)
    (terminal : Bool) (part : Scenario) (place : SocketAddr) (ports : List ℕ) (r : Result Held Refusal)
    → AreReady files asked part place → length ports ≡ length part.rows
    → IfErr r (λ e. IsHeldFault files.refuses streams before after asked terminal part place ports e.fault)
    → IfErr r (λ e. IsFleetFault files streams before after asked terminal e.fault)
fleet_broken files streams before after asked terminal part place ports (Ok held) there each why = tt
fleet_broken files streams before after asked terminal part place ports (Err e) there each why =
    inr (record { part = part; place = place; ready = there; ports = ports; each = each; why = why })
