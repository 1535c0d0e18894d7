-- A device on UDP: what its session came to, put together from its parts.
use Rattle.std.proofs.Common.{ℕ, ◌≡◌, ◌≢◌, ◌⊎◌, Bool, true, false, List, [], ◌∷◌, Option, None, Some, inl, inr}
use Rattle.std.proofs.Common.{refl, sym, subst, IfErr, OnOk, Result, Ok, Err, option_map}
use Rattle.std.specs.Io.KnownBytes.{Appends}
use Rattle.std.specs.Prelude.{slice_get}
use Rattle.command_line.specs.declared.words.Live.{Live}
use Rattle.device_template.specs.Template.{Template}
use Rattle.scenario_image.specs.declared.fault.ScenarioFault.{ScenarioFault}
use Rattle.scenario_image.specs.declared.fault.ScenarioFault.TheVariants as session
use Rattle.scenario_image.specs.declared.step.Step.{Step}
use Rattle.scenario_image.specs.Image.{IsImageIn}
use Rattle.scenario_image.specs.Scenario.{Scenario, one_row, IsFirstRefusal}
use Rattle.live_link.specs.declared.session.LiveSession.{LiveSession}
use Rattle.live_link.specs.Served.{IsServed}
use Rattle.live_link.specs.Wire.{Traffic}
use Rattle.command_files.specs.Answers.{writing_fault}
use Rattle.command_files.specs.Fault.{session_fault, IsWritingFault}
use Rattle.command_files.specs.Files.{Grows, MadeFile}
use Rattle.command_files.specs.Loading.{IsImageFault, IsScenarioAt}
use Rattle.command_live.specs.Live.{line_of, HasNoRow, IsClassOf, IsConcluded, IsLiveDone, IsLiveFault, IsSaveFault}
use Rattle.command_live.specs.Live.{IsSaved, IsSavedAt, IsShown, IsUnconcluded, IsUnfit, IsUnheld, IsUnsaved}
use Rattle.command_live.specs.Live.{IsUnstarted, Transition}
use Rattle.command_files.specs.World.{FilesKnown, StreamFaults, Streams, World}
use Rattle.command_files.specs.declared.fault.Fault.{Fault}
use Rattle.command_files.specs.declared.fault.Fault.TheVariants as faults
use Rattle.command_files.specs.declared.files.FileFault.{FileFault}
use Rattle.command_files.specs.declared.files.FileFault.TheVariants as file
use Rattle.command_files.specs.declared.refusal.Refusal.{Refusal}
use Rattle.command_files.specs.declared.status.Status.{Status}

-- ---- the session

-- the class at the place that the row names
pub class_at_row : (s : Scenario) (device place : ℕ) (steps : List Step) (class : Template)
    → Some (record { class = place; steps = steps }) ≡ slice_get s.rows device
    → Some class ≡ slice_get s.classes place → IsClassOf s device class
class_at_row s device place steps class row stated =
    (steps, record { place = place; row = sym row; stated = sym stated })

-- what is known of a session over any wire and by any clock is known over those that tell nothing
pub untold : (class : Template) (turns : ℕ) (session : LiveSession) (before after : Option Traffic)
    (read_before read_after : Option (List ℕ)) → IsServed class turns session before after read_before read_after
    → IsServed class turns session None None None None
untold class turns session before after read_before read_after served =
    record {
      received = served.received;
      refusals = served.refusals;
      few = served.few;
      told = tt;
      readings = served.readings;
      read = tt;
      refused = served.refused;
      made = served.made;
      put_out = served.put_out;
      past_end = served.past_end;
      deaf = served.deaf;
    }

pub is_shown : (show : Bool) (output : Transition (Option (List ℕ))) → show ≡ true → IsShown show output
is_shown true output h = tt
is_shown false output h = let e : false ≡ true = h in absurd cc

pub not_shown : (show : Bool) (output : Transition (Option (List ℕ))) → output.after ≡ output.before
    → IsShown show output
not_shown true output h = tt
not_shown false output h = h

-- no memory was left
pub unheld_memory : (show : Bool) (fault : Fault) → fault ≡ faults.Memory → IsUnheld show fault
unheld_memory show fault h = subst (IsUnheld show) (sym h) tt

-- a datagram was not printed
pub unheld_written : (fault : Fault) (e : FileFault) → fault ≡ writing_fault e → IsUnheld true fault
unheld_written fault file.Memory h = subst (IsUnheld true) (sym h) tt
unheld_written fault (file.Failed why) h = subst (IsUnheld true) (sym h) refl

pub unheld_so : (show : Bool) (fault : Fault) → show ≡ true → IsUnheld true fault → IsUnheld show fault
unheld_so show fault h k = subst (λ b. IsUnheld b fault) (sym h) k

-- ---- its scenario

pub saved_at : (made : Transition (Option (List MadeFile))) (path at bytes : List ℕ) (class : Template)
    (steps : List Step) → at ≡ path → IsImageIn 2 bytes (one_row class steps)
    → Grows made.before made.after ((record { path = at; bytes = bytes }) ∷ []) → IsSavedAt made path class steps
saved_at made path at bytes class steps same image grows =
    (bytes, image, subst (λ p. Grows made.before made.after ((record { path = p; bytes = bytes }) ∷ [])) same grows)

pub unfit_memory : (class : Template) (steps : List Step) (fault : Fault) → fault ≡ faults.Memory
    → IsUnfit class steps fault
unfit_memory class steps fault h = subst (IsUnfit class steps) (sym h) tt

pub unfit_step : (class : Template) (steps : List Step) (e : ScenarioFault)
    → (e ≢ session.Memory → IsFirstRefusal class steps e) → IsUnfit class steps (session_fault e)
unfit_step class steps session.Range h = h (λ e. cc)
unfit_step class steps session.Missing h = h (λ e. cc)
unfit_step class steps session.Limit h = h (λ e. cc)
unfit_step class steps session.Memory h = tt

pub not_fit : (refuses : List ℕ → Type 0) (path : List ℕ) (class : Template) (steps : List Step) (fault : Fault)
    → IsUnfit class steps fault → IsSaveFault refuses path class steps fault
not_fit refuses path class steps fault h = inl h

pub not_made : (refuses : List ℕ → Type 0) (path at : List ℕ) (class : Template) (steps : List Step) (fault : Fault)
    → at ≡ path → IsWritingFault (refuses at) fault → IsSaveFault refuses path class steps fault
not_made refuses path at class steps fault same h = inr (subst (λ p. IsWritingFault (refuses p) fault) same h)

-- ---- its conclusion

pub concluded : (before after : World) (path : Option (List ℕ)) (class : Template) (session : LiveSession)
    → Appends before.streams.output after.streams.output (line_of session)
    → IsSaved (record { before = before.made; after = after.made }) path class session.steps.items
    → IsConcluded before after path class session
concluded before after path class session printed saved = record { printed = printed; saved = saved }

pub line_unprinted : (refuses : List ℕ → Type 0) (faults : StreamFaults) (before after : Streams)
    (path : Option (List ℕ))
    (class : Template) (session : LiveSession) (fault : Fault)
    → IsWritingFault (faults.output_refuses (line_of session)) fault
    → IsUnconcluded refuses faults before after path class session fault
line_unprinted refuses faults before after path class session fault h = inl h

pub steps_unsaved : (refuses : List ℕ → Type 0) (faults : StreamFaults) (before after : Streams)
    (path : Option (List ℕ))
    (class : Template) (session : LiveSession) (fault : Fault)
    → Appends before.output after.output (line_of session)
    → IsUnsaved refuses path class session.steps.items fault
    → IsUnconcluded refuses faults before after path class session fault
steps_unsaved refuses faults before after path class session fault printed h = inr (printed, h)

-- ---- the command

live_done : (files : FilesKnown) (before between after : World) (asked : Live) (s : Scenario) (class : Template)
    (session : LiveSession) → IsConcluded between after (option_map (λ p. p.now) asked.save) class session
    → IsScenarioAt files.holds asked.image.now s → IsClassOf s asked.device class
    → IsServed class asked.turns session None None None None → between.made ≡ before.made
    → IsShown asked.show (record { before = before.streams.output; after = between.streams.output })
    → IsLiveDone files before after asked
live_done files before between after asked s class session concluded found row served none shown =
    record {
      class = class;
      session = session;
      ran = record { scenario = s; found = found; row = row; served = served };
      between = between;
      none_made = none;
      shown = shown;
      concluded = concluded;
    }

-- the same of a conclusion that may have failed
pub live_done_if : (files : FilesKnown) (before between after : World) (asked : Live) (s : Scenario) (class : Template)
    (session : LiveSession) (r : Result Status Refusal)
    → OnOk r (IsConcluded between after (option_map (λ p. p.now) asked.save) class session)
    → IsScenarioAt files.holds asked.image.now s → IsClassOf s asked.device class
    → IsServed class asked.turns session None None None None → between.made ≡ before.made
    → IsShown asked.show (record { before = before.streams.output; after = between.streams.output })
    → OnOk r (IsLiveDone files before after asked)
live_done_if files before between after asked s class session (Ok status) concluded found row served none shown =
    live_done files before between after asked s class session concluded found row served none shown
live_done_if files before between after asked s class session (Err e) concluded found row served none shown = tt

pub image_refused : (files : FilesKnown) (faults : StreamFaults) (before after : Streams) (asked : Live)
    (fault : Fault) → IsImageFault files.holds files.fails asked.image.now fault → after.output ≡ before.output
    → IsLiveFault files faults before after asked fault
image_refused files faults before after asked fault h silent = inl (record { why = inl h; silent = silent })

unstarted_class : (asked : Live) (s : Scenario) (fault : Fault)
    → (fault ≡ faults.Memory) ⊎ ((fault ≡ faults.NoDevice) × HasNoRow s asked.device) → IsUnstarted asked s fault
unstarted_class asked s fault (inl h) = subst (IsUnstarted asked s) (sym h) tt
unstarted_class asked s fault (inr (h, none)) = subst (IsUnstarted asked s) (sym h) none

unstarted_port : (asked : Live) (s : Scenario) (class : Template) (fault : Fault) → IsClassOf s asked.device class
    → (fault ≡ faults.Memory) ⊎ (fault ≡ faults.Bind) → IsUnstarted asked s fault
unstarted_port asked s class fault row (inl h) = subst (IsUnstarted asked s) (sym h) tt
unstarted_port asked s class fault row (inr h) = subst (IsUnstarted asked s) (sym h) (class, row)

pub device_refused : (files : FilesKnown) (streams : StreamFaults) (before after : Streams) (asked : Live)
    (s : Scenario) (fault : Fault) → IsScenarioAt files.holds asked.image.now s
    → (fault ≡ faults.Memory) ⊎ ((fault ≡ faults.NoDevice) × HasNoRow s asked.device)
    → after.output ≡ before.output → IsLiveFault files streams before after asked fault
device_refused files streams before after asked s fault found h silent =
    inl (record {
      why = inr (record { scenario = s; found = found; fault = unstarted_class asked s fault h });
      silent = silent;
    })

pub port_refused : (files : FilesKnown) (streams : StreamFaults) (before after : Streams) (asked : Live)
    (s : Scenario) (class : Template) (fault : Fault) → IsScenarioAt files.holds asked.image.now s
    → IsClassOf s asked.device class → (fault ≡ faults.Memory) ⊎ (fault ≡ faults.Bind)
    → after.output ≡ before.output → IsLiveFault files streams before after asked fault
port_refused files streams before after asked s class fault found row h silent =
    inl (record {
      why = inr (record { scenario = s; found = found; fault = unstarted_port asked s class fault row h });
      silent = silent;
    })

pub session_cut : (files : FilesKnown) (faults : StreamFaults) (before after : Streams) (asked : Live)
    (s : Scenario) (class : Template) (fault : Fault) → IsScenarioAt files.holds asked.image.now s
    → IsClassOf s asked.device class → IsUnheld asked.show fault
    → IsShown asked.show (record { before = before.output; after = after.output })
    → IsLiveFault files faults before after asked fault
session_cut files faults before after asked s class fault found row why shown =
    inr (inl (record { scenario = s; found = found; class = class; row = row; why = why; shown = shown }))

pub session_lost : (files : FilesKnown) (faults : StreamFaults) (before between after : Streams) (asked : Live)
    (s : Scenario) (class : Template) (session : LiveSession) (fault : Fault)
    → IsScenarioAt files.holds asked.image.now s → IsClassOf s asked.device class
    → IsServed class asked.turns session None None None None
    → IsShown asked.show (record { before = before.output; after = between.output })
    → IsUnconcluded files.refuses faults between after (option_map (λ p. p.now) asked.save) class session fault
    → IsLiveFault files faults before after asked fault
session_lost files faults before between after asked s class session fault found row served shown why =
    inr (inr (record {
      class = class;
      session = session;
      ran = record { scenario = s; found = found; row = row; served = served };
      between = between;
      shown = shown;
      why = why;
    }))

-- the same of a conclusion that may have gone well
pub session_lost_if : (files : FilesKnown) (faults : StreamFaults) (before between after : Streams) (asked : Live)
    (s : Scenario) (class : Template) (session : LiveSession) (r : Result Status Refusal)
    → IsScenarioAt files.holds asked.image.now s → IsClassOf s asked.device class
    → IsServed class asked.turns session None None None None
    → IsShown asked.show (record { before = before.output; after = between.output })
    → IfErr r (λ e. IsUnconcluded files.refuses faults between after (option_map (λ p. p.now) asked.save) class session
    e.fault)
    → IfErr r (λ e. IsLiveFault files faults before after asked e.fault)
session_lost_if files faults before between after asked s class session (Ok status) found row served shown why = tt
session_lost_if files faults before between after asked s class session (Err e) found row served shown why =
    session_lost files faults before between after asked s class session e.fault found row served shown why
