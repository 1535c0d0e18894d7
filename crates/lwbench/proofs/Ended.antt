-- What a command came to, put together from its parts.
use Rattle.std.proofs.Common.{ℕ, ◌≡◌, ◌⊎◌, Bool, false, List, Option, None, Some}
use Rattle.std.proofs.Common.{Result, Ok, Err, IfErr, IfOk}
use Rattle.std.proofs.Common.{OnErr, OnOk, inl, inr, sym, subst, arith, ◌∙◌}
use Rattle.std.specs.Io.KnownBytes.{Appends}
use Rattle.std.specs.Result.{IsErrAnd}
use Rattle.std.specs.String.{string_bytes}
use Rattle.command_line.specs.Words.{IsReadAs}
use Rattle.command_line.specs.declared.words.Asked.{Asked}
use Rattle.command_line.specs.declared.words.Asked.TheVariants as asked
use Rattle.command_line.specs.declared.words.Job.{Job}
use Rattle.command_line.specs.declared.words.Job.TheVariants as jobs
use Rattle.command_line.specs.declared.words.Live.{Live}
use Rattle.command_files.specs.Answers.{IsUndelivered, files_of}
use Rattle.lwbench.specs.Command.{Came, Ends, IsAnswerTo, IsCutJob, IsDebugCut, IsDebugged, IsDebuggedJob}
use Rattle.lwbench.specs.Command.{IsFinished, IsFormOf, IsRefused, IsToldIn, IsUnfinished, wants_json}
use Rattle.command_files.specs.Files.{Grows, most_bytes}
use Rattle.command_files.specs.Input.{IsWithin, WhereKnown}
use Rattle.command_live.specs.Live.{IsLiveDone, IsLiveFault}
use Rattle.command_words.specs.Inputs.{IsInputRefused, IsInputSaid}
use Rattle.command_files.specs.World.{FilesKnown, IsAside, IsIdle, OnlyReads, OnlySays, StreamFaults, Streams, World}
use Rattle.command_files.specs.declared.answer.Answer.{Answer}
use Rattle.command_files.specs.declared.fault.Fault.{Fault}
use Rattle.command_files.specs.declared.fault.Fault.TheVariants.{Memory}
use Rattle.command_files.specs.declared.refusal.Refusal.{Refusal}
use Rattle.command_files.specs.declared.status.Status.{Status}
use Rattle.command_files.specs.declared.status.Status.TheVariants as ends

-- ---- an answer

-- a delivery is the same from before on, where no file was made and nothing printed
delivered_from : (refuses : List ℕ → Type 0) (faults : StreamFaults) (before between after : World) (answer : Answer)
    (fault : Fault) → between.made ≡ before.made → between.streams.output ≡ before.streams.output
    → IsUndelivered refuses faults between after answer fault → IsUndelivered refuses faults before after answer fault
delivered_from refuses faults before between after answer fault same silent (inl none) =
    inl (record { failed = none.failed; none = none.none ∙ same; silent = none.silent ∙ silent })
delivered_from refuses faults before between after answer fault same silent (inr unprinted) =
    inr (record {
      failed = unprinted.failed;
      made = subst (λ m. Grows m after.made (files_of answer.file)) same unprinted.made;
    })

-- an answer was delivered, before which nothing was made, read or printed
pub answered : (files : FilesKnown) (faults : StreamFaults) (before between after : World) (terminal : Bool)
    (words : List (List ℕ)) (asked : Asked) (answer : Answer) (delivered : Result Status Refusal)
    → IsReadAs words asked → IsAnswerTo files.holds asked answer → between.made ≡ before.made
    → IsIdle before.streams between.streams → IfOk delivered (λ status. status ≡ answer.status)
    → OnOk delivered (Grows between.made after.made (files_of answer.file))
    → OnOk delivered (Appends between.streams.output after.streams.output (string_bytes answer.text))
    → IfErr delivered (λ r. IsUndelivered files.refuses faults between after answer r.fault)
    → IsAside between.streams after.streams → Came files faults before after terminal words delivered
answered files faults before between after terminal words asked answer (Ok status) read right none idle ended made
    printed lost aside =
    inl (
      inl (record {
        asked = asked;
        read = read;
        answer = answer;
        right = right;
        made = subst (λ m. Grows m after.made (files_of answer.file)) none made;
        printed = subst (λ o. Appends o after.streams.output (string_bytes answer.text)) idle.1 printed;
        ended = ended;
      }),
      (aside.0 ∙ idle.0, aside.1 ∙ idle.2),
    )
answered files faults before between after terminal words asked answer (Err r) read right none idle ended made printed
    lost aside =
    inl (
      inr (record {
        asked = asked;
        read = read;
        answer = answer;
        right = right;
        undelivered =
            delivered_from files.refuses faults before between after answer r.fault none idle.1 lost;
      }),
      (aside.0 ∙ idle.0, aside.1 ∙ idle.2),
    )

pub no_memory : (files : FilesKnown) (faults : StreamFaults) (before after : World) (terminal : Bool)
    (words : List (List ℕ))
    (fault : Fault) → fault ≡ Memory → after.made ≡ before.made → IsIdle before.streams after.streams
    → IsUnfinished files faults before after terminal words fault
no_memory files faults before after terminal words fault memory none idle =
    inl (inl (inl memory, none, idle.1), (idle.0, idle.2))

-- there was no answer, or a conversation was cut short
unanswered_for : (files : FilesKnown) (faults : StreamFaults) (before after : World) (terminal : Bool)
    (words : List (List ℕ))
    (asked : Asked) (fault : Fault) → IsReadAs words asked
    → (IsRefused files.holds files.fails asked fault × IsIdle before.streams after.streams)
    ⊎ IsDebugCut files.holds faults asked before.streams after.streams fault
    → after.made ≡ before.made → IsUnfinished files faults before after terminal words fault
unanswered_for files faults before after terminal words asked fault read (inl (refused, idle)) none =
    inl (inl (inr (record { asked = asked; read = read; refused = refused }), none, idle.1), (idle.0, idle.2))
unanswered_for files faults before after terminal words asked fault read (inr cut) none =
    inr (inl (inl (record { asked = asked; read = read; cut = cut }), none))

-- the same of a call that gave no answer
pub unanswered : (files : FilesKnown) (faults : StreamFaults) (before after : World) (terminal : Bool)
    (words : List (List ℕ)) (asked : Asked) (result : Result Status Refusal) (refusal : Refusal)
    → IsErrAnd result (λ r. r ≡ refusal) → IsReadAs words asked
    → (IsRefused files.holds files.fails asked refusal.fault × IsIdle before.streams after.streams)
    ⊎ IsDebugCut files.holds faults asked before.streams after.streams refusal.fault
    → after.made ≡ before.made → Came files faults before after terminal words result
unanswered files faults before after terminal words asked (Ok status) refusal told read refused none = absurd told
unanswered files faults before after terminal words asked (Err r) refusal told read refused none =
    subst (λ e. IsUnfinished files faults before after terminal words e.fault) (sym told)
    (unanswered_for files faults before after terminal words asked refusal.fault read refused none)

-- ---- a session

-- a conversation came to its end
pub conversed : (files : FilesKnown) (faults : StreamFaults) (before after : World) (terminal : Bool)
    (words : List (List ℕ)) (asked : Asked) (status : Status) → IsReadAs words asked
    → IsDebugged files.holds faults asked before.streams after.streams → status ≡ ends.Done → after.made ≡ before.made
    → IsFinished files faults before after terminal words status
conversed files faults before after terminal words asked status read debugged ended none =
    inr (inl (record { asked = asked; read = read; debugged = debugged; ended = ended }, none))

-- a device on UDP had its session, or had none
pub lived : (files : FilesKnown) (faults : StreamFaults) (before after : World) (terminal : Bool)
    (words : List (List ℕ)) (live : Live) (result : Result Status Refusal) → IsReadAs words (asked.Live live)
    → OnOk result (IsLiveDone files before after live) → IfOk result (λ status. status ≡ ends.Done)
    → IfErr result (λ r. IsLiveFault files faults before.streams after.streams live r.fault)
    → OnErr result (after.made ≡ before.made) → IsAside before.streams after.streams
    → Came files faults before after terminal words result
lived files faults before after terminal words live (Ok status) read done ended lost none aside =
    inl (inr (record { live = live; read = read; done = done; ended = ended }), aside)
lived files faults before after terminal words live (Err r) read done ended lost none aside =
    inr (inl (inr (record { live = live; read = read; lost = lost }, aside), none))

-- ---- a log

pub log_refused : (files : FilesKnown) (faults : StreamFaults) (before after : World) (terminal : Bool)
    (words : List (List ℕ)) (server : ℕ) (result : Result Status Refusal) (refusal : Refusal)
    → IsErrAnd result (λ r. r ≡ refusal) → IsReadAs words (asked.Log server)
    → IsInputRefused faults.input_fails before.streams.input after.streams.input refusal.fault
    → WhereKnown (IsWithin most_bytes) before.streams.input after.streams.input → OnlyReads before after
    → Came files faults before after terminal words result
log_refused files faults before after terminal words server (Ok status) refusal told read refused within reads =
    absurd told
log_refused files faults before after terminal words server (Err r) refusal told read refused within reads =
    subst (λ e. IsUnfinished files faults before after terminal words e.fault) (sym told) (inr (inr (inl (
      record { server = server; read = read; lost = inl (refused, reads.0, reads.1); within = within },
      reads.2,
    ))))

-- a log was read, and what it says printed, or not
pub log_said : (files : FilesKnown) (faults : StreamFaults) (before between after : World) (terminal : Bool)
    (words : List (List ℕ)) (server : ℕ) (answer : Answer) (delivered : Result Status Refusal)
    → IsReadAs words (asked.Log server)
    → IsInputSaid before.streams.input between.streams.input server answer
    → WhereKnown (IsWithin most_bytes) before.streams.input between.streams.input → OnlyReads before between
    → IfOk delivered (λ status. status ≡ answer.status)
    → OnOk delivered (Grows between.made after.made (files_of answer.file))
    → OnOk delivered (Appends between.streams.output after.streams.output (string_bytes answer.text))
    → IfErr delivered (λ r. IsUndelivered files.refuses faults between after answer r.fault)
    → IsAside between.streams after.streams → Came files faults before after terminal words delivered
log_said files faults before between after terminal words server answer (Ok status) read said within reads ended made
    printed lost aside =
    inr (inr (inl (
      record {
        server = server;
        read = read;
        answer = answer;
        said = subst (λ i. IsInputSaid before.streams.input i server answer) (sym aside.0) said;
        within = subst (λ i. WhereKnown (IsWithin most_bytes) before.streams.input i) (sym aside.0) within;
        made = subst (λ m. Grows m after.made (files_of answer.file)) reads.0 made;
        printed = subst (λ o. Appends o after.streams.output (string_bytes answer.text)) reads.1 printed;
        ended = ended;
      },
      aside.1 ∙ reads.2,
    )))
log_said files faults before between after terminal words server answer (Err r) read said within reads ended made
    printed lost aside =
    inr (inr (inl (
      record {
        server = server;
        read = read;
        lost = inr (record {
          answer = answer;
          said = subst (λ i. IsInputSaid before.streams.input i server answer) (sym aside.0) said;
          undelivered =
              delivered_from files.refuses faults before between after answer r.fault reads.0 reads.1 lost;
        });
        within = subst (λ i. WhereKnown (IsWithin most_bytes) before.streams.input i) (sym aside.0) within;
      },
      aside.1 ∙ reads.2,
    )))

-- ---- what was read

pub unread : (a b : Option (List ℕ)) → b ≡ a → WhereKnown (IsWithin most_bytes) a b
unread a b same = subst (λ x. WhereKnown (IsWithin most_bytes) a x) (sym same) (none a)
  where
    none : (a : Option (List ℕ)) → WhereKnown (IsWithin most_bytes) a a
    none None = tt
    none (Some bytes) = omega arith

within_job : (holds : List ℕ → List ℕ → Type 0) (faults : StreamFaults) (job : Job) (before after : Streams)
    → IsDebuggedJob holds faults job before after → WhereKnown (IsWithin most_bytes) before.input after.input
within_job holds faults (jobs.Debug image trace reasons) before after h = h.conversation.within
within_job holds faults (jobs.One hex form) before after h = absurd h
within_job holds faults (jobs.Say hex server) before after h = absurd h
within_job holds faults (jobs.Spell statement) before after h = absurd h
within_job holds faults (jobs.Play file device from to form) before after h = absurd h
within_job holds faults (jobs.Asm input output) before after h = absurd h
within_job holds faults (jobs.Dis input) before after h = absurd h
within_job holds faults (jobs.Run image workers batch trace) before after h = absurd h
within_job holds faults (jobs.Check image trace json) before after h = absurd h
within_job holds faults (jobs.Show image trace device from to form) before after h = absurd h
within_job holds faults (jobs.Pcap image trace output) before after h = absurd h
within_job holds faults (jobs.Titles files only) before after h = absurd h
within_job holds faults (jobs.Test files only form junit) before after h = absurd h
within_job holds faults (jobs.Expect files image device only form junit) before after h = absurd h
within_job holds faults (jobs.Join output images) before after h = absurd h
within_job holds faults (jobs.Lint file only except json) before after h = absurd h

within_cut : (holds : List ℕ → List ℕ → Type 0) (faults : StreamFaults) (job : Job) (before after : Streams)
    (fault : Fault) → IsCutJob holds faults job before after fault
    → WhereKnown (IsWithin most_bytes) before.input after.input
within_cut holds faults (jobs.Debug image trace reasons) before after fault h = h.cut.within
within_cut holds faults (jobs.One hex form) before after fault h = absurd h
within_cut holds faults (jobs.Say hex server) before after fault h = absurd h
within_cut holds faults (jobs.Spell statement) before after fault h = absurd h
within_cut holds faults (jobs.Play file device from to form) before after fault h = absurd h
within_cut holds faults (jobs.Asm input output) before after fault h = absurd h
within_cut holds faults (jobs.Dis input) before after fault h = absurd h
within_cut holds faults (jobs.Run image workers batch trace) before after fault h = absurd h
within_cut holds faults (jobs.Check image trace json) before after fault h = absurd h
within_cut holds faults (jobs.Show image trace device from to form) before after fault h = absurd h
within_cut holds faults (jobs.Pcap image trace output) before after fault h = absurd h
within_cut holds faults (jobs.Titles files only) before after fault h = absurd h
within_cut holds faults (jobs.Test files only form junit) before after fault h = absurd h
within_cut holds faults (jobs.Expect files image device only form junit) before after fault h = absurd h
within_cut holds faults (jobs.Join output images) before after fault h = absurd h
within_cut holds faults (jobs.Lint file only except json) before after fault h = absurd h

within_asked : (holds : List ℕ → List ℕ → Type 0) (faults : StreamFaults) (asked : Asked) (before after : Streams)
    → IsDebugged holds faults asked before after → WhereKnown (IsWithin most_bytes) before.input after.input
within_asked holds faults (asked.Job job) before after h = within_job holds faults job before after h
within_asked holds faults (asked.Live live) before after h = absurd h
within_asked holds faults (asked.Fleet fleet) before after h = absurd h
within_asked holds faults (asked.Log server) before after h = absurd h
within_asked holds faults (asked.Text help is_mistake) before after h = absurd h

within_lost : (holds : List ℕ → List ℕ → Type 0) (faults : StreamFaults) (asked : Asked) (before after : Streams)
    (fault : Fault) → IsDebugCut holds faults asked before after fault
    → WhereKnown (IsWithin most_bytes) before.input after.input
within_lost holds faults (asked.Job job) before after fault h = within_cut holds faults job before after fault h
within_lost holds faults (asked.Live live) before after fault h = absurd h
within_lost holds faults (asked.Fleet fleet) before after fault h = absurd h
within_lost holds faults (asked.Log server) before after fault h = absurd h
within_lost holds faults (asked.Text help is_mistake) before after fault h = absurd h

-- ---- the form of a fault

pub asked_form : (words : List (List ℕ)) (asked : Asked) (fault : Fault) (json : Bool) → IsReadAs words asked
    → json ≡ wants_json asked → IsFormOf words fault json
asked_form words asked fault json read same = inl (record { asked = asked; read = read; form = same })

pub unread_form : (words : List (List ℕ)) (fault : Fault) (json : Bool) → fault ≡ Memory → json ≡ false
    → IsFormOf words fault json
unread_form words fault json memory words_alone = inr (memory, words_alone)

-- ---- the end

pub finished : (files : FilesKnown) (faults : StreamFaults) (before after : World) (terminal : Bool)
    (words : List (List ℕ))
    (status : Status) → IsFinished files faults before after terminal words status
    → Ends files faults before after terminal words status
finished files faults before after terminal words status done = record { ended = inl done; within = so done }
  where
    so : IsFinished files faults before after terminal words status
        → WhereKnown (IsWithin most_bytes) before.streams.input after.streams.input
    so (inl (answered, aside)) = unread before.streams.input after.streams.input aside.0
    so (inr (inl (conversed, none))) =
        within_asked files.holds faults conversed.asked before.streams after.streams conversed.debugged
    so (inr (inr (inl (said, silent)))) = said.within
    so (inr (inr (inr (served, same)))) = unread before.streams.input after.streams.input same

pub faulted : (files : FilesKnown) (faults : StreamFaults) (before between after : World) (terminal : Bool)
    (about blamed : Option (List ℕ)) (words : List (List ℕ)) (fault : Fault) (json : Bool) (status : Status)
    → status ≡ ends.Fault
    → IsUnfinished files faults before between terminal words fault → IsFormOf words fault json
    → IsToldIn json faults between.streams after.streams about blamed fault → OnlySays between after
    → Ends files faults before after terminal words status
faulted files faults before between after terminal about blamed words fault json status ended undone form told says =
    record {
      ended = inr (
        ended,
        record {
          fault = fault;
          between = between;
          undone = undone;
          about = about;
          blamed = blamed;
          json = json;
          form = form;
          told = told;
          none_made = says.0;
          none_read = says.1;
        },
      );
      within =
          subst (λ x. WhereKnown (IsWithin most_bytes) before.streams.input x) (sym says.1) (so undone);
    }
  where
    so : IsUnfinished files faults before between terminal words fault
        → WhereKnown (IsWithin most_bytes) before.streams.input between.streams.input
    so (inl (undone, aside)) = unread before.streams.input between.streams.input aside.0
    so (inr (inl (inl lost, none))) =
        within_lost files.holds faults lost.asked before.streams between.streams fault lost.cut
    so (inr (inr (inl (lost, silent)))) = lost.within
    so (inr (inr (inr (lost, same)))) = unread before.streams.input between.streams.input same
    so (inr (inl (inr (lost, aside), none))) = unread before.streams.input between.streams.input aside.0
