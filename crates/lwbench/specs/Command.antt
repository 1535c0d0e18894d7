-- What a command comes to: the words were answered, or refused, and the status says which.
use Rattle.std.specs.Prelude.{ℕ, ◌≡◌, ◌⊎◌, Bool, true, false, List, [], Option, Result, Ok, Err, map, option_map}
use Rattle.std.specs.Io.KnownBytes.{Appends}
use Rattle.std.specs.String.{string_bytes}
use Rattle.command_line.specs.Words.{IsReadAs}
use Rattle.command_line.specs.declared.words.Asked.{Asked}
use Rattle.command_line.specs.declared.fleet_words.AskedFleet.{AskedFleet}
use Rattle.command_line.specs.declared.words.Asked.TheVariants as asked
use Rattle.command_line.specs.declared.words.Job.{Job}
use Rattle.command_line.specs.declared.words.Job.TheVariants as jobs
use Rattle.command_line.specs.declared.words.Live.{Live}
use Rattle.command_line.specs.declared.words.EntriesForm.{EntriesForm}
use Rattle.command_line.specs.declared.words.EntriesForm.TheVariants as entries_forms
use Rattle.command_line.specs.declared.words.TraceForm.{TraceForm as AskedForm}
use Rattle.command_line.specs.declared.words.TraceForm.TheVariants as asked_forms
use Rattle.command_line.specs.declared.words.CaseForm.{CaseForm}
use Rattle.command_line.specs.declared.words.CaseForm.TheVariants as case_forms
use Rattle.command_files.specs.Answers.{IsUndelivered, files_of}
use Rattle.command_debug.specs.Debugging.{IsDebugCutAt, IsDebuggedAt, IsDebugRefused}
use Rattle.command_files.specs.Files.{Grows, most_bytes}
use Rattle.command_files.specs.Input.{IsWithin, WhereKnown}
use Rattle.command_scenarios.specs.Jobs.{IsAsmDone, IsCheckJsonDone, IsDisDone, IsRunDone, IsRunRefused}
use Rattle.command_files.specs.Verdicts.{IsCheckDone}
use Rattle.command_files.specs.Loading.{IsCheckRefused, IsImageFault, RunPaths}
use Rattle.command_demo.specs.InJson.{IsOneJsonDone}
use Rattle.command_demo.specs.One.{IsOneDone, IsOneFault}
use Rattle.command_demo.specs.Why.{IsOneWhyDone}
use Rattle.command_expect.specs.Expect.{IsExpectDone, IsExpectFault}
use Rattle.command_fleet.specs.Fleet.{IsFleetDone, IsFleetFault}
use Rattle.command_fleet.specs.declared.concluding.Held.{Held}
use Rattle.command_live.specs.Live.{IsLiveDone, IsLiveFault}
use Rattle.command_files.specs.Refusals.{IsTold}
use Rattle.command_join.specs.Join.{IsJoinDone, IsJoinFault}
use Rattle.command_json.specs.Told.{IsToldInJson}
use Rattle.command_lint.specs.Lint.{IsLintDone, IsLintFault}
use Rattle.command_lint.specs.declared.form.LintForm.{LintForm}
use Rattle.command_lint.specs.declared.form.LintForm.TheVariants as lint_forms
use Rattle.command_files.specs.Status.{text_status}
use Rattle.command_play.specs.Play.{IsPlayDone, IsPlayFault}
use Rattle.command_play.specs.declared.form.PlayForm.{PlayForm}
use Rattle.command_play.specs.declared.form.PlayForm.TheVariants as play_forms
use Rattle.command_texts.specs.Texts.{IsTextFault}
use Rattle.command_test.specs.Jobs.{IsTestDone, IsTestFault, IsTitlesDone}
use Rattle.test_reports.specs.declared.form.ReportForm.{ReportForm}
use Rattle.test_reports.specs.declared.form.ReportForm.TheVariants as report_forms
use Rattle.command_traces.specs.Traces.{IsPcapDone, IsPcapRefused, IsShowDone, IsShowRefused}
use Rattle.command_traces.specs.declared.form.TraceForm.{TraceForm}
use Rattle.command_traces.specs.declared.form.TraceForm.TheVariants as forms
use Rattle.command_words.specs.Inputs.{IsInputRefused, IsInputSaid}
use Rattle.command_words.specs.Saying.{IsSayDone, IsSayFault}
use Rattle.command_words.specs.Spelling.{IsSpellDone, IsSpellFault}
use Rattle.test_reports.specs.Reading.{AreRead}
use Rattle.expectations.specs.ExpectedCases.{expected_cases_in}
use Rattle.expectations.specs.declared.expectation.ExpectedCase.{ExpectedCase}
use Rattle.test_reports.specs.declared.case_file.CaseFile.{CaseFile}
use Rattle.lwbench.specs.Judged.{IsGoalRefused, IsJudged, IsUnjudged, goal_paths}
use Rattle.command_files.specs.World.{FilesKnown, IsAside, StreamFaults, Streams, World}
use Rattle.command_files.specs.declared.answer.Answer.{Answer}
use Rattle.command_files.specs.declared.fault.Fault.{Fault}
use Rattle.command_files.specs.declared.fault.Fault.TheVariants.{Memory}
use Rattle.command_files.specs.declared.refusal.Refusal.{Refusal}
use Rattle.command_files.specs.declared.status.Status.{Status}
use Rattle.command_files.specs.declared.status.Status.TheVariants as ends

-- ---- what words are answered with

-- the form of a trace that is asked for
abbrev pub form_of : EntriesForm → TraceForm
form_of entries_forms.Text = forms.Text
form_of entries_forms.Reasons = forms.Reasons
form_of entries_forms.JsonLines = forms.JsonLines
form_of entries_forms.ReasonedLines = forms.ReasonedLines

-- the same of the entries of a run, of cases, and of what is found
abbrev pub play_form : EntriesForm → PlayForm
play_form entries_forms.Text = play_forms.Text
play_form entries_forms.Reasons = play_forms.Reasons
play_form entries_forms.JsonLines = play_forms.JsonLines
play_form entries_forms.ReasonedLines = play_forms.ReasonedLines

abbrev pub report_form : CaseForm → ReportForm
report_form case_forms.Text = report_forms.Text
report_form case_forms.Tap = report_forms.Tap
report_form case_forms.JsonLines = report_forms.JsonLines

abbrev pub lint_form : AskedForm → LintForm
lint_form asked_forms.Text = lint_forms.Text
lint_form asked_forms.Reasons = lint_forms.Reasons
lint_form asked_forms.JsonLines = lint_forms.JsonLines

-- what `one` and `check` are answered with, in the form that is asked for
abbrev pub IsOneAnswer : List ℕ → AskedForm → Answer → Type 0
IsOneAnswer hex asked_forms.Text answer = IsOneDone hex answer
IsOneAnswer hex asked_forms.Reasons answer = IsOneWhyDone hex answer
IsOneAnswer hex asked_forms.JsonLines answer = IsOneJsonDone hex answer

abbrev pub IsCheckAnswer : (List ℕ → List ℕ → Type 0) → RunPaths → Bool → Answer → Type 0
IsCheckAnswer holds paths false answer = IsCheckDone holds paths answer
IsCheckAnswer holds paths true answer = IsCheckJsonDone holds paths answer

-- what a job is answered with
abbrev pub IsDone : (List ℕ → List ℕ → Type 0) → Job → Answer → Type 0
IsDone holds (jobs.One hex form) answer = IsOneAnswer hex.now form answer
IsDone holds (jobs.Say hex server) answer = IsSayDone hex.now server answer
IsDone holds (jobs.Spell statement) answer = IsSpellDone (map (λ w. w.now) statement.items) answer
IsDone holds (jobs.Play file device from to form) answer =
    IsPlayDone holds file.now (play_form form) (record { device = device; from = from; to = to }) answer
IsDone holds (jobs.Asm input output) answer = IsAsmDone holds (record { text = input.now; image = output.now }) answer
IsDone holds (jobs.Dis input) answer = IsDisDone holds input.now answer
IsDone holds (jobs.Run image workers batch trace) answer =
    IsRunDone holds image.now (record { workers = workers; batch = batch }) (option_map (λ p. p.now) trace) answer
IsDone holds (jobs.Check image trace json) answer =
    IsCheckAnswer holds (record { image = image.now; trace = trace.now }) json answer
IsDone holds (jobs.Show image trace device from to form) answer =
    IsShowDone holds (record { image = image.now; trace = trace.now }) (form_of form)
    (record { device = device; from = from; to = to }) answer
IsDone holds (jobs.Pcap image trace output) answer =
    IsPcapDone holds (record { image = image.now; trace = trace.now }) output.now answer
IsDone holds (jobs.Debug image trace reasons) answer =
    IsDebugRefused holds (record { image = image.now; trace = trace.now }) answer
IsDone holds (jobs.Titles files only) answer =
    IsTitlesDone holds (map (λ p. p.now) files.items) (option_map (λ w. w.now) only) answer
IsDone holds (jobs.Test files only form junit) answer =
    IsTestDone holds (map (λ p. p.now) files.items) (option_map (λ w. w.now) only) (report_form form)
    (option_map (λ p. p.now) junit) answer
IsDone holds (jobs.Expect files image device only form junit) answer =
    IsExpectDone holds (map (λ p. p.now) files.items) image.now device (option_map (λ w. w.now) only) (report_form form)
    (option_map (λ p. p.now) junit) answer
IsDone holds (jobs.Join output images) answer =
    IsJoinDone holds output.now (map (λ p. p.now) images.items) answer
IsDone holds (jobs.Lint file only except form) answer =
    IsLintDone holds (option_map (λ p. p.now) file) (lint_form form) (map (λ w. w.now) only.items)
    (map (λ w. w.now) except.items) answer

-- a job is refused for this fault
abbrev pub IsRefusedJob : (List ℕ → List ℕ → Type 0) → (List ℕ → Type 0) → Job → Fault → Type 0
IsRefusedJob holds fails (jobs.One hex form) fault = IsOneFault hex.now fault
IsRefusedJob holds fails (jobs.Say hex server) fault = IsSayFault hex.now fault
IsRefusedJob holds fails (jobs.Spell statement) fault = IsSpellFault (map (λ w. w.now) statement.items) fault
IsRefusedJob holds fails (jobs.Play file device from to form) fault =
    IsPlayFault holds fails file.now (record { device = device; from = from; to = to }) fault
IsRefusedJob holds fails (jobs.Asm input output) fault = IsTextFault holds fails input.now fault
IsRefusedJob holds fails (jobs.Dis input) fault = IsImageFault holds fails input.now fault
IsRefusedJob holds fails (jobs.Run image workers batch trace) fault =
    IsRunRefused holds fails image.now (record { workers = workers; batch = batch }) fault
IsRefusedJob holds fails (jobs.Check image trace json) fault =
    IsCheckRefused holds fails (record { image = image.now; trace = trace.now }) fault
IsRefusedJob holds fails (jobs.Show image trace device from to form) fault =
    IsShowRefused holds fails (record { image = image.now; trace = trace.now })
    (record { device = device; from = from; to = to }) fault
IsRefusedJob holds fails (jobs.Pcap image trace output) fault =
    IsPcapRefused holds fails (record { image = image.now; trace = trace.now }) fault
IsRefusedJob holds fails (jobs.Debug image trace reasons) fault =
    IsCheckRefused holds fails (record { image = image.now; trace = trace.now }) fault
IsRefusedJob holds fails (jobs.Titles files only) fault =
    IsTestFault holds fails (map (λ p. p.now) files.items) (option_map (λ w. w.now) only) fault
IsRefusedJob holds fails (jobs.Test files only form junit) fault =
    IsTestFault holds fails (map (λ p. p.now) files.items) (option_map (λ w. w.now) only) fault
IsRefusedJob holds fails (jobs.Expect files image device only form junit) fault =
    IsExpectFault holds fails (map (λ p. p.now) files.items) image.now device (option_map (λ w. w.now) only) fault
IsRefusedJob holds fails (jobs.Join output images) fault =
    (about : Option (List ℕ)) × IsJoinFault holds fails (map (λ p. p.now) images.items) about fault
IsRefusedJob holds fails (jobs.Lint file only except form) fault =
    IsLintFault holds fails (option_map (λ p. p.now) file) (map (λ w. w.now) only.items)
    (map (λ w. w.now) except.items) fault

-- what words are answered with; a text on how to use the program is printed as it is
abbrev pub IsAnswerTo : (List ℕ → List ℕ → Type 0) → Asked → Answer → Type 0
IsAnswerTo holds (asked.Job job) answer = IsDone holds job answer
IsAnswerTo holds (asked.Live live) answer = ⊥
IsAnswerTo holds (asked.Fleet fleet) answer = ⊥
IsAnswerTo holds (asked.Log server) answer = ⊥
IsAnswerTo holds (asked.Text help is_mistake) answer =
    (answer.status ≡ text_status is_mistake) × (string_bytes answer.text ≡ string_bytes help)
    × (files_of answer.file ≡ [])

abbrev pub IsRefused : (List ℕ → List ℕ → Type 0) → (List ℕ → Type 0) → Asked → Fault → Type 0
IsRefused holds fails (asked.Job job) fault = IsRefusedJob holds fails job fault
IsRefused holds fails (asked.Live live) fault = ⊥
IsRefused holds fails (asked.Fleet fleet) fault = ⊥
IsRefused holds fails (asked.Log server) fault = ⊥
IsRefused holds fails (asked.Text help is_mistake) fault = ⊥

-- ---- what is not answered at once

-- a job is answered by a conversation, which came to its end
abbrev pub IsDebuggedJob : (List ℕ → List ℕ → Type 0) → StreamFaults → Job → Streams → Streams → Type 0
IsDebuggedJob holds faults (jobs.Debug image trace reasons) before after =
    IsDebuggedAt holds (record { faults = faults; reasons = reasons })
    (record { image = image.now; trace = trace.now }) before after
IsDebuggedJob holds faults _ before after = ⊥

-- a job is answered by a conversation, which this fault cut short
abbrev pub IsCutJob : (List ℕ → List ℕ → Type 0) → StreamFaults → Job → Streams → Streams → Fault → Type 0
IsCutJob holds faults (jobs.Debug image trace reasons) before after fault =
    IsDebugCutAt holds (record { faults = faults; reasons = reasons })
    (record { image = image.now; trace = trace.now }) before after fault
IsCutJob holds faults _ before after fault = ⊥

abbrev pub IsDebugged : (List ℕ → List ℕ → Type 0) → StreamFaults → Asked → Streams → Streams → Type 0
IsDebugged holds faults (asked.Job job) before after = IsDebuggedJob holds faults job before after
IsDebugged holds faults (asked.Live live) before after = ⊥
IsDebugged holds faults (asked.Fleet fleet) before after = ⊥
IsDebugged holds faults (asked.Log server) before after = ⊥
IsDebugged holds faults (asked.Text help is_mistake) before after = ⊥

abbrev pub IsDebugCut : (List ℕ → List ℕ → Type 0) → StreamFaults → Asked → Streams → Streams → Fault → Type 0
IsDebugCut holds faults (asked.Job job) before after fault = IsCutJob holds faults job before after fault
IsDebugCut holds faults (asked.Live live) before after fault = ⊥
IsDebugCut holds faults (asked.Fleet fleet) before after fault = ⊥
IsDebugCut holds faults (asked.Log server) before after fault = ⊥
IsDebugCut holds faults (asked.Text help is_mistake) before after fault = ⊥

-- ---- a command

-- the answer's file was made, its text printed, and nothing else
pub record IsAnswered (files : FilesKnown) (before after : World) (words : List (List ℕ)) (status : Status) : Type 0
  where
    pub asked : Asked
    pub read : IsReadAs words asked
    pub answer : Answer
    pub right : IsAnswerTo files.holds asked answer
    pub made : Grows before.made after.made (files_of answer.file)
    pub printed : Appends before.streams.output after.streams.output (string_bytes answer.text)
    pub ended : status ≡ answer.status

-- what the words ask for was refused for this fault
pub record IsRefusedAsked (files : FilesKnown) (words : List (List ℕ)) (fault : Fault) : Type 0 where
  pub asked : Asked
  pub read : IsReadAs words asked
  pub refused : IsRefused files.holds files.fails asked fault

-- there was an answer, and its file was not made or its text not printed
pub record IsLost (files : FilesKnown) (faults : StreamFaults) (before after : World) (words : List (List ℕ))
    (fault : Fault) : Type 0 where
  pub asked : Asked
  pub read : IsReadAs words asked
  pub answer : Answer
  pub right : IsAnswerTo files.holds asked answer
  pub undelivered : IsUndelivered files.refuses faults before after answer fault

-- no memory was left for an answer, or there was a fault, and then nothing was made and nothing printed; or the answer
-- was lost
abbrev pub IsUndone : FilesKnown → StreamFaults → World → World → List (List ℕ) → Fault → Type 0
IsUndone files faults before after words fault =
    (((fault ≡ Memory) ⊎ IsRefusedAsked files words fault) × (after.made ≡ before.made)
    × (after.streams.output ≡ before.streams.output))
    ⊎ IsLost files faults before after words fault

-- the words ask for a conversation, which came to its end
pub record IsConversed (files : FilesKnown) (faults : StreamFaults) (before after : World) (words : List (List ℕ))
    (status : Status) : Type 0 where
  pub asked : Asked
  pub read : IsReadAs words asked
  pub debugged : IsDebugged files.holds faults asked before.streams after.streams
  pub ended : status ≡ ends.Done

-- the words ask for a conversation, which this fault cut short
pub record IsConversationLost (files : FilesKnown) (faults : StreamFaults) (before after : World)
    (words : List (List ℕ)) (fault : Fault) : Type 0 where
  pub asked : Asked
  pub read : IsReadAs words asked
  pub cut : IsDebugCut files.holds faults asked before.streams after.streams fault

-- the words ask for a device on UDP, whose session was concluded
pub record IsLived (files : FilesKnown) (before after : World) (words : List (List ℕ)) (status : Status) : Type 0 where
  pub live : Live
  pub read : IsReadAs words (asked.Live live)
  pub done : IsLiveDone files before after live
  pub ended : status ≡ ends.Done

-- the words ask for a device on UDP, and this fault kept it from a session or from its conclusion
pub record IsLiveLost (files : FilesKnown) (faults : StreamFaults) (before after : World) (words : List (List ℕ))
    (fault : Fault) : Type 0 where
  pub live : Live
  pub read : IsReadAs words (asked.Live live)
  pub lost : IsLiveFault files faults before.streams after.streams live fault

-- the words ask for devices on UDP, whose session was concluded, and then judged, if there is something that servers
-- have to send; standard error was a terminal, or was not
pub record AreServed (files : FilesKnown) (before after : World) (terminal : Bool) (words : List (List ℕ))
    (status : Status) : Type 0 where
  pub fleet : AskedFleet
  pub read : IsReadAs words (asked.Fleet fleet)
  pub goal : List (CaseFile ExpectedCase)
  pub goal_is : AreRead expected_cases_in files.holds (goal_paths fleet) goal
  -- the files and the streams when the session was concluded, and what is left of it
  pub between : World
  pub held : Held
  pub done : IsFleetDone files before between fleet terminal held
  pub judged : IsJudged goal fleet held.saved between after held.status status

-- a session was concluded, and not judged
pub record IsSessionUnjudged (files : FilesKnown) (faults : StreamFaults) (before after : World) (fleet : AskedFleet)
    (terminal : Bool) (fault : Fault) : Type 0 where
  pub goal : List (CaseFile ExpectedCase)
  pub goal_is : AreRead expected_cases_in files.holds (goal_paths fleet) goal
  pub between : World
  pub held : Held
  pub done : IsFleetDone files before between fleet terminal held
  pub why : IsUnjudged files.refuses faults goal fleet held.saved between after fault

-- the words ask for devices on UDP, and this fault kept them from a session, from its conclusion or from its verdict;
-- the files that were made are those of the session up to then
pub record IsFleetLost (files : FilesKnown) (faults : StreamFaults) (before after : World) (terminal : Bool)
    (words : List (List ℕ)) (fault : Fault) : Type 0 where
  pub fleet : AskedFleet
  pub read : IsReadAs words (asked.Fleet fleet)
  pub lost :
      IsGoalRefused files before after fleet fault
      ⊎ (IsFleetFault files faults before after fleet terminal fault
      ⊎ IsSessionUnjudged files faults before after fleet terminal fault)

-- the words ask for what a log says, which standard input has; all of it was read, and that was printed
pub record IsLogAnswered (before after : World) (words : List (List ℕ)) (status : Status) : Type 0 where
  pub server : ℕ
  pub read : IsReadAs words (asked.Log server)
  pub answer : Answer
  pub said : IsInputSaid before.streams.input after.streams.input server answer
  pub within : WhereKnown (IsWithin most_bytes) before.streams.input after.streams.input
  pub made : Grows before.made after.made (files_of answer.file)
  pub printed : Appends before.streams.output after.streams.output (string_bytes answer.text)
  pub ended : status ≡ answer.status

-- a log could not be read, or a line of it is not hex, and nothing was made and nothing printed
abbrev pub IsLogRefused : StreamFaults → World → World → Fault → Type 0
IsLogRefused faults before after fault =
    IsInputRefused faults.input_fails before.streams.input after.streams.input fault × (after.made ≡ before.made)
    × (after.streams.output ≡ before.streams.output)

-- a log was read, and what it says not printed
pub record IsLogUnprinted (files : FilesKnown) (faults : StreamFaults) (before after : World) (server : ℕ)
    (fault : Fault) : Type 0 where
  pub answer : Answer
  pub said : IsInputSaid before.streams.input after.streams.input server answer
  pub undelivered : IsUndelivered files.refuses faults before after answer fault

-- the words ask for what a log says, and this fault kept it from being said
pub record IsLogLost (files : FilesKnown) (faults : StreamFaults) (before after : World) (words : List (List ℕ))
    (fault : Fault) : Type 0 where
  pub server : ℕ
  pub read : IsReadAs words (asked.Log server)
  pub lost : IsLogRefused faults before after fault ⊎ IsLogUnprinted files faults before after server fault
  pub within : WhereKnown (IsWithin most_bytes) before.streams.input after.streams.input

-- the words were answered, or a session was concluded, and nothing was read from standard input, and standard error got
-- nothing; or a conversation came to its end, and no file was made; or a log was answered, and standard error got
-- nothing; or a session of several devices was concluded, and nothing was read
abbrev pub IsFinished : FilesKnown → StreamFaults → World → World → Bool → List (List ℕ) → Status → Type 0
IsFinished files faults before after terminal words status =
    ((IsAnswered files before after words status ⊎ IsLived files before after words status)
    × IsAside before.streams after.streams)
    ⊎ ((IsConversed files faults before after words status × (after.made ≡ before.made))
    ⊎ ((IsLogAnswered before after words status × (after.streams.errors ≡ before.streams.errors))
    ⊎ (AreServed files before after terminal words status × (after.streams.input ≡ before.streams.input))))

-- there was no answer, or it was lost, and nothing was read from standard input, and standard error got nothing; or a
-- conversation was cut short, or a session lost likewise, and no file was made; or a log was not answered, and standard
-- error got nothing; or a session of several devices was lost, and nothing was read
abbrev pub IsUnfinished : FilesKnown → StreamFaults → World → World → Bool → List (List ℕ) → Fault → Type 0
IsUnfinished files faults before after terminal words fault =
    (IsUndone files faults before after words fault × IsAside before.streams after.streams)
    ⊎ (((IsConversationLost files faults before after words fault
    ⊎ (IsLiveLost files faults before after words fault × IsAside before.streams after.streams))
    × (after.made ≡ before.made))
    ⊎ ((IsLogLost files faults before after words fault × (after.streams.errors ≡ before.streams.errors))
    ⊎ (IsFleetLost files faults before after terminal words fault × (after.streams.input ≡ before.streams.input))))

-- it came to the one, or to the other
abbrev pub Came : FilesKnown → StreamFaults → World → World → Bool → List (List ℕ) → Result Status Refusal → Type 0
Came files faults before after terminal words (Ok status) =
    IsFinished files faults before after terminal words status
Came files faults before after terminal words (Err refusal) =
    IsUnfinished files faults before after terminal words refusal.fault

-- ---- the form of a fault

-- whether this form is JSON
abbrev pub is_json : AskedForm → Bool
is_json asked_forms.Text = false
is_json asked_forms.Reasons = false
is_json asked_forms.JsonLines = true

abbrev pub are_json : EntriesForm → Bool
are_json entries_forms.Text = false
are_json entries_forms.Reasons = false
are_json entries_forms.JsonLines = true
are_json entries_forms.ReasonedLines = true

abbrev pub is_case_json : CaseForm → Bool
is_case_json case_forms.Text = false
is_case_json case_forms.Tap = false
is_case_json case_forms.JsonLines = true

-- whether a job asks for JSON
abbrev pub job_wants_json : Job → Bool
job_wants_json (jobs.One hex form) = is_json form
job_wants_json (jobs.Play file device from to form) = are_json form
job_wants_json (jobs.Check image trace json) = json
job_wants_json (jobs.Lint file only except form) = is_json form
job_wants_json (jobs.Show image trace device from to form) = are_json form
job_wants_json (jobs.Test files only form junit) = is_case_json form
job_wants_json (jobs.Expect files image device only form junit) = is_case_json form
job_wants_json _ = false

abbrev pub wants_json : Asked → Bool
wants_json (asked.Job job) = job_wants_json job
wants_json (asked.Live live) = false
wants_json (asked.Fleet fleet) = fleet.json
wants_json (asked.Log server) = false
wants_json (asked.Text help is_mistake) = false

-- whether these words do
pub record AskInForm (words : List (List ℕ)) (json : Bool) : Type 0 where
  pub asked : Asked
  pub read : IsReadAs words asked
  pub form : json ≡ wants_json asked

-- a fault is told in JSON where the words ask for that; not where no memory was left to read them
abbrev pub IsFormOf : List (List ℕ) → Fault → Bool → Type 0
IsFormOf words fault json = AskInForm words json ⊎ ((fault ≡ Memory) × (json ≡ false))

abbrev pub IsToldIn : Bool → StreamFaults → Streams → Streams → Option (List ℕ) → Option (List ℕ) → Fault → Type 0
IsToldIn false faults before after about blamed fault = IsTold faults before after about fault
IsToldIn true faults before after about blamed fault = IsToldInJson faults before after about blamed fault

-- what the words ask for was not done, and that was told
pub record IsFaulted (files : FilesKnown) (faults : StreamFaults) (before after : World) (terminal : Bool)
    (words : List (List ℕ)) : Type 0 where
  pub fault : Fault
  -- the files and the streams when the fault was met
  pub between : World
  pub undone : IsUnfinished files faults before between terminal words fault
  -- the file or the word that standard error names
  pub about : Option (List ℕ)
  -- the word of a refused line that is to blame
  pub blamed : Option (List ℕ)
  -- whether it is told in JSON
  pub json : Bool
  pub form : IsFormOf words fault json
  pub told : IsToldIn json faults between.streams after.streams about blamed fault
  pub none_made : after.made ≡ between.made
  pub none_read : after.streams.input ≡ between.streams.input

-- a command ends: what the words ask for was done, or there was a fault; and of standard input at most 64 MiB were
-- taken, whatever the end
pub record Ends (files : FilesKnown) (faults : StreamFaults) (before after : World) (terminal : Bool)
    (words : List (List ℕ)) (status : Status) : Type 0 where
  pub ended :
      IsFinished files faults before after terminal words status
      ⊎ ((status ≡ ends.Fault) × IsFaulted files faults before after terminal words)
  pub within : WhereKnown (IsWithin most_bytes) before.streams.input after.streams.input
