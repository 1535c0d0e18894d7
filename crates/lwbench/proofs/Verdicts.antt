-- What a session of several devices and its verdict came to, put together from its parts.
use Rattle.std.proofs.Common.{ℕ, ◌≡◌, Bool, List, [], ◌∷◌, Option, Some, Result, Ok, Err, IfErr, IfOk}
use Rattle.std.proofs.Common.{arith, inl, inr, length, option_map, refl, sym, subst, ◌≤◌}
use Rattle.command_files.specs.Answers.{IsUndelivered}
use Rattle.std.specs.Result.{IsErrAnd}
use Rattle.test_reports.specs.Reading.{AreRead, IsRefusalOf}
use Rattle.expectations.specs.ExpectedCases.{expected_cases_in}
use Rattle.expectations.specs.declared.expectation.ExpectedCase.{ExpectedCase}
use Rattle.test_reports.specs.declared.case_file.CaseFile.{CaseFile}
use Rattle.command_files.specs.World.{FilesKnown, StreamFaults, World}
use Rattle.command_files.specs.declared.answer.Answer.{Answer}
use Rattle.command_files.specs.declared.refusal.Refusal.{Refusal}
use Rattle.command_files.specs.declared.status.Status.{Status}
use Rattle.command_fleet.specs.Fleet.{IsFleetDone, IsFleetFault}
use Rattle.command_fleet.specs.declared.concluding.Held.{Held}
use Rattle.command_line.specs.Words.{IsReadAs}
use Rattle.command_line.specs.declared.fleet_words.AskedFleet.{AskedFleet}
use Rattle.command_line.specs.declared.words.Asked.TheVariants as asked
use Rattle.scenario_image.specs.Scenario.{Scenario}
use Rattle.lwbench.specs.Command.{Came, IsUnfinished}
use Rattle.lwbench.specs.Judged.{IsJudgedBy, IsReported, IsUnjudgedBy}
use Rattle.lwbench.specs.Judged.{IsVerdict, goal_paths}

-- where there is something that servers have to send, the report is the verdict
pub judged_by : (goal : List (CaseFile ExpectedCase)) (json : Bool) (junit : Option (List ℕ)) (saved : Scenario)
    (before after : World) (held status : Status) → 1 ≤ length goal
    → IsReported goal json junit saved before after held status
    → IsJudgedBy goal json junit (Some saved) before after held status
judged_by [] json junit saved before after held status some reported = absurd (omega (arith, some))
judged_by (file ∷ files) json junit saved before after held status some reported = reported

-- a report that was not told is the fault
pub undelivered_by : {T : Type 0}
    → (refuses : List ℕ → Type 0) (faults : StreamFaults) (goal : List (CaseFile ExpectedCase)) (json : Bool)
    (junit : Option (List ℕ))
    (left : Option Scenario) (saved : Scenario) (before after : World) (answer : Answer) (result : Result T Refusal)
    (refusal : Refusal) → left ≡ Some saved → IsVerdict goal json junit saved answer
    → IsErrAnd result (λ r. r ≡ refusal) → IsUndelivered refuses faults before after answer refusal.fault
    → after.streams.errors ≡ before.streams.errors
    → IfErr result (λ r. IsUnjudgedBy refuses faults goal json junit left before after r.fault)
undelivered_by refuses faults goal json junit left saved before after answer (Ok x) refusal is report told undelivered
    quiet = tt
undelivered_by refuses faults goal json junit left saved before after answer (Err r) refusal is report told undelivered
    quiet =
    subst (λ l. IsUnjudgedBy refuses faults goal json junit l before after r.fault) (sym is)
    (subst (λ e. IsUnjudgedBy refuses faults goal json junit (Some saved) before after e.fault) (sym told)
    (inr (record { answer = answer; report = report; undelivered = undelivered; quiet = quiet })))

-- ---- a session

-- it was concluded, and judged, or not judged
pub judged : (files : FilesKnown) (faults : StreamFaults) (before between after : World) (terminal : Bool)
    (words : List (List ℕ)) (fleet : AskedFleet) (goal read : List (CaseFile ExpectedCase)) (held : Held)
    (result : Result Status Refusal) → IsReadAs words (asked.Fleet fleet) → goal ≡ read
    → AreRead expected_cases_in files.holds (goal_paths fleet) read
    → IsFleetDone files before between fleet terminal held
    → IfOk result (IsJudgedBy goal fleet.json (option_map (λ p. p.now) fleet.verdict.junit) held.saved between after
    held.status)
    → IfErr result (λ r. IsUnjudgedBy files.refuses faults goal fleet.json
    (option_map (λ p. p.now) fleet.verdict.junit) held.saved between after r.fault)
    → after.streams.input ≡ before.streams.input → Came files faults before after terminal words result
judged files faults before between after terminal words fleet goal read held (Ok status) asks same are done is why
    unread =
    inr (inr (inr (
      record {
        fleet = fleet;
        read = asks;
        goal = goal;
        goal_is = subst (AreRead expected_cases_in files.holds (goal_paths fleet)) (sym same) are;
        between = between;
        held = held;
        done = done;
        judged = is;
      },
      unread,
    )))
judged files faults before between after terminal words fleet goal read held (Err r) asks same are done is why unread =
    inr (inr (inr (
      record {
        fleet = fleet;
        read = asks;
        lost = inr (inr (record {
          goal = goal;
          goal_is = subst (AreRead expected_cases_in files.holds (goal_paths fleet)) (sym same) are;
          between = between;
          held = held;
          done = done;
          why = why;
        }));
      },
      unread,
    )))

-- it was not begun: what servers have to send could not be read
pub goal_refused : (files : FilesKnown) (faults : StreamFaults) (before : World) (terminal : Bool)
    (words : List (List ℕ)) (fleet : AskedFleet) (about : Option (List ℕ)) (result : Result Status Refusal)
    (refusal : Refusal) → IsErrAnd result (λ r. r ≡ refusal) → IsReadAs words (asked.Fleet fleet)
    → IsRefusalOf expected_cases_in files.holds files.fails (goal_paths fleet) about refusal.fault
    → Came files faults before before terminal words result
goal_refused files faults before terminal words fleet about (Ok status) refusal told asks refused = absurd told
goal_refused files faults before terminal words fleet about (Err r) refusal told asks refused =
    subst (λ e. IsUnfinished files faults before before terminal words e.fault) (sym told) (inr (inr (inr (
      record {
        fleet = fleet;
        read = asks;
        lost = inl (record {
          about = about;
          why = refused;
          untouched = record { none_made = refl; silent = (refl, refl) };
        });
      },
      refl,
    ))))

-- it has a fault
pub fleet_refused : (files : FilesKnown) (faults : StreamFaults) (before after : World) (terminal : Bool)
    (words : List (List ℕ)) (fleet : AskedFleet) (result : Result Status Refusal) (refusal : Refusal)
    → IsErrAnd result (λ r. r ≡ refusal) → IsReadAs words (asked.Fleet fleet)
    → IsFleetFault files faults before after fleet terminal refusal.fault
    → after.streams.input ≡ before.streams.input → Came files faults before after terminal words result
fleet_refused files faults before after terminal words fleet (Ok status) refusal told asks fault unread = absurd told
fleet_refused files faults before after terminal words fleet (Err r) refusal told asks fault unread =
    subst (λ e. IsUnfinished files faults before after terminal words e.fault) (sym told) (inr (inr (inr (
      record { fleet = fleet; read = asks; lost = inr (inl fault) },
      unread,
    ))))
