-- What is done and what is refused, put together from its parts.
use Rattle.std.proofs.Common.{ℕ, ◌≡◌, ◌<◌, ◌≤◌, ◌⊎◌, List, [], ◌∷◌, Option, None, Some, length, arith, inl, inr}
use Rattle.std.proofs.Common.{subst}
use Rattle.std.proofs.lemmas.Bool.{cases_lt}
use Rattle.std.specs.String.{string_bytes}
use Rattle.scenario_image.specs.Scenario.{Scenario}
use Rattle.scenario_image.specs.Image.{IsImageIn}
use Rattle.scenario_asm.specs.Canonical as canonical
use Rattle.trace_file.specs.declared.entry.Entry.{Entry}
use Rattle.trace_file.specs.Layout.{IsTraceFile}
use Rattle.fleet_workers.specs.declared.fleet.FleetRun.{FleetRun}
use Rattle.worker_visits.specs.Blocks.{anyone}
use Rattle.fleet_workers.specs.Fleet.{IsFleetRun, AreByBlocks, AreWorkers, left_by}
use Rattle.command_scenarios.specs.Runs.{end_status}
use Rattle.command_texts.specs.Endings.{end_line}
use Rattle.fleet_core.specs.declared.verdict.Verdict.{Verdict}
use Rattle.trace_json.specs.Notes.{verdict_json}
use Rattle.trace_json.specs.Writing.{json_line}
use Rattle.command_files.specs.Verdicts.{IsCheckDone, IsVerdictAt, verdict_line, verdict_status}
use Rattle.command_files.specs.Files.{MadeFile}
use Rattle.command_scenarios.specs.RunAnswer.{IsSavedAs, IsRunBy, IsRunAnswer, IsRunFault, IsWrongBatch, RunOptions}
use Rattle.command_files.specs.Loading.{IsScenarioAt, IsImageFault, RunPaths}
use Rattle.command_scenarios.specs.Jobs.{IsAsmDone, IsCheckJsonDone, IsDisDone, IsRunDone}
use Rattle.command_scenarios.specs.Jobs.{IsRunRefused, TextPaths}
use Rattle.command_scenarios.specs.Texts.{count_line}
use Rattle.command_texts.specs.Texts.{IsTextAt}
use Rattle.command_files.specs.declared.fault.Fault.{Fault}
use Rattle.command_files.specs.Answers.{files_of}
use Rattle.command_files.specs.declared.answer.Answer.{Answer}
use Rattle.command_files.specs.declared.status.Status.TheVariants.{Done}

pub not_saved : (es : List Entry) (made : List MadeFile) → made ≡ [] → IsSavedAs None es made
not_saved es made same = same

pub saved_as : (path bytes : List ℕ) (es : List Entry) (made : List MadeFile) → IsTraceFile bytes es
    → made ≡ (record { path = path; bytes = bytes }) ∷ [] → IsSavedAs (Some path) es made
saved_as path bytes es made file same = (bytes, file, same)

-- a number that cannot but be from 1 to this one is so
between : (n most : ℕ) → (((1 ≤ n) × (n ≤ most) → ⊥) → ⊥) → (1 ≤ n) × (n ≤ most)
between n most h = by (cases_lt 0 n) (cases_lt most n)
  where
    by : (0 < n) ⊎ (n ≤ 0) → (most < n) ⊎ (n ≤ most) → (1 ≤ n) × (n ≤ most)
    by (inl some) (inr few) = (some, few)
    by (inl some) (inl many) = absurd (h (λ it. omega (arith, it.1, many)))
    by (inr none) few = absurd (h (λ it. omega (arith, it.0, none)))

pub run_by : (s : Scenario) (options : RunOptions) (r : FleetRun) → ((AreWorkers options.workers → ⊥) → ⊥)
    → (IsWrongBatch options → ⊥) → IsFleetRun s options.workers r
    → AreByBlocks anyone s options.workers options.batch r.entries → IsRunBy s options r
run_by s options r counted bounded right blocks =
    record {
      workers_are = are;
      batch_is = between options.batch 64 (λ no. bounded (are, no));
      right = right;
      blocks = blocks;
    }
  where
    are : AreWorkers options.workers
    are = between options.workers 64 counted

pub run_answer : (s : Scenario) (options : RunOptions) (trace : Option (List ℕ)) (r : FleetRun) (answer : Answer)
    → IsRunBy s options r → IsSavedAs trace r.entries (files_of answer.file)
    → string_bytes answer.text ≡ end_line (length r.entries) (left_by r.end)
    → answer.status ≡ end_status (left_by r.end) → IsRunAnswer s options trace answer
run_answer s options trace r answer right saved said ended = record {
  run = r;
  right = right;
  saved = saved;
  text_is = subst (λ ds. string_bytes answer.text ≡ end_line (length r.entries) ds) right.right.waiting said;
  status_is = subst (λ ds. answer.status ≡ end_status ds) right.right.waiting ended;
}

pub asm_done : (holds : List ℕ → List ℕ → Type 0) (paths : TextPaths) (bytes : List ℕ) (s : Scenario) (answer : Answer)
    → IsTextAt holds paths.text s → IsImageIn 2 bytes s → string_bytes answer.text ≡ count_line s
    → answer.status ≡ Done → files_of answer.file ≡ (record { path = paths.image; bytes = bytes }) ∷ []
    → IsAsmDone holds paths answer
asm_done holds paths bytes s answer found image said ended one =
    record {
      scenario = s;
      found = found;
      bytes = bytes;
      image = image;
      text_is = said;
      status_is = ended;
      made_is = one;
    }

pub dis_done : (holds : List ℕ → List ℕ → Type 0) (input : List ℕ) (s : Scenario) (answer : Answer)
    → IsScenarioAt holds input s → string_bytes answer.text ≡ canonical.text_of_scenario s → answer.status ≡ Done
    → files_of answer.file ≡ [] → IsDisDone holds input answer
dis_done holds input s answer found said ended none =
    record { scenario = s; found = found; text_is = said; status_is = ended; made_is = none }

pub run_done : (holds : List ℕ → List ℕ → Type 0) (image : List ℕ) (options : RunOptions) (trace : Option (List ℕ))
    (s : Scenario) (answer : Answer) → IsScenarioAt holds image s → IsRunAnswer s options trace answer
    → IsRunDone holds image options trace answer
run_done holds image options trace s answer found ran = record { scenario = s; found = found; run = ran }

pub check_done : (holds : List ℕ → List ℕ → Type 0) (paths : RunPaths) (s : Scenario) (verdict : Verdict)
    (answer : Answer) → IsScenarioAt holds paths.image s → IsVerdictAt holds paths.trace s verdict
    → string_bytes answer.text ≡ verdict_line verdict → answer.status ≡ verdict_status verdict
    → files_of answer.file ≡ [] → IsCheckDone holds paths answer
check_done holds paths s verdict answer found at said ended none =
    record {
      scenario = s;
      found = found;
      entries = at.entries;
      read = at.read;
      judged = record { verdict = verdict; judged = at.judged; text_is = said; status_is = ended };
      made_is = none;
    }

pub check_json_done : (holds : List ℕ → List ℕ → Type 0) (paths : RunPaths) (s : Scenario) (verdict : Verdict)
    (answer : Answer) → IsScenarioAt holds paths.image s → IsVerdictAt holds paths.trace s verdict
    → string_bytes answer.text ≡ json_line (verdict_json verdict) → answer.status ≡ verdict_status verdict
    → files_of answer.file ≡ [] → IsCheckJsonDone holds paths answer
check_json_done holds paths s verdict answer found at said ended none =
    record {
      scenario = s;
      found = found;
      entries = at.entries;
      read = at.read;
      judged = record { verdict = verdict; judged = at.judged; text_is = said; status_is = ended };
      made_is = none;
    }

pub run_image : (holds : List ℕ → List ℕ → Type 0) (fails : List ℕ → Type 0) (image : List ℕ) (options : RunOptions)
    (f : Fault) → IsImageFault holds fails image f → IsRunRefused holds fails image options f
run_image holds fails image options f h = inl h

pub run_work : (holds : List ℕ → List ℕ → Type 0) (fails : List ℕ → Type 0) (image : List ℕ) (options : RunOptions)
    (f : Fault) (s : Scenario) → IsScenarioAt holds image s → IsRunFault s options f
    → IsRunRefused holds fails image options f
run_work holds fails image options f s found h = inr (record { scenario = s; found = found; fault = h })
