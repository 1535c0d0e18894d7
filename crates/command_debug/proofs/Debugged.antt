-- What `debug` came to, put together from its parts.
use Rattle.std.proofs.Common.{ℕ, ◌≡◌, ◌⊎◌, List, [], inl, inr, refl}
use Rattle.scenario_image.specs.Scenario.{Scenario}
use Rattle.trace_file.specs.declared.entry.Entry.{Entry}
use Rattle.fleet_core.specs.Run.{IsRun}
use Rattle.debugger.specs.Session.{new_session}
use Rattle.command_files.proofs.Built.{check_image, check_trace}
use Rattle.command_files.proofs.Faults.{file_memory}
use Rattle.scenario_image.specs.Image.{HasImageFault}
use Rattle.command_debug.specs.Conversation.{IsConversation, IsCutShort, Terms}
use Rattle.command_debug.specs.Debugging.{IsDebugCutAt, IsDebuggedAt, IsOpenedAt, IsDebugRefused}
use Rattle.command_files.specs.Answers.{files_of}
use Rattle.command_files.specs.Loading.{IsCheckRefused, IsImageFault, IsScenarioAt, IsTraceAt, IsTraceFault, RunPaths}
use Rattle.command_files.specs.Verdicts.{IsJudged}
use Rattle.command_files.specs.World.{IsIdle, Streams}
use Rattle.command_files.specs.declared.fault.Fault.{Fault}
use Rattle.command_files.specs.declared.fault.Fault.TheVariants.{Memory}
use Rattle.command_files.specs.declared.answer.Answer.{Answer}
use Rattle.command_files.specs.declared.status.Status.TheVariants.{NotRun}

opened_at : (holds : List ℕ → List ℕ → Type 0) (paths : RunPaths) (s : Scenario) (es : List Entry)
    → IsScenarioAt holds paths.image s → IsTraceAt holds paths.trace es → IsRun s es
    → IsOpenedAt holds paths (new_session s es)
opened_at holds paths s es found read run =
    record { scenario = s; found = found; entries = es; read = read; run = run; start = refl }

pub debug_refused : (holds : List ℕ → List ℕ → Type 0) (paths : RunPaths) (s : Scenario) (es : List Entry)
    (answer : Answer) → IsScenarioAt holds paths.image s → IsTraceAt holds paths.trace es → IsJudged s es answer
    → answer.status ≡ NotRun → files_of answer.file ≡ [] → IsDebugRefused holds paths answer
debug_refused holds paths s es answer found read judged no_run none =
    record {
      checked = record { scenario = s; found = found; entries = es; read = read; judged = judged; made_is = none };
      no_run = no_run;
    }

pub debugged_at : (holds : List ℕ → List ℕ → Type 0) (terms : Terms) (paths : RunPaths) (s : Scenario)
    (es : List Entry) (before after : Streams) → IsScenarioAt holds paths.image s → IsTraceAt holds paths.trace es
    → IsRun s es → IsConversation terms before after (new_session s es) → IsDebuggedAt holds terms paths before after
debugged_at holds terms paths s es before after found read run conversation =
    record {
      session = new_session s es;
      opened = opened_at holds paths s es found read run;
      conversation = conversation;
    }

-- what is refused before the conversation, or cuts it short
abbrev pub IsDebugFault : (List ℕ → List ℕ → Type 0) → (List ℕ → Type 0) → Terms → RunPaths → Streams → Streams
    → Fault → Type 0
IsDebugFault holds fails terms paths before after fault =
    (IsCheckRefused holds fails paths fault × IsIdle before after) ⊎ IsDebugCutAt holds terms paths before after fault

pub image_refused : (holds : List ℕ → List ℕ → Type 0) (fails : List ℕ → Type 0) (terms : Terms)
    (paths : RunPaths) (before after : Streams) (fault : Fault) → IsImageFault holds fails paths.image fault
    → IsIdle before after → IsDebugFault holds fails terms paths before after fault
image_refused holds fails terms paths before after fault h idle =
    inl (check_image holds fails paths fault h, idle)

pub trace_refused : (holds : List ℕ → List ℕ → Type 0) (fails : List ℕ → Type 0) (terms : Terms)
    (paths : RunPaths) (before after : Streams) (s : Scenario) (fault : Fault) → IsScenarioAt holds paths.image s
    → IsTraceFault holds fails paths.trace fault → IsIdle before after
    → IsDebugFault holds fails terms paths before after fault
trace_refused holds fails terms paths before after s fault found h idle =
    inl (check_trace holds fails paths fault s found h, idle)

pub run_refused : (holds : List ℕ → List ℕ → Type 0) (fails : List ℕ → Type 0) (terms : Terms)
    (paths : RunPaths) (before after : Streams) (s : Scenario) (es : List Entry) (fault : Fault)
    → IsScenarioAt holds paths.image s → IsTraceAt holds paths.trace es
    → ((fault ≡ Memory) × IsIdle before after)
    ⊎ (IsRun s es × IsCutShort terms before after (new_session s es) fault)
    → IsDebugFault holds fails terms paths before after fault
run_refused holds fails terms paths before after s es fault found read (inl (memory, idle)) =
    inl (check_image holds fails paths fault (file_memory holds fails HasImageFault paths.image fault memory), idle)
run_refused holds fails terms paths before after s es fault found read (inr (run, cut)) =
    inr (record {
      session = new_session s es;
      opened = opened_at holds paths s es found read run;
      cut = cut;
    })
