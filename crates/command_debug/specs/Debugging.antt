-- What `debug IMAGE TRACE [--why]` comes to: a conversation with a debugger over a run, or the verdict that there is
-- none.
use Rattle.std.specs.Prelude.{ℕ, ◌≡◌, List}
use Rattle.scenario_image.specs.Scenario.{Scenario}
use Rattle.trace_file.specs.declared.entry.Entry.{Entry}
use Rattle.fleet_core.specs.Run.{IsRun}
use Rattle.debugger.specs.Session.{Session, new_session}
use Rattle.command_debug.specs.Conversation.{IsConversation, IsCutShort, Terms}
use Rattle.command_files.specs.Loading.{IsScenarioAt, IsTraceAt, RunPaths}
use Rattle.command_files.specs.Verdicts.{IsCheckDone}
use Rattle.command_files.specs.declared.answer.Answer.{Answer}
use Rattle.command_files.specs.declared.status.Status.TheVariants.{NotRun}
use Rattle.command_files.specs.World.{Streams}
use Rattle.command_files.specs.declared.fault.Fault.{Fault}

-- the files at the paths are a scenario's image and the trace file of a run of it, which a debugger was opened over
pub record IsOpenedAt (holds : List ℕ → List ℕ → Type 0) (paths : RunPaths) (session : Session) : Type 0 where
  pub scenario : Scenario
  pub found : IsScenarioAt holds paths.image scenario
  pub entries : List Entry
  pub read : IsTraceAt holds paths.trace entries
  pub run : IsRun scenario entries
  pub start : session ≡ new_session scenario entries

-- the conversation came to its end
pub record IsDebuggedAt (holds : List ℕ → List ℕ → Type 0) (terms : Terms) (paths : RunPaths)
    (before after : Streams) : Type 0 where
  pub session : Session
  pub opened : IsOpenedAt holds paths session
  pub conversation : IsConversation terms before after session

-- this fault cut the conversation short
pub record IsDebugCutAt (holds : List ℕ → List ℕ → Type 0) (terms : Terms) (paths : RunPaths)
    (before after : Streams) (fault : Fault) : Type 0 where
  pub session : Session
  pub opened : IsOpenedAt holds paths session
  pub cut : IsCutShort terms before after session fault

-- the trace is no run: the verdict that it is none
pub record IsDebugRefused (holds : List ℕ → List ℕ → Type 0) (paths : RunPaths) (answer : Answer) : Type 0 where
  pub checked : IsCheckDone holds paths answer
  pub no_run : answer.status ≡ NotRun
