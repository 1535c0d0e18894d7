-- What is answered to a line of the debugger's input, and where the debugger then is.
use Rattle.std.specs.Prelude.{◌≡◌, ℕ, ◌<◌, ◌≤◌, Bool, List, [], length, codes}
use Rattle.debug_answers.specs.declared.command.Command.{Command}
use Rattle.debug_answers.specs.declared.command.Command.TheVariants as command
use Rattle.debug_answers.specs.declared.command.Point.{Point}
use Rattle.debug_answers.specs.declared.command.Point.TheVariants as point
use Rattle.debug_answers.specs.Saying.{IsCommandIn}
use Rattle.debugger.specs.declared.breaks.Break.{Break}
use Rattle.debugger.specs.declared.breaks.Break.TheVariants as breaks
use Rattle.debugger.specs.Session.{Session}
use Rattle.debugger.specs.Shown.{value_shown, observations_shown, outputs_shown}
use Rattle.scenario_words.specs.Words.{ended_line}
use Rattle.debug_answers.specs.Lines.{at_line}
use Rattle.debug_answers.specs.Outputs.{output_lines}
use Rattle.debug_answers.specs.Show.{value_line, observation_lines}
use Rattle.debug_answers.specs.Why.{IsWhyAnswer}
use Rattle.debug_answers.specs.Answers.{IsCommandRefused, IsForward, IsBack, IsBreak, IsCleared, IsResumed}

-- this is shown of a device, or `no device` where the scenario has no row for it
pub record IsDeviceAnswer (v : Session) (d : ℕ) (shown text : List ℕ) : Type 0 where
  pub device_there : d < length v.scenario.rows → text ≡ shown
  pub no_device : length v.scenario.rows ≤ d → text ≡ ended_line (codes "no device")

-- the breakpoint of a point
abbrev pub break_of : Point → Break
break_of (point.At n) = breaks.At n
break_of (point.Step d k) = breaks.DeviceStep d k
break_of (point.Changed d p) = breaks.Changed d p
break_of (point.Code d c) = breaks.Code d c
break_of (point.Notified d) = breaks.Notified d

-- what is answered to a command; nothing to `quit`
abbrev pub IsAnswer : Session → Command → Session → List ℕ → Type 0
IsAnswer old command.At new text = (new ≡ old) × (text ≡ at_line old.place)
IsAnswer old (command.Forward n) new text = IsForward old n new text
IsAnswer old (command.Back n) new text = IsBack old n new text
IsAnswer old (command.Break p) new text = IsBreak old (break_of p) new text
IsAnswer old (command.Clear id) new text = IsCleared old id new text
IsAnswer old command.Resume new text = IsResumed old new text
IsAnswer old (command.Value d p) new text =
    (new ≡ old) × IsDeviceAnswer old d (value_line (value_shown old.scenario old.entries old.place d p)) text
IsAnswer old (command.Observations d) new text =
    (new ≡ old) × IsDeviceAnswer old d (observation_lines (observations_shown old.scenario old.entries old.place d))
    text
IsAnswer old (command.Outputs d) new text =
    (new ≡ old) × IsDeviceAnswer old d (output_lines (outputs_shown old.scenario old.entries old.place d)) text
IsAnswer old (command.Why d) new text = (new ≡ old) × IsWhyAnswer old d text
IsAnswer old command.Quit new text = (new ≡ old) × (text ≡ [])

-- what a debugger, which is asked for reasons or not, answers to a line: the answer to the command that it says, or
-- `bad command` where it says none that the debugger has
pub record IsReply (reasons : Bool) (old : Session) (said : List ℕ) (new : Session) (text : List ℕ) : Type 0 where
  pub answer : (c : Command) → IsCommandIn reasons c said → IsAnswer old c new text
  pub bad_command : ((c : Command) → IsCommandIn reasons c said → ⊥)
      → IsCommandRefused old new (codes "bad command") text
