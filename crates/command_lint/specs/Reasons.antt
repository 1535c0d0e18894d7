-- The lines below that of a finding: why the device answered like that.
use Rattle.std.specs.Prelude.{ℕ, ◌≡◌, List, [], Option, None, Some}
use Rattle.device_machine.specs.State.{Machine}
use Rattle.device_template.specs.Template.{Template}
use Rattle.scenario_image.specs.Play.{IsRowOf, state_at}
use Rattle.scenario_image.specs.Scenario.{Scenario}
use Rattle.scenario_image.specs.declared.step.Step.{Step}
use Rattle.fleet_core.specs.Run.{step_at}
use Rattle.trace_reasons.specs.Text.{AreReasonLines}
use Rattle.server_lint.specs.History.{Transmission}
use Rattle.server_lint.specs.declared.sender.Sender.{Sender}
use Rattle.server_lint.specs.declared.sender.Sender.TheVariants.{Server, Device}
use Rattle.command_lint.specs.declared.form.LintForm.{LintForm}
use Rattle.command_lint.specs.declared.form.LintForm.TheVariants.{Text, Reasons, JsonLines}

-- the lines why a device in this flat state answers like that in a step, if there is one
abbrev pub AreLinesOf : Machine → Option Step → List ℕ → Type 0
AreLinesOf f None lines = lines ≡ []
AreLinesOf f (Some step) lines = AreReasonLines f step lines

-- the same of step k of a device, which is in the state after the steps before it
abbrev pub AreReasonsAt : Scenario → ℕ → ℕ → List ℕ → Type 0
AreReasonsAt s d k lines =
    (class : Template) (steps : List Step) → IsRowOf s d class steps
    → AreLinesOf (state_at class steps k) (step_at s d k) lines

-- nothing is said of what the device sends
abbrev pub AreReasonsOf : Sender → Scenario → ℕ → ℕ → List ℕ → Type 0
AreReasonsOf Server s d k lines = AreReasonsAt s d k lines
AreReasonsOf Device s d k lines = lines ≡ []

-- what stands below the line of a datagram in this form
abbrev pub IsBelow : LintForm → Scenario → ℕ → Transmission → List ℕ → Type 0
IsBelow Text s d t lines = lines ≡ []
IsBelow Reasons s d t lines = AreReasonsOf t.sender s d t.step lines
IsBelow JsonLines s d t lines = lines ≡ []

-- the same at a place of a history
abbrev pub IsBelowAt : LintForm → Scenario → ℕ → Option Transmission → List ℕ → Type 0
IsBelowAt form s d None lines = lines ≡ []
IsBelowAt form s d (Some t) lines = IsBelow form s d t lines
