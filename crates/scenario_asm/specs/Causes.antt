-- What builders refuse, as causes of a line's refusal; and what a line makes, or why it is refused.
use Rattle.std.specs.Prelude.{◌≡◌, ◌≢◌, Bool, Option, None, Some, Result, Ok, Err, if◌then◌else◌}
use Rattle.device_template.specs.declared.fault.TemplateFault.{TemplateFault}
use Rattle.device_template.specs.declared.fault.TemplateFault.TheVariants as template
use Rattle.scenario_image.specs.declared.fault.ScenarioFault.{ScenarioFault}
use Rattle.scenario_image.specs.declared.fault.ScenarioFault.TheVariants as scenario
use Rattle.scenario_words.specs.declared.cause.Cause.{Cause}
use Rattle.scenario_words.specs.declared.cause.Cause.TheVariants.{Range, Missing, Duplicate, Limit, Memory}

-- what a class refuses, as a cause
abbrev pub template_cause : TemplateFault → Cause
template_cause template.Range = Range
template_cause template.Missing = Missing
template_cause template.Duplicate = Duplicate
template_cause template.Full = Limit
template_cause template.Memory = Memory

-- what a scenario refuses, as a cause
abbrev pub scenario_cause : ScenarioFault → Cause
scenario_cause scenario.Range = Range
scenario_cause scenario.Missing = Missing
scenario_cause scenario.Limit = Limit
scenario_cause scenario.Memory = Memory

abbrev pub template_result : Result (Unit {0}) TemplateFault → Result (Unit {0}) Cause
template_result (Ok u) = Ok u
template_result (Err fault) = Err (template_cause fault)

abbrev pub scenario_result : Result (Unit {0}) ScenarioFault → Result (Unit {0}) Cause
scenario_result (Ok u) = Ok u
scenario_result (Err fault) = Err (scenario_cause fault)

-- what a class answered to the empty value of the kind of one that is too long: where it took that, the length is left
abbrev pub long_result : Result (Unit {0}) TemplateFault → Result (Unit {0}) Cause
long_result (Ok u) = Err Limit
long_result (Err fault) = Err (template_cause fault)

-- a call made this of what there was, as is wanted, or it refused as is wanted; or memory ran out
abbrev pub Makes : {X : Type 0} → Result (Unit {0}) Cause → X → Result X Cause → Type 0
Makes (Ok u) new wanted = wanted ≡ Ok new
Makes (Err cause) new wanted = cause ≢ Memory → wanted ≡ Err cause

-- this, where nothing refuses it
abbrev pub unless : {X : Type 0} → Option Cause → X → Result X Cause
unless None x = Ok x
unless (Some cause) x = Err cause

-- this, where what it needs was stated
abbrev pub needs : {X : Type 0} → Bool → Result X Cause → Result X Cause
needs stated x = if stated then x else Err Missing
