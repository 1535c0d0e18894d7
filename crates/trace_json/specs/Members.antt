-- What an object says of its entry.
use Rattle.std.specs.Prelude.{◌≡◌, ℕ, codes, Some}
use Rattle.byte_layout.specs.Exact.{IsBytes}
use Rattle.device_machine.specs.declared.output.Output.{Output}
use Rattle.device_machine.specs.declared.output.Output.TheVariants.{Send, Act}
use Rattle.scenario_image.specs.Scenario.{Scenario}
use Rattle.trace_file.specs.declared.entry.Entry.{Entry}
use Rattle.fleet_core.specs.Run.{step_at}
use Rattle.trace_text.specs.Lines.{step_words}
use Rattle.trace_text.specs.Seconds.{second_at}
use Rattle.serde_json.specs.Data.{Data, string}
use Rattle.serde_json.specs.Find.{get}
use Rattle.trace_json.specs.Json.{by_key, number_json}
use Rattle.trace_json.specs.Steps.{event_json, outputs_json}

-- each member is the one of the entry of this number
pub record TellsEntry (s : Scenario) (number : ℕ) (e : Entry) (d : Data) : Type 0 where
  pub entry : get (codes "entry") d ≡ Some (number_json number)
  pub worker : get (codes "worker") d ≡ Some (number_json e.worker)
  pub device : get (codes "device") d ≡ Some (number_json e.device)
  pub step : get (codes "step") d ≡ Some (number_json e.step)
  pub second : get (codes "second") d ≡ Some (number_json (second_at s e.device e.step))
  pub statement : get (codes "statement") d ≡ Some (string (step_words (step_at s e.device e.step)))
  pub event : get (codes "event") d ≡ Some (by_key (event_json (step_at s e.device e.step)))
  pub outputs : get (codes "outputs") d ≡ Some (by_key (outputs_json e.outputs))

-- what is sent is bytes
abbrev pub SendsBytes : Output → Type 0
SendsBytes (Send server bytes) = IsBytes bytes
SendsBytes (Act act) = Unit {0}

-- the two entries, of these numbers in traces of these scenarios, are the same, of the same step in the same second
pub record IsSameEntry (s t : Scenario) (m n : ℕ) (a b : Entry) : Type 0 where
  pub number : m ≡ n
  pub entry : a ≡ b
  pub step : step_at s a.device a.step ≡ step_at t b.device b.step
  pub second : second_at s a.device a.step ≡ second_at t b.device b.step
