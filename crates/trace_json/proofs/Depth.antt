-- The objects of a trace nest no deeper than a reader allows, so that they are read.
use Rattle.std.proofs.Common.{ℕ, ◌≤◌, List, [], ◌∷◌, map, Option, None, Some, arith}
use Rattle.lwm2m_values.specs.declared.value.Value.{Value}
use Rattle.lwm2m_values.specs.declared.value.Value.TheVariants.{Text, Whole, Flag, Opaque, Moment, Link}
use Rattle.device_machine.specs.declared.event.Event.TheVariants.{Recv, Put, Firmware, Tick}
use Rattle.device_machine.specs.declared.output.Output.{Output}
use Rattle.device_machine.specs.declared.output.Output.TheVariants.{Send, Act}
use Rattle.scenario_image.specs.declared.step.Step.{Step}
use Rattle.scenario_image.specs.declared.step.Step.TheVariants.{Event, Post, Need}
use Rattle.scenario_image.specs.Scenario.{Scenario}
use Rattle.trace_file.specs.declared.entry.Entry.{Entry}
use Rattle.fleet_core.specs.Run.{step_at}
use Rattle.fleet_core.specs.declared.verdict.Verdict.{Verdict}
use Rattle.fleet_core.specs.declared.verdict.Verdict.TheVariants.{Run, NotRun}
use Rattle.std.proofs.Common.{◌++◌, codes, option_map}
use Rattle.serde_json.specs.Data.{depth, items_depth, members_depth, string}
use Rattle.serde_json.specs.Read.{max_depth}
use Rattle.serde_json.specs.View.{items_of}
use Rattle.trace_json.specs.Answers.{StatedDifference, case_json, counts_json, differing_fields, done_json, end_json}
use Rattle.trace_json.specs.Answers.{one_json, stalled_json, texts_json}
use Rattle.trace_json.specs.Entries.{entry_json, head_json}
use Rattle.trace_json.specs.Json.{Field, fields_json, number_json}
use Rattle.trace_json.specs.Notes.{if_there, verdict_json}
use Rattle.trace_json.specs.Steps.{event_json, output_json, value_json}
use Rattle.trace_json.specs.Writing.{Has64Bits, IsReadAgain}
use Rattle.trace_json.proofs.ReadAgain.{read_again}

value_depth : (v : Value) → depth (value_json v) ≤ 1
unfolding value_json
value_depth (Text t) = omega arith
value_depth (Whole z) = omega arith
value_depth (Flag b) = omega arith
value_depth (Opaque bytes) = omega arith
value_depth (Moment z) = omega arith
value_depth (Link o i) = omega arith

pub event_depth : (o : Option Step) → depth (event_json o) ≤ 2
unfolding event_json
event_depth None = omega arith
event_depth (Some (Event (Recv server bytes))) = omega arith
event_depth (Some (Event (Put path value))) = omega (arith, value_depth value)
event_depth (Some (Event (Firmware code))) = omega arith
event_depth (Some (Event (Tick seconds))) = omega arith
event_depth (Some (Post group)) = omega arith
event_depth (Some (Need group count)) = omega arith

pub output_depth : (o : Output) → depth (output_json o) ≤ 1
unfolding output_json
output_depth (Send server bytes) = omega arith
output_depth (Act act) = omega arith

outputs_depth : (os : List Output) → items_depth (items_of (map output_json os)) ≤ 1
outputs_depth [] = omega arith
outputs_depth (o ∷ os) = omega (arith, output_depth o, outputs_depth os)

entry_depth : (s : Scenario) (n : ℕ) (e : Entry) → depth (entry_json s n e) ≤ max_depth
unfolding entry_json
entry_depth s n e = omega (arith, event_depth (step_at s e.device e.step), outputs_depth e.outputs)

head_depth : (devices entries : ℕ) → depth (head_json devices entries) ≤ max_depth
unfolding head_json
head_depth devices entries = omega arith

pub entry_again : (s : Scenario) (n : ℕ) (e : Entry) → Has64Bits (entry_json s n e) → IsReadAgain (entry_json s n e)
entry_again s n e exact = read_again (entry_json s n e) exact (entry_depth s n e)

pub head_again : (devices entries : ℕ) → Has64Bits (head_json devices entries) → IsReadAgain (head_json devices entries)
head_again devices entries exact = read_again (head_json devices entries) exact (head_depth devices entries)

-- ---- what is answered where there is no trace

verdict_depth : (v : Verdict) → depth (verdict_json v) ≤ max_depth
unfolding verdict_json
verdict_depth Run = omega arith
verdict_depth (NotRun place) = omega arith

pub verdict_again : (v : Verdict) → Has64Bits (verdict_json v) → IsReadAgain (verdict_json v)
verdict_again v exact = read_again (verdict_json v) exact (verdict_depth v)

-- ---- how a run ended, what a device outputs, whether a case holds

numbers_depth : (ns : List ℕ) → items_depth (items_of (map number_json ns)) ≤ 0
numbers_depth [] = omega arith
numbers_depth (n ∷ ns) = omega (arith, numbers_depth ns)

end_depth : (count : ℕ) (waiting : List ℕ) → depth (end_json count waiting) ≤ max_depth
unfolding done_json stalled_json
end_depth count [] = omega arith
end_depth count (d ∷ ds) = omega (arith, numbers_depth (d ∷ ds))

pub end_again : (count : ℕ) (waiting : List ℕ) → Has64Bits (end_json count waiting)
    → IsReadAgain (end_json count waiting)
end_again count waiting exact = read_again (end_json count waiting) exact (end_depth count waiting)

one_depth : (os : List Output) → depth (one_json os) ≤ max_depth
unfolding one_json
one_depth os = omega (arith, outputs_depth os)

pub one_again : (os : List Output) → Has64Bits (one_json os) → IsReadAgain (one_json os)
one_again os exact = read_again (one_json os) exact (one_depth os)

texts_depth : (ts : List (List ℕ)) → items_depth (items_of (map string ts)) ≤ 0
texts_depth [] = omega arith
texts_depth (t ∷ ts) = omega (arith, texts_depth ts)

line_depth : (o : Option ℕ) (fs : List Field) → members_depth (fields_json fs) ≤ 1
    → members_depth (fields_json (if_there (codes "line") (option_map number_json o) ++ fs)) ≤ 1
line_depth None fs h = h
line_depth (Some n) fs h = omega (arith, h)

differing_depth : (o : Option StatedDifference) → members_depth (fields_json (differing_fields o)) ≤ 1
differing_depth None = omega arith
differing_depth (Some d) =
    line_depth d.line ((codes "stated", string d.stated) ∷ (codes "came", texts_json d.came) ∷ [])
    (omega (arith, texts_depth d.came))

case_depth : (title file : List ℕ) (o : Option StatedDifference) → depth (case_json title file o) ≤ max_depth
unfolding case_json
case_depth title file o = omega (arith, differing_depth o)

pub case_again : (title file : List ℕ) (o : Option StatedDifference) → Has64Bits (case_json title file o)
    → IsReadAgain (case_json title file o)
case_again title file o exact = read_again (case_json title file o) exact (case_depth title file o)

counts_depth : (cases differ : ℕ) → depth (counts_json cases differ) ≤ max_depth
unfolding counts_json
counts_depth cases differ = omega arith

pub counts_again : (cases differ : ℕ) → Has64Bits (counts_json cases differ) → IsReadAgain (counts_json cases differ)
counts_again cases differ exact = read_again (counts_json cases differ) exact (counts_depth cases differ)
