-- The step, the outputs and the entry that an object was written for, found again from what is read.
use Rattle.std.proofs.Common.{◌≡◌, ℕ, ◌==◌, true, cond, codes, List, [], ◌∷◌, map, Option, None, Some}
use Rattle.std.proofs.Common.{refl, sym, ap, ap₂, ◌∙◌, slice_index}
use Rattle.std.specs.Prelude.{IfSome, is_some}
use Rattle.std.specs.List.{AllByRecursion}
use Rattle.object_defs.specs.declared.path.Path.{Path}
use Rattle.object_defs.specs.declared.path.Path.TheVariants.{Object, Instance, Resource, Part}
use Rattle.object_defs.specs.Path.{full_path}
use Rattle.device_requests.specs.declared.answer.Act.{Act as Deed}
use Rattle.device_requests.specs.declared.answer.Act.TheVariants.{Reboot, FactoryReset, RegUpdate, Disable, Missed}
use Rattle.device_machine.specs.declared.event.Event.TheVariants.{Recv, Put, Firmware, Tick}
use Rattle.device_machine.specs.declared.output.Output.{Output}
use Rattle.device_machine.specs.declared.output.Output.TheVariants.{Send, Act}
use Rattle.scenario_image.specs.declared.step.Step.{Step}
use Rattle.scenario_image.specs.declared.step.Step.TheVariants.{Event, Post, Need}
use Rattle.scenario_image.specs.Scenario.{HasFields, HasShortNumbers, IsGoodStep, IsValid, Scenario, is_in_range}
use Rattle.scenario_words.specs.PathWord.{IsPath}
use Rattle.trace_file.specs.declared.entry.Entry.{Entry}
use Rattle.fleet_core.specs.Run.{step_at}
use Rattle.fleet_core.proofs.Valid.{IsStep, step_is}
use Rattle.device_machine.specs.Acts.{act_name}
use Rattle.serde_json.specs.Data.{Data, Items}
use Rattle.serde_json.specs.Data as json
use Rattle.serde_json.specs.View.{items_of}
use Rattle.lemmas.proofs.Lists.{each_at}
use Rattle.trace_json.specs.Entries.{entry_json}
use Rattle.trace_json.specs.Json.{by_key, items_by_key}
use Rattle.trace_json.specs.Members.{TellsEntry, IsSameEntry, SendsBytes}
use Rattle.trace_json.specs.Steps.{event_json, output_json}
use Rattle.trace_json.proofs.Back.{bytes_again, bytes_in, data_at, is_named, number_in, path_again, path_in, text_in}
use Rattle.trace_json.proofs.Back.{value_again, value_in}

-- ---- steps

abbrev step_in : Data → Step
step_in d =
    cond (is_named (codes "recv") d)
    (Event (Recv (number_in (data_at (codes "server") d)) (bytes_in (data_at (codes "datagram") d))))
    (cond (is_named (codes "put") d)
    (Event (Put (path_in (data_at (codes "path") d)) (value_in (data_at (codes "value") d))))
    (cond (is_named (codes "firmware") d) (Event (Firmware (number_in (data_at (codes "code") d))))
    (cond (is_named (codes "tick") d) (Event (Tick (number_in (data_at (codes "seconds") d))))
    (cond (is_named (codes "post") d) (Post (number_in (data_at (codes "group") d)))
    (Need (number_in (data_at (codes "group") d)) (number_in (data_at (codes "count") d)))))))

abbrev event_in : Data → Option Step
event_in json.null = None
event_in (json.boolean b) = None
event_in (json.number n) = None
event_in (json.string s) = None
event_in (json.array ds) = None
event_in (json.object ms) = Some (step_in (json.object ms))

-- what is known of a step of a valid scenario
abbrev IsFit : Step → Type 0
IsFit step = HasFields step × (is_in_range step ≡ true)

short_path : (p : Path) → IfSome (full_path p) HasShortNumbers → is_some (full_path p) ≡ true → IsPath p
short_path (Object o) short whole = absurd cc
short_path (Instance o i) short whole = absurd cc
short_path (Resource o i r) short whole = (short.object, short.instance, short.resource)
short_path (Part o i r p) short whole = (short.object, short.instance, short.resource, short.part)

event_again : (o : Option Step) → IfSome o IsFit → event_in (by_key (event_json o)) ≡ o
unfolding event_json
event_again None fit = refl
event_again (Some (Event (Recv server bytes))) fit = ap (λ b. Some (Event (Recv server b))) (bytes_again bytes fit.0.1)
event_again (Some (Event (Put path value))) fit =
    ap₂ (λ p v. Some (Event (Put p v))) (path_again path (short_path path fit.0.0 fit.1)) (value_again value fit.0.1)
event_again (Some (Event (Firmware code))) fit = refl
event_again (Some (Event (Tick seconds))) fit = refl
event_again (Some (Post group)) fit = refl
event_again (Some (Need group count)) fit = refl

step_fits : (s : Scenario) (d k : ℕ) (o : Option Step) → IsValid s → step_at s d k ≡ o → IfSome o IsFit
step_fits s d k None valid at = tt
step_fits s d k (Some step) valid at =
    let is : IsStep s d k step = step_is s d k step valid at in
    ((each_at (IsGoodStep is.class.accounts) is.steps k step is.good is.stands).fields, is.range)

-- ---- outputs

-- the act of a name, by its fourth letter
abbrev act_in : List ℕ → Deed
act_in name =
    let letter = slice_index name 3 in
    cond (letter == 111) Reboot (cond (letter == 116) FactoryReset (cond (letter == 32) RegUpdate
    (cond (letter == 97) Disable Missed)))

act_again : (act : Deed) → act_in (act_name act) ≡ act
act_again Reboot = refl
act_again FactoryReset = refl
act_again RegUpdate = refl
act_again Disable = refl
act_again Missed = refl

abbrev output_in : Data → Output
output_in d =
    cond (is_named (codes "send") d)
    (Send (number_in (data_at (codes "server") d)) (bytes_in (data_at (codes "datagram") d)))
    (Act (act_in (text_in (data_at (codes "act") d))))

output_again : (o : Output) → SendsBytes o → output_in (by_key (output_json o)) ≡ o
unfolding output_json
output_again (Send server bytes) fit = ap (Send server) (bytes_again bytes fit)
output_again (Act act) fit = ap Act (act_again act)

abbrev outputs_in : Items → List Output
outputs_in json.no_items = []
outputs_in (json.item d ds) = output_in d ∷ outputs_in ds

outputs_again : (os : List Output) → AllByRecursion SendsBytes os
    → outputs_in (items_by_key (items_of (map output_json os))) ≡ os
outputs_again [] fit = refl
outputs_again (o ∷ os) fit = ap₂ (λ x xs. x ∷ xs) (output_again o fit.0) (outputs_again os fit.1)

abbrev items_in : Data → Items
items_in json.null = json.no_items
items_in (json.boolean b) = json.no_items
items_in (json.number n) = json.no_items
items_in (json.string s) = json.no_items
items_in (json.array ds) = ds
items_in (json.object ms) = json.no_items

-- ---- entries

abbrev entry_in : Data → Entry
entry_in d = record {
  worker = number_in (data_at (codes "worker") d);
  device = number_in (data_at (codes "device") d);
  step = number_in (data_at (codes "step") d);
  outputs = outputs_in (items_in (data_at (codes "outputs") d));
}

entry_again : (s : Scenario) (n : ℕ) (e : Entry) → AllByRecursion SendsBytes e.outputs
    → entry_in (by_key (entry_json s n e)) ≡ e
unfolding entry_json
entry_again s n e fit = ap (λ os. record e { outputs = os }) (outputs_again e.outputs fit)

happened_again : (s : Scenario) (n : ℕ) (e : Entry) → IsValid s
    → event_in (data_at (codes "event") (by_key (entry_json s n e))) ≡ step_at s e.device e.step
unfolding entry_json
happened_again s n e valid = event_again (step_at s e.device e.step) (step_fits s e.device e.step _ valid refl)

pub told_apart : (s t : Scenario) (m n : ℕ) (a b : Entry) → IsValid s → IsValid t → AllByRecursion SendsBytes a.outputs
    → AllByRecursion SendsBytes b.outputs → by_key (entry_json s m a) ≡ by_key (entry_json t n b)
    → IsSameEntry s t m n a b
unfolding entry_json
told_apart s t m n a b valid fit sends_a sends_b same = record {
  number = ap (λ d. number_in (data_at (codes "entry") d)) same;
  entry = sym (entry_again s m a sends_a) ∙ ap entry_in same ∙ entry_again t n b sends_b;
  step = sym (happened_again s m a valid) ∙ ap (λ d. event_in (data_at (codes "event") d)) same
      ∙ happened_again t n b fit;
  second = ap (λ d. number_in (data_at (codes "second") d)) same;
}

pub has_entry : (s : Scenario) (n : ℕ) (e : Entry) → TellsEntry s n e (by_key (entry_json s n e))
unfolding entry_json
has_entry s n e = record {
  entry = refl;
  worker = refl;
  device = refl;
  step = refl;
  second = refl;
  statement = refl;
  event = refl;
  outputs = refl;
}
