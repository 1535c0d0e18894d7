-- Which outputs and entries have bytes.
use Rattle.std.proofs.Common.{ℕ, ◌<◌, List, length, refl, arith}
use Rattle.std.specs.Int.{w8, w16, w32}
use Rattle.byte_layout.proofs.Fields.{number_good, number_below, raw_good}
use Rattle.device_requests.specs.declared.answer.Act.{Act}
use Rattle.device_requests.specs.declared.answer.Act.TheVariants as acts
use Rattle.device_machine.specs.declared.output.Output.{Output}
use Rattle.device_machine.specs.declared.output.Output.TheVariants as outputs
use Rattle.trace_file.specs.declared.entry.Entry.{Entry}
use Rattle.trace_file.specs.Layout.{act, datagram, output, output_list, entry, entry_list, trace_file}

act_good : (a : Act) → act.Good a
unfolding act
act_good acts.Reboot = ((number_good w8 0 (omega arith), refl), refl)
act_good acts.FactoryReset = ((number_good w8 1 (omega arith), refl), refl)
act_good acts.RegUpdate = ((number_good w8 2 (omega arith), refl), refl)
act_good acts.Disable = ((number_good w8 3 (omega arith), refl), refl)
act_good acts.Missed = ((number_good w8 4 (omega arith), refl), refl)

pub acted_good : (a : Act) → output.Good (outputs.Act a)
unfolding output
acted_good a = ((number_good w8 2 (omega arith), refl), (act_good a, refl))

pub sent_good : (server : ℕ) (bytes : List ℕ) → server < 65536 → length bytes < 65536
    → output.Good (outputs.Send server bytes)
unfolding output datagram
sent_good server bytes s l = (
  (number_good w8 1 (omega arith), refl),
  (number_good w16 server s, ((number_good w16 (length bytes) l, raw_good (length bytes) bytes refl), refl)),
)

pub sent_short : (server : ℕ) (bytes : List ℕ) → output.Good (outputs.Send server bytes) → length bytes < 65536
unfolding output datagram
sent_short server bytes good = number_below w16 (length bytes) good.1.1.0.0

pub entry_good : (e : Entry) → e.worker < 65536 → e.device < 65536 → e.step < 4294967296 → output_list.Good e.outputs
    → entry.Good e
unfolding entry
entry_good e w d s good =
    (number_good w16 e.worker w, (number_good w16 e.device d, (number_good w32 e.step s, (good, refl))))

pub outputs_good : (e : Entry) → entry.Good e → output_list.Good e.outputs
unfolding entry
outputs_good e good = good.1.1.1.0

pub outputs_below : (os : List Output) → output_list.Good os → length os < 4294967296
unfolding output_list
outputs_below os good = number_below w32 (length os) good.0

pub entries_below : (es : List Entry) → entry_list.Good es → length es < 4294967296
unfolding entry_list
entries_below es good = number_below w32 (length es) good.0

-- the entries that may stand in a list have a trace file
pub file_good : (es : List Entry) → entry_list.Good es → trace_file.Good es
unfolding trace_file
file_good es good = ((number_good w32 0x4C575452 (omega arith), refl), ((number_good w8 1 (omega arith), refl), good))

-- and only these have
pub list_good : (es : List Entry) → trace_file.Good es → entry_list.Good es
unfolding trace_file
list_good es good = good.1.1
