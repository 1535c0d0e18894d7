-- The entries of a run as bytes, in this profile's trace file.
use Rattle.std.specs.Prelude.{ℕ, zero, suc, ◌==◌, ◌||◌, List, [], nat_lt, if◌then◌else◌}
use Rattle.std.specs.Int.{w8, w16, w32}
use Rattle.byte_layout.specs.declared.fault.Break.TheVariants.{Magic, Version, BadField}
use Rattle.byte_layout.specs.Layout.{Layout, raw, number, layout_with_test, split, last, after_mark, constant_layout}
use Rattle.byte_layout.specs.Layout.{bytes_with_length, list_with_count}
use Rattle.byte_layout.specs.Whole.{IsAll}
use Rattle.device_requests.specs.declared.answer.Act.{Act}
use Rattle.device_requests.specs.declared.answer.Act.TheVariants as acts
use Rattle.device_machine.specs.declared.output.Output.{Output}
use Rattle.device_machine.specs.declared.output.Output.TheVariants as outputs
use Rattle.trace_file.specs.declared.entry.Entry.{Entry}

-- ---- acts

-- the number of an act
abbrev pub act_number : Act → ℕ
act_number acts.Reboot = 0
act_number acts.FactoryReset = 1
act_number acts.RegUpdate = 2
act_number acts.Disable = 3
act_number acts.Missed = 4

-- the act of a number below 5
abbrev pub act_numbered : ℕ → Act
act_numbered n =
    if n == 0 then acts.Reboot else (if n == 1 then acts.FactoryReset
    else (if n == 2 then acts.RegUpdate else (if n == 3 then acts.Disable else acts.Missed)))

-- an act's number, below 5
unfoldable pub act : Layout Act
act = last act_number act_numbered (layout_with_test BadField (λ n. nat_lt n 5) (number w8))

-- ---- outputs

-- 1 for a datagram, 2 for an act
abbrev pub output_kind : Output → ℕ
output_kind (outputs.Send server bytes) = 1
output_kind (outputs.Act a) = 2

-- what an output of a kind holds; of the other kind, anything
abbrev pub server_in : Output → ℕ
server_in (outputs.Send server bytes) = server
server_in _ = 0

abbrev pub bytes_in : Output → List ℕ
bytes_in (outputs.Send server bytes) = bytes
bytes_in _ = []

abbrev pub act_in : Output → Act
act_in (outputs.Act a) = a
act_in _ = acts.Missed

-- a server, any, and a datagram with two bytes of length
unfoldable pub datagram : Layout Output
datagram = split server_in (number w16) (λ server. last bytes_in (λ bytes. outputs.Send server bytes)
    (bytes_with_length (number w16)))

-- an act
abbrev pub act_output : Layout Output
act_output = last act_in (λ a. outputs.Act a) act

-- what stands after the number of a kind: 1 a datagram, any other an act
abbrev pub of_kind : ℕ → Layout Output
of_kind zero = act_output
of_kind (suc zero) = datagram
of_kind (suc (suc n)) = act_output

-- the number of its kind, 1 or 2, and what an output of that kind holds
unfoldable pub output : Layout Output
output = split output_kind (layout_with_test BadField (λ n. n == 1 || n == 2) (number w8)) of_kind

-- four bytes of count, and that many outputs
unfoldable pub output_list : Layout (List Output)
output_list = list_with_count (number w32) (λ before. output)

-- ---- entries

abbrev pub entry_of : ℕ → ℕ → ℕ → List Output → Entry
entry_of worker device step os = record { worker = worker; device = device; step = step; outputs = os }

-- worker, device and step, any, and the outputs
unfoldable pub entry : Layout Entry
entry = split (λ e. e.worker) (number w16)
    (λ w. split (λ e. e.device) (number w16)
    (λ d. split (λ e. e.step) (number w32) (λ s. last (λ e. e.outputs) (entry_of w d s) output_list)))

-- four bytes of count, and that many entries
unfoldable pub entry_list : Layout (List Entry)
entry_list = list_with_count (number w32) (λ before. entry)

-- the file's mark and version, and this
abbrev pub after_header : {A : Type 0} → Layout A → Layout A
after_header part = after_mark Magic 0x4C575452 (number w32) (after_mark Version 1 (number w8) part)

-- the mark and the version alone
abbrev pub header : Layout (Unit {0})
header = after_header (constant_layout tt)

-- the file's mark and version, and the entries
unfoldable pub trace_file : Layout (List Entry)
trace_file = after_header entry_list

-- the bytes of an entry before its outputs: two each for worker and device, four each for the step and the count
abbrev pub numbers_of : ℕ → Layout (List ℕ)
numbers_of entries = raw (if entries == 0 then 0 else 12)

-- how many entries there are, and the numbers of the first of them
abbrev pub first_numbers : Layout (ℕ × List ℕ)
first_numbers = split (λ x. x.0) (number w32) (λ count. last (λ x. x.1) (λ bytes. (count, bytes)) (numbers_of count))

-- the file's front: the mark, the version, how many entries there are, and the numbers of the first of them
unfoldable pub front : Layout (ℕ × List ℕ)
front = after_header first_numbers

-- the bytes are a trace file of these entries
abbrev pub IsTraceFile : List ℕ → List Entry → Type 0
IsTraceFile bytes entries = IsAll trace_file bytes entries
