-- The trace file of a small run, byte for byte.
use Rattle.std.specs.Prelude.{ℕ, List, [], ◌∷◌}
use Rattle.device_machine.specs.declared.output.Output.TheVariants.{Send}
use Rattle.trace_file.specs.Layout.{IsTraceFile}
use Rattle.trace_file.specs.declared.entry.Entry.{Entry}

-- an Ack with code 2.05 and the text `100`
abbrev pub reply : List ℕ
reply = 0x60 ∷ 0x45 ∷ 0x00 ∷ 0x01 ∷ 0xC0 ∷ 0xFF ∷ 0x31 ∷ 0x30 ∷ 0x30 ∷ []

-- worker 0 made step 0 of device 0, which sent the reply to server 1
abbrev pub entries : List Entry
entries = record { worker = 0; device = 0; step = 0; outputs = Send 1 reply ∷ [] } ∷ []

-- the mark, the version, and one entry; worker, device and step; one output, of kind 1, which has a server, 1, and a
-- datagram of 9 bytes
abbrev pub trace : List ℕ
trace =
    0x4C ∷ 0x57 ∷ 0x54 ∷ 0x52 ∷ 0x01
    ∷ 0x00 ∷ 0x00 ∷ 0x00 ∷ 0x01
    ∷ 0x00 ∷ 0x00 ∷ 0x00 ∷ 0x00 ∷ 0x00 ∷ 0x00 ∷ 0x00 ∷ 0x00
    ∷ 0x00 ∷ 0x00 ∷ 0x00 ∷ 0x01
    ∷ 0x01 ∷ 0x00 ∷ 0x01 ∷ 0x00 ∷ 0x09
    ∷ reply

abbrev pub IsWorkedTrace : Type 0
IsWorkedTrace = IsTraceFile trace entries
