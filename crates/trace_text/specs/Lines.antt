-- The lines of a step, and of what a device outputs.
use Rattle.std.specs.Prelude.{ℕ, List, [], ◌++◌, Option, None, Some, codes}
use Rattle.std.specs.Fmt.{decimal}
use Rattle.std.specs.List.{flat_map}
use Rattle.coap_codec.specs.Reading.{reading_of}
use Rattle.device_machine.specs.Acts.{act_name}
use Rattle.device_machine.specs.declared.event.Event.TheVariants.{Recv, Put, Firmware, Tick}
use Rattle.device_machine.specs.declared.output.Output.{Output}
use Rattle.device_machine.specs.declared.output.Output.TheVariants.{Send, Act}
use Rattle.scenario_words.specs.HexWord.{hex_word}
use Rattle.scenario_words.specs.Words.{ended_line}
use Rattle.message_words.specs.Text.{reading_text}
use Rattle.scenario_image.specs.declared.step.Step.{Step}
use Rattle.scenario_image.specs.declared.step.Step.TheVariants.{Event, Post, Need}
use Rattle.scenario_mnemonics.specs.declared.mnemonic.Mnemonic.{Mnemonic}
use Rattle.scenario_mnemonics.specs.Denoting.{mnemonic_of}
use Rattle.scenario_statements.specs.Spelling.{line_of}
use Rattle.scenario_asm.specs.Canonical.{of_step}
use Rattle.trace_file.specs.declared.entry.Entry.{Entry}

-- ---- a step

-- the words of a step, as a canonical scenario text has them; words that say so where the row has no such step
abbrev pub step_words : Option Step → List ℕ
step_words None = codes "no such step"
step_words (Some step) = line_of (of_step step)

-- what a datagram says, in a line of its own, which begins as a comment does
abbrev pub said_line : List ℕ → List ℕ
said_line bytes = ended_line (codes "    # " ++ reading_text (reading_of bytes))

-- the bytes of a datagram in hex, in a line of its own, which begins as a comment does
abbrev pub bytes_line : List ℕ → List ℕ
bytes_line bytes = ended_line (codes "    # " ++ hex_word bytes)

-- this line of a datagram that is written as a mnemonic; none of one by `recv`, which has them in its words
abbrev pub bytes_lines : Option Mnemonic → List ℕ → List ℕ
bytes_lines None bytes = []
bytes_lines (Some mnemonic) bytes = bytes_line bytes

-- the lines below the words of a datagram that comes from a server: its bytes, where these do not have them, and what
-- it says
abbrev pub received_lines : List ℕ → List ℕ
received_lines bytes = bytes_lines (mnemonic_of bytes) bytes ++ said_line bytes

-- the lines of what arrives in a step: of a datagram alone
abbrev pub arrival_lines : Option Step → List ℕ
arrival_lines None = []
arrival_lines (Some (Event (Recv server bytes))) = received_lines bytes
arrival_lines (Some (Event (Put path value))) = []
arrival_lines (Some (Event (Firmware code))) = []
arrival_lines (Some (Event (Tick seconds))) = []
arrival_lines (Some (Post group)) = []
arrival_lines (Some (Need group count)) = []

-- the line of an entry: its number in the trace, its worker, its device, the number of its step, the device's second
-- before the step, and the step's words
abbrev pub entry_line : ℕ → Entry → ℕ → List ℕ → List ℕ
entry_line number e second words =
    ended_line
    (decimal number ++ codes " worker " ++ decimal e.worker ++ codes " device " ++ decimal e.device
    ++ codes " step " ++ decimal e.step ++ codes " second " ++ decimal second ++ codes ": " ++ words)

-- what stands before the words in that line
abbrev pub entry_start : ℕ → Entry → ℕ → List ℕ
entry_start number e second =
    decimal number ++ codes " worker " ++ decimal e.worker ++ codes " device " ++ decimal e.device
    ++ codes " step " ++ decimal e.step ++ codes " second " ++ decimal second ++ codes ": "

-- ---- an output

-- the line of a datagram that is sent to a server, in hex
abbrev pub sent_line : ℕ → List ℕ → List ℕ
sent_line server bytes = ended_line (codes "=> send " ++ decimal server ++ codes " " ++ hex_word bytes)

-- the lines of an output; after that of a datagram comes what the datagram says
abbrev pub output_lines : Output → List ℕ
output_lines (Send server bytes) = sent_line server bytes ++ said_line bytes
output_lines (Act act) = ended_line (codes "=> act " ++ act_name act)

-- the lines of outputs in their order
abbrev pub all_output_lines : List Output → List ℕ
all_output_lines outputs = flat_map output_lines outputs
