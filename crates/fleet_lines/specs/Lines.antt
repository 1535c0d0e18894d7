-- What goes through ports, as lines for people.
use Rattle.std.specs.Prelude.{ℕ, List, ◌++◌, Option, None, Some, codes}
use Rattle.std.specs.Fmt.{decimal}
use Rattle.coap_codec.specs.Reading.{reading_of}
use Rattle.message_words.specs.Text.{reading_text}
use Rattle.scenario_words.specs.Words.{ended_line}
use Rattle.scenario_mnemonics.specs.declared.mnemonic.Mnemonic.{Mnemonic}
use Rattle.scenario_mnemonics.specs.Denoting.{mnemonic_of}
use Rattle.scenario_statements.specs.Spelling.{line_of}
use Rattle.scenario_asm.specs.Canonical.{of_datagram}
use Rattle.fleet_wire.specs.declared.note.Note.{Note}
use Rattle.fleet_wire.specs.declared.plan.Direction.{Direction}
use Rattle.fleet_wire.specs.declared.plan.Direction.TheVariants.{In, Out}
use Rattle.fleet_wire.specs.declared.plan.Fate.{Fate}
use Rattle.fleet_wire.specs.declared.plan.Fate.TheVariants.{Late, Lost, Passes, Swapped, Twice}
use Rattle.fleet_lines.specs.declared.shown.Shown.{Shown}

-- a second, a device, the way of a datagram, and what is said of it; two spaces part them
abbrev pub way_line : ℕ → ℕ → List ℕ → List ℕ → List ℕ
way_line second device way words =
    ended_line
    (decimal second ++ codes " s  device " ++ decimal device ++ codes "  " ++ way ++ codes "  " ++ words)

-- ---- datagrams

-- a datagram that comes from a server, by its bytes, and after them, as a comment, what it says
abbrev pub unnamed_words : ℕ → List ℕ → List ℕ
unnamed_words server bytes =
    line_of (of_datagram server bytes None) ++ codes "  # " ++ reading_text (reading_of bytes)

-- by its mnemonic, if it has one, as a canonical scenario text has it
abbrev pub words_with : ℕ → List ℕ → Option Mnemonic → List ℕ
words_with server bytes None = unnamed_words server bytes
words_with server bytes (Some mnemonic) = line_of (of_datagram server bytes (Some mnemonic))

abbrev pub received_words : ℕ → List ℕ → List ℕ
received_words server bytes = words_with server bytes (mnemonic_of bytes)

-- `from S`, and `to S` with two spaces more, so that the words of both begin at one column
abbrev pub from_server : ℕ → List ℕ
from_server server = codes "from " ++ decimal server

abbrev pub to_server : ℕ → List ℕ
to_server server = codes "to " ++ decimal server ++ codes "  "

-- the line of a datagram that a device received, or sent
abbrev pub line_going : Direction → ℕ → ℕ → ℕ → List ℕ → List ℕ
line_going In second device server bytes = way_line second device (from_server server) (received_words server bytes)
line_going Out second device server bytes =
    way_line second device (to_server server) (reading_text (reading_of bytes))

abbrev pub datagram_line : Shown → List ℕ
datagram_line x = line_going x.direction x.second x.device x.packet.server x.packet.bytes

-- ---- notes of a wire

-- `in`, to a device, and `out`, from it, as wide as `from S`
abbrev pub note_way : Direction → List ℕ
note_way In = codes "in    "
note_way Out = codes "out   "

abbrev pub fate_word : Fate → List ℕ
fate_word Lost = codes "lost"
fate_word Twice = codes "twice"
fate_word Swapped = codes "swapped"
fate_word Late = codes "late"
fate_word Passes = codes "passes"

-- which datagram, of those of its device that go this way, and what happened to it
abbrev pub note_words : ℕ → List ℕ → List ℕ
note_words number fate = codes "datagram " ++ decimal number ++ codes " " ++ fate

abbrev pub note_line : Note → List ℕ
note_line note =
    way_line note.second note.device (note_way note.direction) (note_words note.number (fate_word note.fate))
