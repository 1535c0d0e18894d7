-- Datagrams by themselves, as the text of an entry has them.
use Rattle.std.specs.Prelude.{ℕ, List, ◌++◌}
use Rattle.scenario_words.specs.Words.{ended_line}
use Rattle.scenario_mnemonics.specs.Denoting.{mnemonic_of}
use Rattle.scenario_statements.specs.Spelling.{line_of}
use Rattle.scenario_asm.specs.Canonical.{of_datagram}
use Rattle.trace_text.specs.Lines.{received_lines, said_line, sent_line}

-- a datagram that comes from a server: its words, as a canonical scenario text has them, its bytes, where these do not
-- have them, and what it says
abbrev pub arrival_text : ℕ → List ℕ → List ℕ
arrival_text server bytes =
    ended_line (line_of (of_datagram server bytes (mnemonic_of bytes))) ++ received_lines bytes

-- a datagram whose bytes its reader has: its words, and what it says
abbrev pub statement_text : ℕ → List ℕ → List ℕ
statement_text server bytes = ended_line (line_of (of_datagram server bytes (mnemonic_of bytes))) ++ said_line bytes

-- a datagram that is sent to a server: its bytes in hex, and what it says
abbrev pub sent_text : ℕ → List ℕ → List ℕ
sent_text server bytes = sent_line server bytes ++ said_line bytes
