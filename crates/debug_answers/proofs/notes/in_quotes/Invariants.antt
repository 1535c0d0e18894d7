use Rattle.std.proofs.Common.{◌≡◌, ◌++◌, ◌∷◌, drop}
use Rattle.std.specs.List.{flat_map}
use Rattle.std.specs.String.{string_bytes}
use Rattle.scenario_words.specs.Quoted.{escaped_byte}
use Rattle.debug_answers.proofs.notes.in_quotes.Given as goal

-- what is written, and what is still to come
abbrev pub invariant-loop-byte : goal.invariant-loop-byte
invariant-loop-byte l =
    string_bytes l.text ++ flat_map escaped_byte (drop l.byte-index l.bytes) ≡ 34 ∷ flat_map escaped_byte l.bytes
