use Rattle.std.proofs.Common.{◌≡◌, ◌++◌, drop}
use Rattle.std.specs.List.{flat_map}
use Rattle.std.specs.String.{string_bytes}
use Rattle.scenario_words.specs.Quoted.{escaped_byte}
use Rattle.scenario_words.proofs.quotes.put_escaped_text.Given as goal

-- what is written, and what is still to come
abbrev pub invariant-loop-byte : goal.invariant-loop-byte
invariant-loop-byte l =
    string_bytes l.out ++ flat_map escaped_byte (drop l.byte-index l.text)
    ≡ string_bytes l.initial.out ++ flat_map escaped_byte l.text
