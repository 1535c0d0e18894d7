use Rattle.std.proofs.Common.{◌≡◌, ◌++◌, drop}
use Rattle.std.specs.String.{string_bytes}
use Rattle.message_words.specs.Options.{uri_text}
use Rattle.message_words.proofs.uri.put_uri_text.Given as goal

-- what is written, and what is still to come
abbrev pub invariant-loop-byte : goal.invariant-loop-byte
invariant-loop-byte l =
    string_bytes l.out ++ uri_text (drop l.byte-index l.value) ≡ string_bytes l.initial.out ++ uri_text l.value
