use Rattle.std.proofs.Common.{◌≡◌, ◌++◌, drop}
use Rattle.std.specs.String.{string_bytes}
use Rattle.message_words.specs.Options.{options_text}
use Rattle.message_words.proofs.options.put_options.Given as goal

-- what is written, and what is still to come
abbrev pub invariant-loop-option : goal.invariant-loop-option
invariant-loop-option l =
    string_bytes l.out ++ options_text l.before (drop l.option-index l.options) ≡ string_bytes l.initial.out
    ++ options_text 0 l.options
