use Rattle.std.proofs.Common.{◌≡◌, drop}
use Rattle.message_words.specs.Options.{format_in}
use Rattle.message_words.proofs.payload.format_in.Given as goal

-- what is still to come has the same
abbrev pub invariant-loop-option : goal.invariant-loop-option
invariant-loop-option l = format_in l.before (drop l.option-index l.options) ≡ format_in 0 l.options
