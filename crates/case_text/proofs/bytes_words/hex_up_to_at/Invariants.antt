use Rattle.std.proofs.Common.{◌≡◌, length}
use Rattle.scenario_words.specs.Words.{words}
use Rattle.case_text.specs.BytesWords.{hex_up_to_at}
use Rattle.case_text.proofs.Parts.{onto_hex}
use Rattle.case_text.proofs.bytes_words.hex_up_to_at.Given as goal

-- what was read, before what is still to be read
abbrev pub invariant-loop-word : goal.invariant-loop-word
invariant-loop-word l = onto_hex l.all.items (hex_up_to_at (words l.rest)) ≡ hex_up_to_at (words l.line)

abbrev pub decreases-loop-word : goal.decreases-loop-word
decreases-loop-word l = length (words l.rest)
