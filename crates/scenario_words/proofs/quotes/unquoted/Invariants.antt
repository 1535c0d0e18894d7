use Rattle.std.proofs.Common.{◌≡◌, length}
use Rattle.scenario_words.specs.Quoted.{unquoted_bytes}
use Rattle.scenario_words.proofs.QuoteLaws.{all_before}
use Rattle.scenario_words.proofs.quotes.unquoted.Given as goal

-- what was read, before what is still to be read
abbrev pub invariant-loop-byte : goal.invariant-loop-byte
invariant-loop-byte l = all_before l.text.items (unquoted_bytes l.rest) ≡ unquoted_bytes l.body

abbrev pub decreases-loop-byte : goal.decreases-loop-byte
decreases-loop-byte l = length l.rest
