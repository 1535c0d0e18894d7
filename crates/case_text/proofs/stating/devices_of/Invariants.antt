use Rattle.std.proofs.Common.{◌≡◌, length}
use Rattle.scenario_words.specs.Words.{words}
use Rattle.case_text.specs.Stating.{devices_of}
use Rattle.case_text.proofs.Parts.{onto}
use Rattle.case_text.proofs.stating.devices_of.Given as goal

-- what was read, before what is still to be read
abbrev pub invariant-loop-rest : goal.invariant-loop-rest
invariant-loop-rest l = onto l.devices.items (devices_of (words l.rest)) ≡ devices_of (words l.line)

abbrev pub decreases-loop-rest : goal.decreases-loop-rest
decreases-loop-rest l = length (words l.rest)
