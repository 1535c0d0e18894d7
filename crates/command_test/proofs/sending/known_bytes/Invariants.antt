-- The bytes so far, before those that are still to come.
use Rattle.std.proofs.Common.{◌≡◌, length}
use Rattle.scenario_words.proofs.QuoteLaws.{all_before}
use Rattle.command_test.specs.Stated.{known_bytes}
use Rattle.command_test.proofs.sending.known_bytes.Given as goal

abbrev pub invariant-loop-byte : goal.invariant-loop-byte
invariant-loop-byte l = all_before l.bytes.items (known_bytes l.rest) ≡ known_bytes l.digits

abbrev pub decreases-loop-byte : goal.decreases-loop-byte
decreases-loop-byte l = length l.rest
