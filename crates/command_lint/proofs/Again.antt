-- The objects are read again.
use Rattle.std.proofs.Common.{ℕ, List, ◌≤◌, arith}
use Rattle.serde_json.specs.Data.{depth}
use Rattle.serde_json.specs.Read.{max_depth}
use Rattle.trace_json.specs.Writing.{Has64Bits, IsReadAgain}
use Rattle.trace_json.proofs.ReadAgain.{read_again}
use Rattle.server_lint.specs.declared.rule.Rule.{Rule}
use Rattle.server_lint.specs.History.{Transmission}
use Rattle.command_lint.specs.Objects.{count_json, finding_json}

finding_depth : (device : ℕ) (rule : Rule) (t : Transmission) (words : List ℕ)
    → depth (finding_json device rule t words) ≤ max_depth
unfolding finding_json
finding_depth device rule t words = omega arith

pub finding_again : (device : ℕ) (rule : Rule) (t : Transmission) (words : List ℕ)
    → Has64Bits (finding_json device rule t words) → IsReadAgain (finding_json device rule t words)
finding_again device rule t words exact =
    read_again (finding_json device rule t words) exact (finding_depth device rule t words)

count_depth : (count : ℕ) → depth (count_json count) ≤ max_depth
unfolding count_json
count_depth count = omega arith

pub count_again : (count : ℕ) → Has64Bits (count_json count) → IsReadAgain (count_json count)
count_again count exact = read_again (count_json count) exact (count_depth count)
