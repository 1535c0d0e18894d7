use Rattle.std.proofs.Common.{◌≡◌, ◌≤◌, length}
use Rattle.device_requests.specs.Options.{segments_of}
use Rattle.server_lint.proofs.path.from_path.Given as goal

-- the options that are passed over are no segments
abbrev pub invariant-loop-rest : goal.invariant-loop-rest
invariant-loop-rest l = (segments_of l.rest ≡ segments_of l.options) × (length l.rest ≤ length l.options)

abbrev pub decreases-loop-rest : goal.decreases-loop-rest
decreases-loop-rest l = length l.rest
