use Rattle.std.proofs.Common.{◌≡◌, false, take}
use Rattle.device_requests.specs.Options.{has_unrecognized_critical}
use Rattle.request_reasons.proofs.options.unrecognized.Given as goal

-- the options before it are recognized
abbrev pub invariant-loop-i : goal.invariant-loop-i
invariant-loop-i l = has_unrecognized_critical (take l.i l.options) ≡ false
