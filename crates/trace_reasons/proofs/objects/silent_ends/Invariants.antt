-- What was added are the ends of the happenings so far.
use Rattle.std.proofs.Common.{◌≡◌, map, take}
use Rattle.trace_json.specs.Reasons.{said_end}
use Rattle.trace_reasons.specs.Objects.{ends_said}
use Rattle.trace_reasons.proofs.objects.silent_ends.Given as goal

abbrev pub invariant-loop-happening : goal.invariant-loop-happening
invariant-loop-happening l = map said_end l.ends.items ≡ ends_said (take l.happening-index l.happenings)
