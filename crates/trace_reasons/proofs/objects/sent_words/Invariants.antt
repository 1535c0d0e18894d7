-- What was added are the words of the happenings so far.
use Rattle.std.proofs.Common.{◌≡◌, map, take}
use Rattle.std.specs.String.{string_bytes}
use Rattle.trace_reasons.specs.Objects.{sent_texts}
use Rattle.trace_reasons.proofs.objects.sent_words.Given as goal

abbrev pub invariant-loop-happening : goal.invariant-loop-happening
invariant-loop-happening l =
    map (λ w. string_bytes w) l.words.items ≡ sent_texts (take l.happening-index l.happenings)
