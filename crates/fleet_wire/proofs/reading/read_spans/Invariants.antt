use Rattle.std.proofs.Common.{◌≡◌, length}
use Rattle.std.specs.List.{slice_split}
use Rattle.fleet_wire.specs.Reading.{is_comma, spans_from, spans_of}
use Rattle.fleet_wire.proofs.Spans.{after_all}
use Rattle.fleet_wire.proofs.reading.read_spans.Given as goal

abbrev pub invariant-loop-spans : goal.invariant-loop-spans
invariant-loop-spans l =
    after_all l.spans.items (spans_from (slice_split is_comma l.rest) l.last) ≡ spans_of l.text

abbrev pub decreases-loop-spans : goal.decreases-loop-spans
decreases-loop-spans l = length l.rest
