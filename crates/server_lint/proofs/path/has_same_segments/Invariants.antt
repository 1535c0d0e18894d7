use Rattle.std.proofs.Common.{◌≡◌, length}
use Rattle.std.specs.Prelude.{◌==◌}
use Rattle.std.specs.Cmp.Lexicographic.{pointwise}
use Rattle.device_requests.specs.Options.{segments_of}
use Rattle.server_lint.specs.Inside.{begins_with_segment}
use Rattle.server_lint.proofs.path.has_same_segments.Given as goal

-- what is still to come is the same where all is
abbrev pub invariant-loop-ours : goal.invariant-loop-ours
invariant-loop-ours l = record {
  same : pointwise (pointwise ◌==◌) (segments_of l.ours) (segments_of l.theirs)
      ≡ pointwise (pointwise ◌==◌) (segments_of l.a) (segments_of l.b);
  ours : begins_with_segment l.ours;
  theirs : begins_with_segment l.theirs;
}

abbrev pub decreases-loop-ours : goal.decreases-loop-ours
decreases-loop-ours l = length l.ours
