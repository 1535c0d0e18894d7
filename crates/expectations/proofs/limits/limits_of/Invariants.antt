use Rattle.std.proofs.Common.{◌≡◌, ◌≤◌, drop, length, reverse}
use Rattle.expectations.specs.Inside.{limit_of, limits_of}
use Rattle.expectations.proofs.limits.limits_of.Given as goal

-- the limits behind the place, from the last one
abbrev pub invariant-loop-place : goal.invariant-loop-place
invariant-loop-place l = record {
  within : l.place ≤ length l.arrivals;
  limit : l.limit ≡ limit_of l.end (drop l.place l.arrivals);
  limits : l.limits.items ≡ reverse (limits_of l.end (drop l.place l.arrivals));
}

abbrev pub decreases-loop-place : goal.decreases-loop-place
decreases-loop-place l = l.place
