use Rattle.std.proofs.Common.{ℕ, ◌+◌, ◌*◌, ◌≤◌, length}
use Rattle.lwm2m_values.specs.TlvPlace.{IsAfter}
use Rattle.lwm2m_values.proofs.place.+placing.Given as goal

abbrev pub decreases-place_among : goal.decreases-place_among
decreases-place_among l = 2 * length l.bytes.now + 1

abbrev pub decreases-place_inside : goal.decreases-place_inside
decreases-place_inside l = 2 * length l.content.now + 2

abbrev pub invariant-place_among-loop-rest : goal.invariant-place_among-loop-rest
invariant-place_among-loop-rest l = (length l.rest ≤ length l.bytes) × ((n : ℕ) × IsAfter l.level l.bytes n l.rest)

abbrev pub decreases-place_among-loop-rest : goal.decreases-place_among-loop-rest
decreases-place_among-loop-rest l = length l.rest
