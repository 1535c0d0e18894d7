-- The seconds of a session, by the readings of its clock.
use Rattle.std.specs.Prelude.{◌≡◌, ℕ, ◌+◌, ◌-◌, ◌<◌, ◌≤◌, max, List, [], ◌∷◌, length, take, slice_index, slice_get, Option}
use Rattle.live_link.specs.Wire.{AreRead}

-- the greatest of numbers, 0 where there is none
abbrev pub greatest : List ℕ → ℕ
greatest [] = 0
greatest (x ∷ xs) = max x (greatest xs)

-- the second of a session after these readings of a clock: from the first one to the latest second that it has shown.
-- So a session never goes back where its clock does
abbrev pub second_of : List ℕ → ℕ
second_of readings = greatest readings - slice_index readings 0

-- each is the second after one reading more
pub record AreSecondsOf (readings seconds : List ℕ) : Type 0 where
  pub count : length seconds ≡ length readings
  pub each : (k : ℕ) → k < length readings → slice_index seconds k ≡ second_of (take (k + 1) readings)

-- ports were asked once after each reading of a clock, at the second of the session then, so often or more; this was
-- the first reading, and this is the second now
pub record AreAsked (read_before read_after asked_before asked_after : Option (List ℕ)) (first : Option ℕ)
    (now calls : ℕ) : Type 0 where
  pub readings : List ℕ
  pub read : AreRead read_before read_after readings
  pub seconds : List ℕ
  pub asked : AreRead asked_before asked_after seconds
  pub are : AreSecondsOf readings seconds
  pub often : calls ≤ length seconds
  pub first_is : first ≡ slice_get readings 0
  pub now_is : now ≡ second_of readings
