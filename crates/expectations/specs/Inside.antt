-- What is kept while a row is judged: for each of its places the second from which the next line counts, if the lines
-- so far can be laid so that just what is before the place is passed.
use Rattle.std.specs.Prelude.{ℕ, ◌+◌, nat_le, nat_lt, slice_get, Bool, true, false, ◌&&◌, List, [], ◌∷◌}
use Rattle.std.specs.Prelude.{Option, None, Some, if◌then◌else◌}
use Rattle.std.specs.List.{list_any}
use Rattle.expectations.specs.declared.arrival.Arrival.{Arrival}
use Rattle.expectations.specs.declared.expectation.Expected.{Expected}
use Rattle.expectations.specs.declared.expectation.Expected.TheVariants.{Message, Silence}
use Rattle.expectations.specs.declared.what.What.{What}
use Rattle.expectations.specs.Expecting.{is_expected}

abbrev pub least : ℕ → ℕ → ℕ
least a b = if nat_le a b then a else b

abbrev pub greatest : ℕ → ℕ → ℕ
greatest a b = if nat_le a b then b else a

-- the earliest second of what happens from a place on: something arrives, or the row ends
abbrev pub limit_of : ℕ → List Arrival → ℕ
limit_of end [] = end
limit_of end (a ∷ arrivals) = least a.second (limit_of end arrivals)

abbrev pub limits_of : ℕ → List Arrival → List ℕ
limits_of end [] = end ∷ []
limits_of end (a ∷ arrivals) = limit_of end (a ∷ arrivals) ∷ limits_of end arrivals

abbrev pub places_unreached : List Arrival → List (Option ℕ)
places_unreached [] = []
places_unreached (a ∷ arrivals) = None ∷ places_unreached arrivals

-- at first only the place before all is reached, in second 0
abbrev pub start : List Arrival → List (Option ℕ)
start arrivals = Some 0 ∷ places_unreached arrivals

abbrev pub later : Option ℕ → Option ℕ → Option ℕ
later None other = other
later (Some a) None = Some a
later (Some a) (Some b) = Some (greatest a b)

abbrev pub is_within : Option ℕ → ℕ → ℕ → Bool
is_within None since second = true
is_within (Some n) since second = nat_le second (since + n)

abbrev pub is_hit : ℕ → What → Option ℕ → Option ℕ → Arrival → Bool
is_hit server what within None a = false
is_hit server what within (Some since) a = is_within within since a.second && is_expected server what a

-- the places after each of these, where something is sent, and before which this second is the latest so far
abbrev pub places_reached : ℕ → What → Option ℕ → Option ℕ → List (Option ℕ) → List Arrival → List (Option ℕ)
places_reached server what within latest places [] = []
places_reached server what within latest [] (a ∷ arrivals) = []
places_reached server what within latest (x ∷ places) (a ∷ arrivals) =
    (if is_hit server what within (later latest x) a then Some a.second else None)
    ∷ places_reached server what within (later latest x) places arrivals

abbrev pub place_after_wait : ℕ → Option ℕ → ℕ → Option ℕ
place_after_wait seconds None limit = None
place_after_wait seconds (Some since) limit = if nat_le (since + seconds) limit then Some (since + seconds) else None

-- the places after silence
abbrev pub silent : ℕ → List (Option ℕ) → List ℕ → List (Option ℕ)
silent seconds places [] = []
silent seconds [] (limit ∷ limits) = []
silent seconds (x ∷ places) (limit ∷ limits) = place_after_wait seconds x limit ∷ silent seconds places limits

-- the places after a line
abbrev pub after : Expected → List Arrival → List ℕ → List (Option ℕ) → List (Option ℕ)
after (Message server what within) arrivals limits places =
    None ∷ places_reached server what within None places arrivals
after (Silence seconds) arrivals limits places = silent seconds places limits

-- ---- what may yet come

abbrev pub is_open_at : ℕ → Option ℕ → Option ℕ → Bool
is_open_at end within None = false
is_open_at end within (Some since) = is_within within since end

abbrev pub may_be_silent : ℕ → ℕ → Option ℕ → Bool
may_be_silent end seconds None = false
may_be_silent end seconds (Some since) = nat_lt end (since + seconds)

abbrev pub may_come_at : ℕ → ℕ → Option (Option ℕ) → Bool
may_come_at end seconds None = false
may_come_at end seconds (Some since) = may_be_silent end seconds since

abbrev pub may_come : ℕ → Expected → ℕ → List (Option ℕ) → Bool
may_come end (Message server what within) last places = list_any (is_open_at end within) places
may_come end (Silence seconds) last places = may_come_at end seconds (slice_get places last)
