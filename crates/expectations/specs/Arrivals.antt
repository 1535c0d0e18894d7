-- What the row of a device receives, and in which seconds.
use Rattle.std.specs.Prelude.{ℕ, ◌+◌, List, [], ◌∷◌, ◌++◌, Option, None, Some, slice_get}
use Rattle.std.specs.List.{sum_by}
use Rattle.std.specs.Result.{result_ok}
use Rattle.coap_codec.specs.Reading.{reading_of}
use Rattle.device_machine.specs.declared.event.Event.TheVariants.{Recv, Put, Firmware, Tick}
use Rattle.scenario_image.specs.declared.step.Step.{Step}
use Rattle.scenario_image.specs.declared.step.Step.TheVariants.{Event, Post, Need}
use Rattle.scenario_image.specs.Layout.{seconds_in}
use Rattle.scenario_image.specs.Scenario.{Row, Scenario}
use Rattle.expectations.specs.declared.arrival.Arrival.{Arrival}

-- the steps of a device's row, of which there are none where there is no such row
abbrev pub steps_in : Option Row → List Step
steps_in None = []
steps_in (Some row) = row.steps

abbrev pub row_of : Scenario → ℕ → List Step
row_of s d = steps_in (slice_get s.rows d)

-- what arrives in a step, in this second; the message is the one that the bytes spell, if any (RFC 7252 section 3)
abbrev pub arrivals_in : ℕ → Step → List Arrival
arrivals_in second (Event (Recv server bytes)) =
    record { second = second; server = server; bytes = bytes; message = result_ok (reading_of bytes) } ∷ []
arrivals_in second (Event (Put path value)) = []
arrivals_in second (Event (Firmware code)) = []
arrivals_in second (Event (Tick seconds)) = []
arrivals_in second (Post group) = []
arrivals_in second (Need group count) = []

-- what arrives in steps, of which the first is in this second; a tick's seconds pass before the step after it
abbrev pub arrivals_from : ℕ → List Step → List Arrival
arrivals_from second [] = []
arrivals_from second (step ∷ steps) = arrivals_in second step ++ arrivals_from (second + seconds_in step) steps

-- what the row of a device receives
abbrev pub arrivals_of : Scenario → ℕ → List Arrival
arrivals_of s d = arrivals_from 0 (row_of s d)

-- the second of a device after its row: the sum of all its ticks
abbrev pub end_of_row : Scenario → ℕ → ℕ
end_of_row s d = sum_by seconds_in (row_of s d)
