-- The history of a device of a scenario: what its row receives, and what the device sends.
use Rattle.std.specs.Prelude.{ℕ, zero, suc, ◌+◌, List, [], ◌∷◌, ◌++◌, length, slice_get, Option, None, Some}
use Rattle.std.specs.List.{flat_map}
use Rattle.device_machine.specs.declared.event.Event.TheVariants.{Recv, Put, Firmware, Tick}
use Rattle.device_machine.specs.declared.output.Output.{Output}
use Rattle.device_machine.specs.declared.output.Output.TheVariants.{Send, Act}
use Rattle.scenario_image.specs.declared.step.Step.{Step}
use Rattle.scenario_image.specs.declared.step.Step.TheVariants.{Event, Post, Need}
use Rattle.scenario_image.specs.Scenario.{Scenario}
use Rattle.fleet_core.specs.Run.{out_at, step_at, steps_in}
use Rattle.trace_text.specs.Seconds.{second_at}
use Rattle.server_lint.specs.History.{Transmission}
use Rattle.server_lint.specs.declared.sender.Sender.TheVariants.{Server, Device}

-- what arrives in this step of a device, in this second
abbrev pub received_in : ℕ → ℕ → Step → List Transmission
received_in place second (Event (Recv server bytes)) =
    record { step = place; second = second; sender = Server; server = server; bytes = bytes } ∷ []
received_in place second (Event (Put path value)) = []
received_in place second (Event (Firmware code)) = []
received_in place second (Event (Tick seconds)) = []
received_in place second (Post group) = []
received_in place second (Need group count) = []

abbrev pub received_at : ℕ → ℕ → Option Step → List Transmission
received_at place second None = []
received_at place second (Some step) = received_in place second step

-- what is sent by this output
abbrev pub sent_by : ℕ → ℕ → Output → List Transmission
sent_by place second (Send server bytes) =
    record { step = place; second = second; sender = Device; server = server; bytes = bytes } ∷ []
sent_by place second (Act act) = []

-- what arrives in a step of a device, and then what the device sends, both in the second that it has after the step
abbrev pub history_at : Scenario → ℕ → ℕ → List Transmission
history_at s d place =
    received_at place (second_at s d (place + 1)) (step_at s d place)
    ++ flat_map (sent_by place (second_at s d (place + 1))) (out_at s d place)

-- the history of a device in its first n steps
abbrev pub history_to : Scenario → ℕ → ℕ → List Transmission
history_to s d zero = []
history_to s d (suc n) = history_to s d n ++ history_at s d n

-- how many steps a device has
abbrev pub step_count : Scenario → ℕ → ℕ
step_count s d = length (steps_in (slice_get s.rows d))

-- the history of a device in all its steps
abbrev pub history_of : Scenario → ℕ → List Transmission
history_of s d = history_to s d (step_count s d)

-- the second of a device after all its steps
abbrev pub end_of : Scenario → ℕ → ℕ
end_of s d = second_at s d (step_count s d)
