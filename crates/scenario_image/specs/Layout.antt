-- Steps and rows as bytes, in this profile's image of a scenario.
use Rattle.std.specs.Prelude.{ℕ, ◌==◌, nat_le, nat_lt, Bool, true, false, ◌&&◌, ◌||◌, List, [], length, Option, None}
use Rattle.std.specs.Prelude.{Some, unwrap_or, if◌then◌else◌}
use Rattle.std.specs.Int.{w8, w16, w32}
use Rattle.std.specs.List.{list_any}
use Rattle.byte_layout.specs.declared.fault.Break.TheVariants.{BadField}
use Rattle.byte_layout.specs.Layout.{Layout, number, layout_with_test, at_most, split, last, bytes_with_length}
use Rattle.byte_layout.specs.Layout.{list_with_count}
use Rattle.lwm2m_values.specs.declared.value.Value.{Value}
use Rattle.lwm2m_values.specs.declared.value.Value.TheVariants.{Text}
use Rattle.object_defs.specs.Path.{full_path, path_to}
use Rattle.object_defs.specs.declared.path.FullPath.{FullPath}
use Rattle.scenario_layout.specs.Value.{path, value}
use Rattle.device_template.specs.Template.{Template}
use Rattle.device_machine.specs.declared.event.Event.TheVariants.{Recv, Put, Firmware, Tick}
use Rattle.scenario_image.specs.declared.kind.StepKind.{StepKind}
use Rattle.scenario_image.specs.declared.kind.StepKind.TheVariants as kinds
use Rattle.scenario_image.specs.declared.step.Step.{Step}
use Rattle.scenario_image.specs.declared.step.Step.TheVariants.{Event, Post, Need}
use Rattle.scenario_image.specs.Scenario.{Row, accounts_of, most_rows, most_steps}

-- ---- the kind of a step

abbrev pub step_kind : Step → StepKind
step_kind (Event (Recv server bytes)) = kinds.Recv
step_kind (Event (Tick seconds)) = kinds.Tick
step_kind (Event (Put p v)) = kinds.Put
step_kind (Event (Firmware code)) = kinds.Firmware
step_kind (Post group) = kinds.Post
step_kind (Need group count) = kinds.Need

-- the number of a kind
abbrev pub step_kind_number : StepKind → ℕ
step_kind_number kinds.Recv = 1
step_kind_number kinds.Tick = 2
step_kind_number kinds.Put = 3
step_kind_number kinds.Firmware = 4
step_kind_number kinds.Post = 5
step_kind_number kinds.Need = 6

abbrev pub step_kind_numbered : ℕ → StepKind
step_kind_numbered n =
    if n == 1 then kinds.Recv else (if n == 2 then kinds.Tick
    else (if n == 3 then kinds.Put else (if n == 4 then kinds.Firmware
    else (if n == 5 then kinds.Post else kinds.Need))))

unfoldable pub kind : Layout StepKind
kind = last step_kind_number step_kind_numbered (layout_with_test BadField
    (λ n. n == 1 || (n == 2 || (n == 3 || (n == 4 || (n == 5 || n == 6))))) (number w8))

-- whether a step of this kind holds bytes or a value, for which memory is taken
abbrev pub takes_memory : StepKind → Bool
takes_memory kinds.Recv = true
takes_memory kinds.Tick = false
takes_memory kinds.Put = true
takes_memory kinds.Firmware = false
takes_memory kinds.Post = false
takes_memory kinds.Need = false

-- ---- what a step of a kind holds; of another kind, anything

abbrev pub server_in : Step → ℕ
server_in (Event (Recv server bytes)) = server
server_in _ = 0

abbrev pub datagram_in : Step → List ℕ
datagram_in (Event (Recv server bytes)) = bytes
datagram_in _ = []

abbrev pub seconds_in : Step → ℕ
seconds_in (Event (Tick seconds)) = seconds
seconds_in _ = 0

abbrev pub path_in : Step → FullPath
path_in (Event (Put p v)) = unwrap_or (full_path p) (record { object = 0; instance = 0; resource = 0; part = None })
path_in _ = record { object = 0; instance = 0; resource = 0; part = None }

abbrev pub value_in : Step → Value
value_in (Event (Put p v)) = v
value_in _ = Text []

abbrev pub code_in : Step → ℕ
code_in (Event (Firmware code)) = code
code_in _ = 0

abbrev pub group_in : Step → ℕ
group_in (Post group) = group
group_in (Need group count) = group
group_in _ = 0

abbrev pub count_in : Step → ℕ
count_in (Need group count) = count
count_in _ = 0

-- ---- steps

-- at most 1,500 bytes
unfoldable pub datagram : Layout (List ℕ)
datagram = bytes_with_length (at_most 1500 (number w16))

-- a server of these accounts, and a datagram
unfoldable pub recv : List ℕ → Layout Step
recv accounts = split server_in (layout_with_test BadField (λ server. list_any (λ account. account == server) accounts)
    (number w16)) (λ server. last datagram_in (λ bytes. Event (Recv server bytes)) datagram)

-- 1 to 86,400 seconds
unfoldable pub tick : Layout Step
tick = last seconds_in (λ seconds. Event (Tick seconds))
    (layout_with_test BadField (λ n. nat_le 1 n && nat_le n 86400) (number w32))

-- a path and a value of any kind
unfoldable pub put : Layout Step
put = split path_in path (λ p. last value_in (λ v. Event (Put (path_to p) v)) (value None))

-- a code of 0 to 9
unfoldable pub firmware : Layout Step
firmware = last code_in (λ code. Event (Firmware code)) (layout_with_test BadField (λ n. nat_le n 9) (number w8))

-- a group
unfoldable pub post : Layout Step
post = last group_in (λ group. Post group) (number w8)

-- a group, and 1 to 1,000,000 posts
unfoldable pub need : Layout Step
need = split group_in (number w8) (λ group. last count_in (λ count. Need group count)
    (layout_with_test BadField (λ n. nat_le 1 n && nat_le n 1000000) (number w32)))

abbrev pub of_kind : List ℕ → StepKind → Layout Step
of_kind accounts kinds.Recv = recv accounts
of_kind accounts kinds.Tick = tick
of_kind accounts kinds.Put = put
of_kind accounts kinds.Firmware = firmware
of_kind accounts kinds.Post = post
of_kind accounts kinds.Need = need

-- a step of a class that has these accounts
unfoldable pub step : List ℕ → Layout Step
step accounts = split step_kind kind (of_kind accounts)

-- at most `most_steps` steps
unfoldable pub steps : List ℕ → Layout (List Step)
steps accounts = list_with_count (at_most most_steps (number w16)) (λ before. step accounts)

-- ---- rows

abbrev pub row_of : ℕ → List Step → Row
row_of class steps = record { class = class; steps = steps }

-- the place of a class that is there, and steps that suit it
unfoldable pub row : List Template → Layout Row
row classes = split (λ r. r.class) (layout_with_test BadField (λ class. nat_lt class (length classes)) (number w16))
    (λ class. last (λ r. r.steps) (row_of class) (steps (accounts_of classes class)))

-- at most `most_rows` rows
unfoldable pub rows : List Template → Layout (List Row)
rows classes = list_with_count (at_most most_rows (number w16)) (λ before. row classes)
