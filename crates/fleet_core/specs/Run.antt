-- The runs of a scenario, as lists of entries.
use Rattle.std.specs.Prelude.{◌≡◌, ℕ, ◌≤◌, ◌==◌, Bool, false, List, [], map, filter, count_by, Option}
use Rattle.std.specs.Prelude.{None, Some, slice_get}
use Rattle.device_template.specs.Template.{Template}
use Rattle.device_machine.specs.declared.output.Output.{Output}
use Rattle.device_machine.specs.State.{Machine}
use Rattle.scenario_image.specs.declared.step.Step.{Step}
use Rattle.scenario_image.specs.declared.step.Step.TheVariants.{Event, Post, Need}
use Rattle.scenario_image.specs.Scenario.{Row, Scenario}
use Rattle.scenario_image.specs.Play.{state_at, step_outputs}
use Rattle.trace_file.specs.declared.entry.Entry.{Entry}
use Rattle.fleet_core.specs.Along.{Along}
use Rattle.fleet_core.specs.Next.{next_of, may_pass}

-- ---- what the rows say

-- the steps of a row, none where there is no row
abbrev pub steps_in : Option Row → List Step
steps_in None = []
steps_in (Some row) = row.steps

abbrev pub step_in : List Row → ℕ → ℕ → Option Step
step_in rows d k = slice_get (steps_in (slice_get rows d)) k

-- step k of a device, counted from 0; none where the device has no row, and after its last step
abbrev pub step_at : Scenario → ℕ → ℕ → Option Step
step_at s d k = step_in s.rows d k

abbrev pub outputs_before : Machine → Option Step → List Output
outputs_before f None = []
outputs_before f (Some step) = step_outputs f step

abbrev pub outputs_with : Option Template → List Step → ℕ → List Output
outputs_with None steps k = []
outputs_with (Some class) steps k = outputs_before (state_at class steps k) (slice_get steps k)

abbrev pub outputs_in_row : Scenario → Option Row → ℕ → List Output
outputs_in_row s None k = []
outputs_in_row s (Some row) k = outputs_with (slice_get s.classes row.class) row.steps k

-- what step k of a device outputs, in the state after its first k steps
abbrev pub out_at : Scenario → ℕ → ℕ → List Output
out_at s d k = outputs_in_row s (slice_get s.rows d) k

-- ---- counts over entries

-- how many of the entries are the device's
abbrev pub made_by : ℕ → List Entry → ℕ
made_by d es = count_by (λ e. e.device == d) es

abbrev pub posts_to : ℕ → Step → Bool
posts_to g (Post group) = group == g
posts_to g (Event event) = false
posts_to g (Need group count) = false

-- the step is there, and is a post to the group
abbrev pub is_post : ℕ → Option Step → Bool
is_post g None = false
is_post g (Some step) = posts_to g step

-- how many of the entries are posts to the group
abbrev pub posts_of : Scenario → ℕ → List Entry → ℕ
posts_of s g es = count_by (λ e. is_post g (step_at s e.device e.step)) es

-- ---- runs

-- where each group has n posts, a need has its own
abbrev pub IsMet : (ℕ → ℕ) → Step → Type 0
IsMet posts (Event event) = Unit {0}
IsMet posts (Post group) = Unit {0}
IsMet posts (Need group count) = count ≤ posts group

-- the entry may come next: the device has a step of this number; the number is the count of the device's earlier
-- entries; the outputs are those of the row; and a need has as many earlier entries whose step is a post to its group.
-- The worker is free.
pub record Fits (s : Scenario) (before : List Entry) (e : Entry) : Type 0 where
  pub step : Step
  pub stands : step_at s e.device e.step ≡ Some step
  pub count : e.step ≡ made_by e.device before
  pub outputs : e.outputs ≡ out_at s e.device e.step
  pub met : IsMet (λ g. posts_of s g before) step

-- a run: each entry may come after those before it
pub record IsRun (s : Scenario) (es : List Entry) : Type 0 where
  pub along : Along (Fits s) [] es

-- a run to which no entry can be added
pub record IsComplete (s : Scenario) (es : List Entry) : Type 0 where
  pub run : IsRun s es
  pub ended : (e : Entry) → Fits s es e → ⊥

-- the entry may come next, under worker 0, and no entry of a lower device may
pub record IsLowest (s : Scenario) (before : List Entry) (e : Entry) : Type 0 where
  pub fits : Fits s before e
  pub worker : e.worker ≡ 0
  pub lowest : (other : Entry) → Fits s before other → e.device ≤ other.device

-- the serial run: the complete run that always adds the lowest device possible
pub record IsSerial (s : Scenario) (es : List Entry) : Type 0 where
  pub complete : IsComplete s es
  pub along : Along (IsLowest s) [] es

-- what the device's entries output, entry by entry
abbrev pub outputs_by : ℕ → List Entry → List (List Output)
outputs_by d es = map (λ e. e.outputs) (filter (λ e. e.device == d) es)

-- the device has as many entries in both, and they output the same
pub record IsSame (d : ℕ) (a b : List Entry) : Type 0 where
  pub made : made_by d a ≡ made_by d b
  pub outputs : outputs_by d a ≡ outputs_by d b

-- ---- the next entry

-- an entry of the device may come next
abbrev pub is_enabled : Scenario → List Entry → ℕ → Bool
is_enabled s es d = may_pass (λ g. posts_of s g es) (next_of (step_at s d (made_by d es)))

-- the entry of a device that may come next, under this worker
abbrev pub entry_of : Scenario → ℕ → ℕ → List Entry → Entry
entry_of s worker d es =
    record { worker = worker; device = d; step = made_by d es; outputs = out_at s d (made_by d es) }

-- an entry of the device may come next, whoever makes it
pub record CanGo (s : Scenario) (es : List Entry) (d : ℕ) : Type 0 where
  pub entry : Entry
  pub device : entry.device ≡ d
  pub fits : Fits s es entry
