-- What the devices show at the end of a run.
use Rattle.std.proofs.Common.{◌≡◌, ℕ, ◌<◌, ◌≤◌, nat_lt, false, ◌⊎◌, inl, inr, List, length, take, Some, slice_get, sym}
use Rattle.std.proofs.Common.{ap, ◌∙◌, arith}
use Rattle.std.proofs.lemmas.Bool.{cases_lt, lt-ltb, false≢true}
use Rattle.std.proofs.lemmas.List.{take_all}
use Rattle.device_template.specs.Template.{Template}
use Rattle.scenario_image.specs.declared.step.Step.{Step}
use Rattle.scenario_image.specs.Scenario.{Scenario}
use Rattle.scenario_image.specs.Play.{start, state_after, IsRowOf}
use Rattle.trace_file.specs.declared.entry.Entry.{Entry}
use Rattle.fleet_core.specs.Run.{steps_in, made_by, IsRun}
use Rattle.fleet_core.specs.Waiting.{is_waiting}
use Rattle.debugger.specs.Shown.{state_with, state_in_row, state_of}

at_least : (made steps : ℕ) → nat_lt made steps ≡ false → (made < steps) ⊎ (steps ≤ made) → steps ≤ made
at_least made steps isnt (inl less) = absurd (false≢true (sym isnt ∙ lt-ltb made steps less))
at_least made steps isnt (inr more) = more

pub whole_row : (s : Scenario) (es : List Entry) (d : ℕ) (class : Template) (steps : List Step) → IsRun s es
    → IsRowOf s d class steps
    → is_waiting s es d ≡ false
    → state_of s d (made_by d (take (length es) es)) ≡ Some (state_after (start class) steps)
whole_row s es d class steps run row done =
    let count : length (steps_in (slice_get s.rows d)) ≡ length steps = ap (λ r. length (steps_in r)) row.row in
    let low = at_least (made_by d es) (length (steps_in (slice_get s.rows d))) done
    (cases_lt (made_by d es) (length (steps_in (slice_get s.rows d)))) in
    let all : take (made_by d es) steps ≡ steps = take_all (made_by d es) steps (omega (arith, count, low)) in
    ap (λ l. state_of s d (made_by d l)) (take_all (length es) es (omega arith))
    ∙ (ap (λ r. state_in_row s r (made_by d es)) row.row
    ∙ (ap (λ c. state_with c steps (made_by d es)) row.stated
    ∙ ap (λ l. Some (state_after (start class) l)) all))
