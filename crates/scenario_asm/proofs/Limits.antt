-- A statement that is refused for a limit passes one that has a name.
use Rattle.std.proofs.Common.{◌≡◌, ℕ, Bool, true, false, cond, not, ◌==◌, [], ◌∷◌, length, List, Option, None, Some}
use Rattle.std.proofs.Common.{Result, Ok, Err, option_map, refl}
use Rattle.std.specs.Prelude.{IsSome, nat_le}
use Rattle.lwm2m_values.specs.Value.{has_good_length}
use Rattle.lwm2m_values.specs.declared.value.Value.{Value}
use Rattle.lwm2m_values.specs.declared.value.Value.TheVariants as values
use Rattle.object_defs.specs.Lines.{first_line}
use Rattle.object_defs.specs.declared.path.Path.{Path}
use Rattle.device_template.specs.Template.{Template, is_notify, with_notify}
use Rattle.device_machine.specs.declared.event.Event.TheVariants as event
use Rattle.scenario_image.specs.Scenario.{Row, accounts_of, fault_in, is_in_range, is_known, is_within_limits, last_row}
use Rattle.scenario_image.specs.Scenario.{most_steps, step_fault}
use Rattle.scenario_image.specs.declared.fault.ScenarioFault.{ScenarioFault}
use Rattle.scenario_image.specs.declared.fault.ScenarioFault.TheVariants as scenario
use Rattle.scenario_image.specs.declared.step.Step.{Step}
use Rattle.scenario_image.specs.declared.step.Step.TheVariants as step
use Rattle.scenario_words.specs.Reading.{◌>>=◌}
use Rattle.scenario_words.specs.declared.cause.Cause.{Cause}
use Rattle.scenario_words.specs.declared.cause.Cause.TheVariants.{Limit, Missing, Duplicate, Range}
use Rattle.scenario_statements.specs.declared.statement.Statement.{Statement}
use Rattle.scenario_statements.specs.declared.statement.Statement.TheVariants as says
use Rattle.scenario_asm.specs.Causes.{needs, scenario_cause, unless}
use Rattle.scenario_asm.specs.ClassLines.{notify_set, value_added}
use Rattle.scenario_asm.specs.Draft.{Draft}
use Rattle.scenario_asm.specs.Effect.{device_step, effect, has_device, in_class, step_added, with_open_class}
use Rattle.scenario_asm.specs.Limits.{has_all_steps, length_limit, limit_of, step_limit, value_limit}
use Rattle.scenario_asm.specs.declared.limit.ScenarioLimit.{ScenarioLimit}
use Rattle.scenario_asm.specs.declared.limit.ScenarioLimit.TheVariants.{Steps}

some_either : (b : Bool) (x y : ScenarioLimit) → IsSome (cond b (Some x) (Some y))
some_either true x y = refl
some_either false x y = refl

needs_said : {X : Type 0} (b : Bool) (x : Result X Cause) → needs b x ≡ Err Limit → x ≡ Err Limit
needs_said true x h = h
needs_said false x h = absurd cc

-- ---- values

value_named : (v : Value) (c : Template) → IsSome (value_limit v (Some c))
value_named (values.Text t) c = some_either _ _ _
value_named (values.Whole z) c = refl
value_named (values.Flag b) c = refl
value_named (values.Opaque b) c = some_either _ _ _
value_named (values.Moment z) c = refl
value_named (values.Link o i) c = refl

value_in_class : (p : Path) (v : Value) (d : Draft) (o : Option Template)
    → in_class d (value_added p v) (with_open_class d) o ≡ Err Limit → IsSome (value_limit v o)
value_in_class p v d None h = absurd cc
value_in_class p v d (Some c) h = value_named v c

-- ---- steps

cause_limit : {X : Type 0} (o : Option ScenarioFault) (x : X) → unless (option_map scenario_cause o) x ≡ Err Limit
    → o ≡ Some scenario.Limit
cause_limit None x h = absurd cc
cause_limit (Some scenario.Range) x h = absurd cc
cause_limit (Some scenario.Missing) x h = absurd cc
cause_limit (Some scenario.Limit) x h = refl
cause_limit (Some scenario.Memory) x h = absurd cc

full_row : (k f w : Bool) → w ≡ true
    → first_line ((not k, scenario.Missing) ∷ (f, scenario.Limit) ∷ (not w, scenario.Limit) ∷ []) ≡ Some scenario.Limit
    → f ≡ true
full_row k true w within h = refl
full_row true false true within h = absurd cc
full_row true false false within h = absurd cc
full_row false false w within h = absurd cc

is_full : (classes : List Template) (o : Option Row) (x : Step) → is_within_limits x ≡ true
    → fault_in classes o x ≡ Some scenario.Limit → has_all_steps o ≡ true
is_full classes None x within h = absurd cc
is_full classes (Some row) x within h =
    full_row (is_known (accounts_of classes row.class) x) (nat_le most_steps (length row.steps)) (is_within_limits x)
    within h

in_range : (b : Bool) (o : Option ScenarioFault) → cond b (Some scenario.Range) o ≡ Some scenario.Limit
    → o ≡ Some scenario.Limit
in_range true o h = absurd cc
in_range false o h = h

named : (b : Bool) (long : Option ScenarioLimit) → b ≡ true → IsSome (cond b (Some Steps) long)
named true long h = refl
named false long h = absurd cc

-- a step that is not too long
step_named : (x : Step) (d : Draft) (long : Option ScenarioLimit) → is_within_limits x ≡ true
    → device_step x d ≡ Err Limit → IsSome (step_limit d long)
step_named x d long within h =
    named (has_all_steps (last_row d.scenario.rows)) long
    (is_full d.scenario.classes (last_row d.scenario.rows) x within
    (in_range (not (is_in_range x)) (fault_in d.scenario.classes (last_row d.scenario.rows) x)
    (cause_limit (step_fault d.scenario x) _ (needs_said (has_device d) (step_added x d) h))))

put_named : (p : Path) (v : Value) (d : Draft) → device_step (step.Event (event.Put p v)) d ≡ Err Limit
    → IsSome (step_limit d (length_limit v))
put_named p (values.Text t) d h = some_either _ _ _
put_named p (values.Whole z) d h = step_named (step.Event (event.Put p (values.Whole z))) d None refl h
put_named p (values.Flag b) d h = step_named (step.Event (event.Put p (values.Flag b))) d None refl h
put_named p (values.Opaque b) d h = some_either _ _ _
put_named p (values.Moment z) d h = step_named (step.Event (event.Put p (values.Moment z))) d None refl h
put_named p (values.Link o i) d h = step_named (step.Event (event.Put p (values.Link o i))) d None refl h

-- ---- statements

no_repeat : (b : Bool) (x : Draft) → cond b (Err Duplicate) (Ok x) ≡ Err Limit → ⊥
no_repeat true x h = cc
no_repeat false x h = cc

no_notify : (a b : Bool) (x : Template) (make : Template → Draft)
    → (unless (first_line ((a, Range) ∷ (b, Duplicate) ∷ [])) x >>= (λ e. Ok (make e))) ≡ Err Limit → ⊥
no_notify true b x make h = cc
no_notify false true x make h = cc
no_notify false false x make h = cc

notify_in_class : (seconds : ℕ) (d : Draft) (o : Option Template)
    → in_class d (notify_set seconds) (with_open_class d) o ≡ Err Limit → ⊥
notify_in_class seconds d None h = cc
notify_in_class seconds d (Some c) h =
    no_notify (not (is_notify seconds)) (not (c.notify == 0)) (with_notify c seconds) (with_open_class d) h

pub limits_named : (s : Statement) (d : Draft) → effect s d ≡ Err Limit → IsSome (limit_of s d)
limits_named says.Scenario d h = absurd (no_repeat d.begun _ h)
limits_named says.Class d h = refl
limits_named (says.Notify seconds) d h =
    absurd (notify_in_class seconds d d.open_class (needs_said d.begun _ h))
limits_named (says.Account server) d h = refl
limits_named (says.Object id) d h = refl
limits_named (says.Def r) d h = refl
limits_named (says.Instance place) d h = refl
limits_named (says.Value p value) d h = value_in_class p value d d.open_class (needs_said d.begun _ h)
limits_named (says.Device class) d h = refl
limits_named (says.Recv server bytes) d h = some_either _ _ _
limits_named (says.Request server m) d h = some_either _ _ _
limits_named (says.Tick seconds) d h =
    step_named (step.Event (event.Tick seconds)) d None refl (needs_said d.begun _ h)
limits_named (says.Put p value) d h = put_named p value d (needs_said d.begun _ h)
limits_named (says.Firmware code) d h =
    step_named (step.Event (event.Firmware code)) d None refl (needs_said d.begun _ h)
limits_named (says.Post group) d h = step_named (step.Post group) d None refl (needs_said d.begun _ h)
limits_named (says.Need group count) d h = step_named (step.Need group count) d None refl (needs_said d.begun _ h)
