-- A statement is refused for the first of its four causes.
use Rattle.std.proofs.Common.{◌≡◌, ℕ, ◌-◌, Bool, true, false, cond, eqb, List, [], ◌∷◌, length, Option, None, Some}
use Rattle.std.proofs.Common.{Result, Ok, Err, option_map, refl, sym, ap, ◌∙◌, arith}
use Rattle.std.specs.Prelude.{◌||◌, is_some, nat_le, nat_lt, not}
use Rattle.std.specs.List.{list_any, slice_get}
use Rattle.std.specs.Option.{option_map_or}
use Rattle.lwm2m_values.specs.Value.{has_good_length}
use Rattle.lwm2m_values.specs.declared.value.Value.{Value}
use Rattle.object_defs.specs.Catalog.{object_of, resource_in}
use Rattle.object_defs.specs.Lines.{first_line}
use Rattle.object_defs.specs.Path.{full_path}
use Rattle.object_defs.specs.Vendor.{is_sound, is_vendor, resource_fault_in, vendor_object}
use Rattle.object_defs.specs.declared.definition.ObjectDef.{ObjectDef}
use Rattle.object_defs.specs.declared.definition.ResourceDef.{ResourceDef}
use Rattle.object_defs.specs.declared.fault.CatalogFault.TheVariants as catalog_faults
use Rattle.object_defs.specs.declared.path.FullPath.{FullPath}
use Rattle.instance_store.specs.Stored.{has_instance, instances_of, value_at, value_count}
use Rattle.device_template.specs.Template.{Template, fault_of, is_notify, may_stand, most_accounts, with_notify}
use Rattle.device_template.specs.Values.{fits_object, has_all_parts}
use Rattle.device_template.specs.declared.fault.TemplateFault.TheVariants as template
use Rattle.device_machine.specs.declared.event.Event.TheVariants as event
use Rattle.scenario_image.specs.Scenario.{Row, Scenario, accounts_of, fault_in, is_in_range, is_known, is_within_limits}
use Rattle.scenario_image.specs.Scenario.{last_row, most_rows, most_steps}
use Rattle.scenario_image.specs.declared.fault.ScenarioFault.TheVariants as scenario
use Rattle.scenario_image.specs.declared.step.Step.{Step}
use Rattle.scenario_image.specs.declared.step.Step.TheVariants as step
use Rattle.scenario_words.specs.declared.cause.Cause.{Cause}
use Rattle.scenario_words.specs.declared.cause.Cause.TheVariants.{Duplicate, Limit, Missing, Range}
use Rattle.scenario_words.specs.Reading.{◌>>=◌}
use Rattle.scenario_mnemonics.specs.Messages.{datagram_of, fits_mnemonic}
use Rattle.scenario_statements.specs.declared.statement.Statement.{Statement}
use Rattle.scenario_statements.specs.declared.statement.Statement.TheVariants as says
use Rattle.scenario_asm.specs.Causes.{needs, scenario_cause, template_cause, unless}
use Rattle.scenario_asm.specs.ClassLines.{account_added, definition_added, has_object, instance_added, is_stated}
use Rattle.scenario_asm.specs.ClassLines.{notify_set, object_added, value_added, value_cause}
use Rattle.scenario_asm.specs.Draft.{Draft, closed_scenario}
use Rattle.scenario_asm.specs.Effect.{effect, has_device, has_server, in_class, in_object, knows, reopened_with}
use Rattle.scenario_asm.specs.Effect.{step_added, with_open_class}
use Rattle.laws_text.specs.FirstCause.{first_cause, is_step_over, is_unfit}

-- why something was refused, if it was
abbrev pub cause_in : {X : Type 0} → Result X Cause → Option Cause
cause_in (Ok x) = None
cause_in (Err cause) = Some cause

abbrev four : Bool → Bool → Bool → Bool → Option Cause
four m r q l = first_line ((m, Missing) ∷ (r, Range) ∷ (q, Duplicate) ∷ (l, Limit) ∷ [])

-- ---- what is needed first

needs_only : {X : Type 0} (b r q l : Bool) (x : Result X Cause) → cause_in x ≡ four false r q l
    → cause_in (needs b x) ≡ four (not b) r q l
needs_only true r q l x h = h
needs_only false r q l x h = refl

needs_too : {X : Type 0} (b m r q l : Bool) (x : Result X Cause) → cause_in x ≡ four m r q l
    → cause_in (needs b x) ≡ four (not b || m) r q l
needs_too true m r q l x h = h
needs_too false m r q l x h = refl

made_cause : {X Y : Type 0} (make : X → Y) (r : Result X Cause) → cause_in (r >>= (λ e. Ok (make e))) ≡ cause_in r
made_cause make (Ok x) = refl
made_cause make (Err cause) = refl

-- of the open class
at_open : (d : Draft) (add : Template → Result Template Cause) (make : Template → Draft)
    (m r q l : Option Template → Bool) → m None ≡ true
    → ((c : Template) → cause_in (add c) ≡ four (m (Some c)) (r (Some c)) (q (Some c)) (l (Some c)))
    → (o : Option Template) → cause_in (in_class d add make o) ≡ four (m o) (r o) (q o) (l o)
at_open d add make m r q l none each None = sym (ap (λ b. four b (r None) (q None) (l None)) none)
at_open d add make m r q l none each (Some c) = made_cause make (add c) ∙ each c

-- ---- what builders refuse

of_template : {X : Type 0} (r q l : Bool) (x : X)
    → cause_in (unless (option_map template_cause (first_line ((r, template.Range) ∷ (q, template.Duplicate)
    ∷ (l, template.Full) ∷ []))) x) ≡ four false r q l
of_template true q l x = refl
of_template false true l x = refl
of_template false false true x = refl
of_template false false false x = refl

of_notify : {X : Type 0} (r q : Bool) (x : X)
    → cause_in (unless (first_line ((r, Range) ∷ (q, Duplicate) ∷ [])) x) ≡ four false r q false
of_notify true q x = refl
of_notify false true x = refl
of_notify false false x = refl

of_catalog : {X : Type 0} (r q l : Bool) (x : X)
    → cause_in (unless (option_map template_cause (option_map fault_of (first_line ((r, catalog_faults.IdRange)
    ∷ (q, catalog_faults.Duplicate) ∷ (l, catalog_faults.TooMany) ∷ [])))) x) ≡ four false r q l
of_catalog true q l x = refl
of_catalog false true l x = refl
of_catalog false false true x = refl
of_catalog false false false x = refl

of_instance : {X : Type 0} (h r q l : Bool) (x : X)
    → cause_in (needs h (unless (option_map template_cause (first_line ((r, template.Range) ∷ (not h, template.Missing)
    ∷ (q, template.Duplicate) ∷ (l, template.Full) ∷ []))) x)) ≡ four (not h) r q l
of_instance false r q l x = refl
of_instance true true q l x = refl
of_instance true false true l x = refl
of_instance true false false true x = refl
of_instance true false false false x = refl

five : {X : Type 0} (r q a b e : Bool) (x : X)
    → cause_in (unless (first_line ((r, Range) ∷ (q, Duplicate) ∷ (a, Limit) ∷ (b, Limit) ∷ (e, Limit) ∷ [])) x)
    ≡ four false r q (a || (b || e))
five true q a b e x = refl
five false true a b e x = refl
five false false true b e x = refl
five false false false true e x = refl
five false false false false true x = refl
five false false false false false x = refl

of_definition : {X : Type 0} (r : ResourceDef) (o : Option ObjectDef) (x : X)
    → cause_in (unless (option_map template_cause (option_map fault_of (resource_fault_in r o))) x)
    ≡ four false (option_map_or (λ o. not (is_sound r)) o true)
    (option_map_or (λ o. is_some (resource_in o.resources r.id)) o false)
    (option_map_or (λ o. nat_le 64 (length o.resources)) o false)
of_definition r None x = refl
of_definition r (Some o) x =
    of_catalog (not (is_sound r)) (is_some (resource_in o.resources r.id)) (nat_le 64 (length o.resources)) x

in_object_stated : (r : ResourceDef) (k : Option ℕ) (c : Template)
    → cause_in (in_object k (λ object. definition_added object r) c)
    ≡ four (not (is_some k))
    (option_map_or (λ id. option_map_or (λ o. not (is_sound r)) (vendor_object c.catalog id) true) k true)
    (option_map_or (λ id. option_map_or (λ o. is_some (resource_in o.resources r.id)) (vendor_object c.catalog id)
    false) k false)
    (option_map_or (λ id. option_map_or (λ o. nat_le 64 (length o.resources)) (vendor_object c.catalog id) false) k
    false)
in_object_stated r None c = refl
in_object_stated r (Some id) c = of_definition r (vendor_object c.catalog id) _

of_value : {X : Type 0} (c : Template) (q : Option FullPath) (v : Value) (x : X)
    → cause_in (unless (value_cause c q v) x)
    ≡ four false (option_map_or (λ p. not (fits_object p v (object_of c.catalog p.object))) q true)
    (option_map_or (λ p. is_some (value_at c.store p)) q false)
    (option_map_or (λ p. not (has_good_length v) || (nat_le 65535 (value_count c.store) || has_all_parts c.store p)) q
    false)
of_value c None v x = refl
of_value c (Some p) v x =
    five (not (fits_object p v (object_of c.catalog p.object))) (is_some (value_at c.store p))
    (not (has_good_length v)) (nat_le 65535 (value_count c.store)) (has_all_parts c.store p) x

of_class_room : {X : Type 0} (l : Bool) (x : X)
    → cause_in (unless (option_map scenario_cause (cond l (Some scenario.Limit) None)) x) ≡ four false false false l
of_class_room true x = refl
of_class_room false x = refl

of_row_room : {X : Type 0} (m l : Bool) (x : X)
    → cause_in (unless (option_map scenario_cause (first_line ((m, scenario.Missing) ∷ (l, scenario.Limit) ∷ []))) x)
    ≡ four m false false l
of_row_room true l x = refl
of_row_room false true x = refl
of_row_room false false x = refl

-- ---- steps

of_row : {X : Type 0} (k f w : Bool) (x : X) → k ≡ true
    → cause_in (unless (option_map scenario_cause (first_line ((not k, scenario.Missing) ∷ (f, scenario.Limit)
    ∷ (w, scenario.Limit) ∷ []))) x) ≡ four false false false (f || w)
of_row false f w x h = absurd cc
of_row true true w x h = refl
of_row true false true x h = refl
of_row true false false x h = refl

-- the last row knows the step
abbrev HasRow : List Template → Option Row → Step → Type 0
HasRow cs o x = (r : Row) × (o ≡ Some r) × (is_known (accounts_of cs r.class) x ≡ true)

of_step : {X : Type 0} (cs : List Template) (h range : Bool) (o : Option Row) (x : Step) (y : X)
    → (h ≡ true → HasRow cs o x)
    → cause_in (needs h (unless (option_map scenario_cause (cond (not range) (Some scenario.Range) (fault_in cs o x)))
    y)) ≡ four (not h) (not range) false (is_step_over o (Some x))
of_step cs false range o x y row = refl
of_step cs true false o x y row = refl
of_step cs true true None x y row = let r = row refl in absurd (let bad : None ≡ Some r.0 = r.1 in cc)
of_step cs true true (Some r) x y row =
    let k = row refl in
    let same : r ≡ k.0 = cc in
    of_row (is_known (accounts_of cs r.class) x) (nat_le most_steps (length r.steps)) (not (is_within_limits x)) y
    (ap (λ (z : Row). is_known (accounts_of cs z.class) x) same ∙ k.2)

fitted_step : {X : Type 0} (h f l : Bool) (x : Result X Cause) → cause_in (needs h x) ≡ four (not h) false false l
    → cause_in (needs h (cond f x (Err Range))) ≡ four (not h) (not f) false l
fitted_step false f l x e = refl
fitted_step true true l x e = e
fitted_step true false l x e = refl

last_of : (r : Row) (rows : List Row) → (x : Row) × (slice_get (r ∷ rows) (length rows) ≡ Some x)
last_of r [] = (r, refl)
last_of r (q ∷ rows) = last_of q rows

one_less : (r : Row) (rows : List Row) → length (r ∷ rows) - 1 ≡ length rows
one_less r rows = omega arith

a_row : (rows : List Row) → nat_lt 0 (length rows) ≡ true → (r : Row) × (last_row rows ≡ Some r)
a_row [] h = absurd cc
a_row (r ∷ rows) h = let l = last_of r rows in (l.0, ap (slice_get (r ∷ rows)) (one_less r rows) ∙ l.1)

row_there : (d : Draft) (x : Step) → ((accounts : List ℕ) → is_known accounts x ≡ true) → has_device d ≡ true
    → HasRow d.scenario.classes (last_row d.scenario.rows) x
row_there d x known h = let r = a_row d.scenario.rows h in (r.0, r.1, known (accounts_of d.scenario.classes r.0.class))

server_by : (s : Scenario) (server : ℕ) (bytes : List ℕ) (o : Option Row)
    → knows s server (option_map (λ (r : Row). r.class) o) ≡ true
    → HasRow s.classes o (step.Event (event.Recv server bytes))
server_by s server bytes None h = absurd cc
server_by s server bytes (Some r) h = (r, refl, h)

device_cause : (d : Draft) (x : Step) → ((accounts : List ℕ) → is_known accounts x ≡ true)
    → cause_in (needs d.begun (needs (has_device d) (step_added x d)))
    ≡ four (not d.begun || not (has_device d)) (not (is_in_range x)) false
    (is_step_over (last_row d.scenario.rows) (Some x))
device_cause d x known =
    needs_too d.begun (not (has_device d)) (not (is_in_range x)) false _ _
    (of_step d.scenario.classes (has_device d) (is_in_range x) (last_row d.scenario.rows) x _ (row_there d x known))

datagram_cause : (d : Draft) (server : ℕ) (bytes : List ℕ)
    → cause_in (needs (has_server d server) (step_added (step.Event (event.Recv server bytes)) d))
    ≡ four (not (has_server d server)) false false
    (is_step_over (last_row d.scenario.rows) (Some (step.Event (event.Recv server bytes))))
datagram_cause d server bytes =
    of_step d.scenario.classes (has_server d server) true (last_row d.scenario.rows)
    (step.Event (event.Recv server bytes)) _ (server_by d.scenario server bytes (last_row d.scenario.rows))

-- ---- each statement

begun_twice : {X : Type 0} (b : Bool) (x : X) → cause_in (cond b (Err Duplicate) (Ok x)) ≡ four false false b false
begun_twice true x = refl
begun_twice false x = refl

pub cause_is : (s : Statement) (d : Draft) → cause_in (effect s d) ≡ first_cause s d
cause_is says.Scenario d = begun_twice d.begun _
cause_is says.Class d =
    needs_only d.begun false false _ _ (of_class_room (nat_le 256 (length (closed_scenario d).classes)) _)
cause_is (says.Notify seconds) d =
    needs_too d.begun _ _ _ false _ (at_open d (notify_set seconds) (with_open_class d) (λ o. not (is_some o))
    (λ o. not (is_notify seconds))
    (λ o. option_map_or (λ c. not (eqb c.notify 0)) o false) (λ o. false) refl
    (λ c. of_notify (not (is_notify seconds)) (not (eqb c.notify 0)) (with_notify c seconds)) d.open_class)
cause_is (says.Account server) d =
    needs_too d.begun _ _ _ _ _ (at_open d (account_added server) (with_open_class d) (λ o. not (is_some o))
    (λ o. is_unfit (says.Account server) d)
    (λ o. option_map_or (λ c. list_any (λ a. eqb a server) c.accounts) o false)
    (λ o. option_map_or (λ c. nat_le most_accounts (length c.accounts)) o false) refl
    (λ c. of_template _ _ _ _) d.open_class)
cause_is (says.Object id) d =
    needs_too d.begun _ _ _ _ _ (at_open d (object_added id) (reopened_with id d) (λ o. not (is_some o))
    (λ o. not (is_vendor id))
    (λ o. option_map_or (λ c. is_some (object_of c.catalog id)) o false)
    (λ o. option_map_or (λ c. nat_le 16 (length c.catalog)) o false) refl
    (λ c. of_catalog _ _ _ _) d.open_class)
cause_is (says.Def r) d =
    needs_too d.begun _ _ _ _ _ (at_open d (in_object d.object (λ object. definition_added object r))
    (with_open_class d)
    (λ o. not (is_some o) || not (is_some d.object))
    (λ o. option_map_or (λ c. option_map_or (λ id. option_map_or (λ p. not (is_sound r))
    (vendor_object c.catalog id) true) d.object true) o true)
    (λ o. option_map_or (λ c. option_map_or (λ id. option_map_or (λ p. is_some (resource_in p.resources r.id))
    (vendor_object c.catalog id) false) d.object false) o false)
    (λ o. option_map_or (λ c. option_map_or (λ id. option_map_or (λ p. nat_le 64 (length p.resources))
    (vendor_object c.catalog id) false) d.object false) o false) refl
    (λ c. in_object_stated r d.object c) d.open_class)
cause_is (says.Instance place) d =
    needs_too d.begun _ _ _ _ _ (at_open d (instance_added place) (with_open_class d)
    (λ o. option_map_or (λ c. not (has_object c place.object)) o true)
    (λ o. not (may_stand place))
    (λ o. option_map_or (λ c. has_instance c.store place) o false)
    (λ o. option_map_or (λ c. nat_le 64 (length (instances_of c.store place.object))) o false) refl
    (λ c. of_instance _ _ _ _ _) d.open_class)
cause_is (says.Value path v) d =
    needs_too d.begun _ _ _ _ _ (at_open d (value_added path v) (with_open_class d)
    (λ o. option_map_or (λ c. not (is_stated c path)) o true)
    (λ o. option_map_or (λ c. option_map_or (λ p. not (fits_object p v (object_of c.catalog p.object)))
    (full_path path) true) o true)
    (λ o. option_map_or (λ c. option_map_or (λ p. is_some (value_at c.store p)) (full_path path) false) o false)
    (λ o. option_map_or (λ c. option_map_or (λ p. not (has_good_length v)
    || (nat_le 65535 (value_count c.store) || has_all_parts c.store p)) (full_path path) false) o false) refl
    (λ c. needs_only (is_stated c path) _ _ _ _ (of_value c (full_path path) v _)) d.open_class)
cause_is (says.Device class) d =
    needs_too d.begun _ false false _ _
    (of_row_room (nat_le (length (closed_scenario d).classes) class)
    (nat_le most_rows (length (closed_scenario d).rows)) _)
cause_is (says.Recv server bytes) d = needs_too d.begun _ false false _ _ (datagram_cause d server bytes)
cause_is (says.Request server m) d =
    needs_too d.begun _ _ false _ _
    (fitted_step (has_server d server) (fits_mnemonic m) _ _ (datagram_cause d server (datagram_of m)))
cause_is (says.Tick seconds) d = device_cause d (step.Event (event.Tick seconds)) (λ accounts. refl)
cause_is (says.Put p value) d = device_cause d (step.Event (event.Put p value)) (λ accounts. refl)
cause_is (says.Firmware code) d = device_cause d (step.Event (event.Firmware code)) (λ accounts. refl)
cause_is (says.Post group) d = device_cause d (step.Post group) (λ accounts. refl)
cause_is (says.Need group count) d = device_cause d (step.Need group count) (λ accounts. refl)
