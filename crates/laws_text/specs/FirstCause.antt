-- Why a line is refused: the first cause of its words from the left, or else the first of four of its statement.
use Rattle.std.specs.Prelude.{◌≡◌, ◌↔◌, ◌⊎◌, ℕ, ◌+◌, ◌==◌, nat_le, Bool, true, false, not}
use Rattle.std.specs.Prelude.{◌&&◌, ◌||◌, List, [], ◌∷◌, ◌++◌}
use Rattle.std.specs.Prelude.{length, Option, Some, is_some, Ok, Err}
use Rattle.std.specs.List.{list_any}
use Rattle.std.specs.Option.{option_map_or}
use Rattle.lwm2m_values.specs.Value.{has_good_length}
use Rattle.object_defs.specs.Catalog.{object_of, resource_in}
use Rattle.object_defs.specs.Lines.{first_line}
use Rattle.object_defs.specs.Path.{full_path}
use Rattle.object_defs.specs.Vendor.{is_sound, is_vendor, vendor_object}
use Rattle.object_defs.specs.declared.definition.ObjectDef.{ObjectDef}
use Rattle.instance_store.specs.Stored.{has_instance, instances_of, value_at, value_count}
use Rattle.device_template.specs.Template.{Template, is_notify, may_stand, most_accounts}
use Rattle.device_template.specs.Values.{fits_object, has_all_parts}
use Rattle.scenario_image.specs.Scenario.{Row, is_within_limits, last_row, most_rows, most_steps}
use Rattle.scenario_image.specs.declared.step.Step.{Step}
use Rattle.scenario_words.specs.declared.cause.Cause.{Cause}
use Rattle.scenario_words.specs.declared.cause.Cause.TheVariants.{Duplicate, Limit, Missing, Range}
use Rattle.scenario_words.specs.Words.{lines, words}
use Rattle.scenario_mnemonics.specs.Messages.{fits_mnemonic}
use Rattle.scenario_statements.specs.declared.statement.Statement.{Statement}
use Rattle.scenario_statements.specs.declared.statement.Statement.TheVariants as says
use Rattle.scenario_statements.specs.Grammar.{statement_of}
use Rattle.scenario_asm.specs.ClassLines.{has_object, is_stated}
use Rattle.scenario_asm.specs.declared.fault.AsmFault.{AsmFault}
use Rattle.scenario_asm.specs.Denotes.{AreSaid, Lead}
use Rattle.scenario_asm.specs.Draft.{Draft, closed_scenario, nothing}
use Rattle.scenario_asm.specs.Effect.{has_device, has_server}
use Rattle.scenario_asm.specs.Text.{scenario_of_text}
use Rattle.laws_text.specs.Parts.{said_step}
use Rattle.laws_text.specs.WrongLine.{StatesNothing}

-- ---- what is asked of a class, a device or an object, where there is one; the first argument says what holds without

-- the open class
abbrev pub in_open : Bool → Draft → (Template → Bool) → Bool
in_open without d test = option_map_or test d.open_class without

-- the object that was stated last in the open class, as the class has it
abbrev pub in_stated : Bool → Draft → (ObjectDef → Bool) → Bool
in_stated without d test =
    in_open without d (λ c. option_map_or (λ id. option_map_or test (vendor_object c.catalog id) without) d.object
    without)

-- ---- the four, after what was stated so far

-- what the statement needs was not stated
abbrev pub is_unstated : Statement → Draft → Bool
is_unstated says.Scenario d = false
is_unstated says.Class d = not d.begun
is_unstated (says.Notify seconds) d = not d.begun || not (is_some d.open_class)
is_unstated (says.Account server) d = not d.begun || not (is_some d.open_class)
is_unstated (says.Object id) d = not d.begun || not (is_some d.open_class)
is_unstated (says.Def r) d = not d.begun || (not (is_some d.open_class) || not (is_some d.object))
is_unstated (says.Instance place) d = not d.begun || in_open true d (λ c. not (has_object c place.object))
is_unstated (says.Value path v) d = not d.begun || in_open true d (λ c. not (is_stated c path))
is_unstated (says.Device class) d = not d.begun || nat_le (length (closed_scenario d).classes) class
is_unstated (says.Recv server bytes) d = not d.begun || not (has_server d server)
is_unstated (says.Request server m) d = not d.begun || not (has_server d server)
is_unstated s d = not d.begun || not (has_device d)

-- it does not fit
abbrev pub is_unfit : Statement → Draft → Bool
is_unfit (says.Notify seconds) d = not (is_notify seconds)
is_unfit (says.Account server) d = not (nat_le 1 server && nat_le server 65534)
is_unfit (says.Object id) d = not (is_vendor id)
is_unfit (says.Def r) d = in_stated true d (λ o. not (is_sound r))
is_unfit (says.Instance place) d = not (may_stand place)
is_unfit (says.Value path v) d =
    in_open true d (λ c. option_map_or (λ p. not (fits_object p v (object_of c.catalog p.object))) (full_path path)
    true)
is_unfit (says.Request server m) d = not (fits_mnemonic m)
is_unfit (says.Tick seconds) d = not (nat_le 1 seconds && nat_le seconds 86400)
is_unfit (says.Put path v) d = not (is_some (full_path path))
is_unfit (says.Firmware code) d = not (nat_le code 9)
is_unfit (says.Need group count) d = not (nat_le 1 count && nat_le count 1000000)
is_unfit s d = false

-- it was stated before
abbrev pub is_repeated : Statement → Draft → Bool
is_repeated says.Scenario d = d.begun
is_repeated (says.Notify seconds) d = in_open false d (λ c. not (c.notify == 0))
is_repeated (says.Account server) d = in_open false d (λ c. list_any (λ a. a == server) c.accounts)
is_repeated (says.Object id) d = in_open false d (λ c. is_some (object_of c.catalog id))
is_repeated (says.Def r) d = in_stated false d (λ o. is_some (resource_in o.resources r.id))
is_repeated (says.Instance place) d = in_open false d (λ c. has_instance c.store place)
is_repeated (says.Value path v) d =
    in_open false d (λ c. option_map_or (λ p. is_some (value_at c.store p)) (full_path path) false)
is_repeated s d = false

-- the device that was stated last has as many steps as it may have, or the step is too long
abbrev pub is_step_over : Option Row → Option Step → Bool
is_step_over row step =
    option_map_or (λ r. nat_le most_steps (length r.steps)) row false
    || option_map_or (λ x. not (is_within_limits x)) step false

-- it is one more than there may be, or too long
abbrev pub is_over_limit : Statement → Draft → Bool
is_over_limit says.Scenario d = false
is_over_limit says.Class d = nat_le 256 (length (closed_scenario d).classes)
is_over_limit (says.Notify seconds) d = false
is_over_limit (says.Account server) d = in_open false d (λ c. nat_le most_accounts (length c.accounts))
is_over_limit (says.Object id) d = in_open false d (λ c. nat_le 16 (length c.catalog))
is_over_limit (says.Def r) d = in_stated false d (λ o. nat_le 64 (length o.resources))
is_over_limit (says.Instance place) d = in_open false d (λ c. nat_le 64 (length (instances_of c.store place.object)))
is_over_limit (says.Value path v) d =
    in_open false d (λ c. option_map_or (λ p. not (has_good_length v)
    || (nat_le 65535 (value_count c.store) || has_all_parts c.store p)) (full_path path) false)
is_over_limit (says.Device class) d = nat_le most_rows (length (closed_scenario d).rows)
is_over_limit s d = is_step_over (last_row d.scenario.rows) (said_step s)

-- the first of the four
abbrev pub first_cause : Statement → Draft → Option Cause
first_cause s d =
    first_line (
    (is_unstated s d, Missing)
    ∷ (is_unfit s d, Range)
    ∷ (is_repeated s d, Duplicate)
    ∷ (is_over_limit s d, Limit)
    ∷ []
    )

-- ---- the fault of a text

-- a line is refused for this cause: one of its words is wrong, or its statement is refused after that draft
abbrev pub IsCauseAt : List ℕ → Draft → Cause → Type 0
IsCauseAt line d cause =
    (statement_of (words line) ≡ Err cause)
    ⊎ ((s : Statement) × (statement_of (words line) ≡ Ok (Some s)) × (first_cause s d ≡ Some cause))

-- the statements of the lines before a line have their effects, and the line is refused
pub record IsFaultOf (text : List ℕ) (fault : AsmFault) : Type 0 where
  pub before : List (List ℕ)
  pub here : List ℕ
  pub behind : List (List ℕ)
  pub cut : lines text ≡ before ++ here ∷ behind
  pub line : fault.line ≡ length before + 1
  pub statements : List Statement
  pub said : AreSaid before statements
  pub draft : Draft
  pub lead : Lead nothing statements draft
  pub cause : IsCauseAt here draft fault.cause

-- a text has just this fault; one that states nothing is missing something in line 1
abbrev pub FaultsAreFirst : Type 0
FaultsAreFirst =
    (text : List ℕ) (fault : AsmFault)
    → (scenario_of_text text ≡ Err fault)
    ↔ (IsFaultOf text fault ⊎ (StatesNothing text × (fault ≡ record { line = 1; cause = Missing })))
