-- When an observation sends: by the change since its last report, and by its age (OMA LwM2M 1.1 Core, attributes; RFC
-- 7641).
use Rattle.std.specs.Prelude.{ℕ, ℤ, pos, ◌*ℤ◌, ◌-ℤ◌, ◌*◌, int_lt, int_le, nat_abs, nat_lt, nat_le, Bool, false, not}
use Rattle.std.specs.Prelude.{◌&&◌, ◌||◌, Option, None, Some, is_some, List, [], ◌∷◌, bytes_eq, cond}
use Rattle.object_defs.specs.Lines.{first_line}
use Rattle.notifier.specs.declared.trigger.Trigger.{Trigger}
use Rattle.notifier.specs.declared.trigger.Trigger.TheVariants as trigger

-- a number in thousandths, the unit of gt, lt and st
abbrev pub thousandths : ℤ → ℤ
thousandths z = z *ℤ pos 1000

-- whether two answers differ
abbrev pub differ : Bool → Bool → Bool
differ a b = cond a (not b) b

-- whether a number is above gt, and below lt
abbrev pub is_above : ℤ → ℤ → Bool
is_above gt number = int_lt gt (thousandths number)

abbrev pub is_below : ℤ → ℤ → Bool
is_below lt number = int_lt (thousandths number) lt

-- one number is above gt and the other is not
abbrev pub crosses_gt : Option ℤ → ℤ → ℤ → Bool
crosses_gt None old now = false
crosses_gt (Some gt) old now = differ (is_above gt old) (is_above gt now)

-- one number is below lt and the other is not
abbrev pub crosses_lt : Option ℤ → ℤ → ℤ → Bool
crosses_lt None old now = false
crosses_lt (Some lt) old now = differ (is_below lt old) (is_below lt now)

-- the numbers are st or more apart
abbrev pub steps_st : Option ℤ → ℤ → ℤ → Bool
steps_st None old now = false
steps_st (Some st) old now = int_le st (pos (nat_abs (now -ℤ old) * 1000))

-- whether there is a condition on numbers
abbrev pub has_condition : Option ℤ → Option ℤ → Option ℤ → Bool
has_condition gt lt st = is_some gt || (is_some lt || is_some st)

-- a condition on numbers holds of the last report and the present number
abbrev pub number_triggers : Option ℤ → Option ℤ → Option ℤ → ℤ → ℤ → Bool
number_triggers gt lt st old now = crosses_gt gt old now || (crosses_lt lt old now || steps_st st old now)

-- a trigger: where the target has a number and a condition is set, a condition holds; else the payload differs
abbrev pub is_triggered : Option ℤ → Option ℤ → Option ℤ → Option ℤ → Option ℤ → List ℕ → List ℕ → Bool
is_triggered gt lt st (Some old) (Some now) old_payload payload =
    cond (has_condition gt lt st) (number_triggers gt lt st old now) (not (bytes_eq old_payload payload))
is_triggered gt lt st (Some old) None old_payload payload = not (bytes_eq old_payload payload)
is_triggered gt lt st None now old_payload payload = not (bytes_eq old_payload payload)

-- which trigger it is: the first of gt, lt and st that holds of two numbers, or the payload
abbrev pub number_trigger : Option ℤ → Option ℤ → Option ℤ → ℤ → ℤ → Option Trigger
number_trigger gt lt st old now =
    first_line ((crosses_gt gt old now, trigger.Gt) ∷ (crosses_lt lt old now, trigger.Lt) ∷ (
      steps_st st old now,
      trigger.St,
    ) ∷ [])

abbrev pub payload_trigger : List ℕ → List ℕ → Option Trigger
payload_trigger old_payload payload = first_line ((not (bytes_eq old_payload payload), trigger.Payload) ∷ [])

abbrev pub trigger_in : Option ℤ → Option ℤ → Option ℤ → Option ℤ → Option ℤ → List ℕ → List ℕ → Option Trigger
trigger_in gt lt st (Some old) (Some now) old_payload payload =
    cond (has_condition gt lt st) (number_trigger gt lt st old now) (payload_trigger old_payload payload)
trigger_in gt lt st (Some old) None old_payload payload = payload_trigger old_payload payload
trigger_in gt lt st None now old_payload payload = payload_trigger old_payload payload

-- pmax has effect where it is above 0 and not below pmin, and is over at this age
abbrev pub is_over : ℕ → ℕ → Option ℕ → Bool
is_over age pmin None = false
is_over age pmin (Some pmax) = nat_lt 0 pmax && (nat_le pmin pmax && nat_le pmax age)

-- an observation whose last message is this old sends
abbrev pub is_due : ℕ → ℕ → Option ℕ → Bool → Bool
is_due age pmin pmax triggered = nat_le pmin age && (triggered || is_over age pmin pmax)
