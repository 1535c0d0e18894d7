-- A trigger is named exactly where something triggers.
use Rattle.std.proofs.Common.{◌≡◌, ℕ, ℤ, Bool, true, false, ◌||◌, not, cond, List, [], ◌∷◌, Option, None, Some, refl}
use Rattle.std.specs.Option.{is_some}
use Rattle.std.specs.Str.{bytes_eq}
use Rattle.object_defs.specs.Lines.{first_line}
use Rattle.notifier.specs.Trigger.{crosses_gt, crosses_lt, has_condition, is_triggered, number_trigger, number_triggers}
use Rattle.notifier.specs.Trigger.{payload_trigger, steps_st, trigger_in}
use Rattle.notifier.specs.declared.trigger.Trigger.TheVariants.{Gt, Lt, St, Payload}

first_of : (a b c : Bool) → is_some (first_line ((a, Gt) ∷ (b, Lt) ∷ (c, St) ∷ [])) ≡ (a || (b || c))
first_of true b c = refl
first_of false true c = refl
first_of false false true = refl
first_of false false false = refl

pub numbers_named : (gt lt st : Option ℤ) (old now : ℤ)
    → is_some (number_trigger gt lt st old now) ≡ number_triggers gt lt st old now
numbers_named gt lt st old now = first_of (crosses_gt gt old now) (crosses_lt lt old now) (steps_st st old now)

alone : (a : Bool) → is_some (first_line ((a, Payload) ∷ [])) ≡ a
alone true = refl
alone false = refl

pub payload_named : (old_payload payload : List ℕ)
    → is_some (payload_trigger old_payload payload) ≡ not (bytes_eq old_payload payload)
payload_named old_payload payload = alone (not (bytes_eq old_payload payload))

either : (c : Bool) (gt lt st : Option ℤ) (old now : ℤ) (old_payload payload : List ℕ)
    → is_some (cond c (number_trigger gt lt st old now) (payload_trigger old_payload payload))
    ≡ cond c (number_triggers gt lt st old now) (not (bytes_eq old_payload payload))
either true gt lt st old now old_payload payload = numbers_named gt lt st old now
either false gt lt st old now old_payload payload = payload_named old_payload payload

pub trigger_named : (gt lt st old now : Option ℤ) (old_payload payload : List ℕ)
    → is_some (trigger_in gt lt st old now old_payload payload) ≡ is_triggered gt lt st old now old_payload payload
trigger_named gt lt st (Some old) (Some now) old_payload payload =
    either (has_condition gt lt st) gt lt st old now old_payload payload
trigger_named gt lt st (Some old) None old_payload payload = payload_named old_payload payload
trigger_named gt lt st None now old_payload payload = payload_named old_payload payload
