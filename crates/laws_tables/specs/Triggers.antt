-- When an observation sends (OMA LwM2M 1.1 Core, attributes). Values are whole numbers; gt, lt and st are held in
-- thousandths, of which each unit of a value has 1,000.
use Rattle.std.specs.Prelude.{◌≡◌, ◌≢◌, ◌↔◌, ◌⊎◌, ℕ, ◌*◌, ◌<◌, ◌≤◌, ℤ, pos, negsuc, ◌+ℤ◌, ◌*ℤ◌, ◌<ℤ◌, ◌≤ℤ◌, Bool}
use Rattle.std.specs.Prelude.{true, false, List, [], Option, None, Some}
use Rattle.notifier.specs.Trigger.{is_due, is_triggered}

-- ---- one condition

-- from a value that is not above gt to one that is
abbrev pub Rises : ℤ → ℤ → ℤ → Type 0
Rises gt a b = ((a *ℤ pos 1000) ≤ℤ gt) × (gt <ℤ (b *ℤ pos 1000))

-- from a value that is not below lt to one that is
abbrev pub Falls : ℤ → ℤ → ℤ → Type 0
Falls lt a b = (lt ≤ℤ (a *ℤ pos 1000)) × ((b *ℤ pos 1000) <ℤ lt)

-- gt is met where the value has crossed it, either way; so is lt
abbrev pub CrossesGt : ℤ → ℤ → ℤ → Type 0
CrossesGt gt old now = Rises gt old now ⊎ Rises gt now old

abbrev pub CrossesLt : ℤ → ℤ → ℤ → Type 0
CrossesLt lt old now = Falls lt old now ⊎ Falls lt now old

-- st is met where the value has changed by that much or more, either way
abbrev pub Steps : ℤ → ℤ → ℤ → Type 0
Steps st old now =
    (change : ℕ) × ((now ≡ old +ℤ pos change) ⊎ (old ≡ now +ℤ pos change)) × (st ≤ℤ pos (change * 1000))

-- ---- the trigger

-- one of the three, at least, is set
abbrev pub AnySet : Option ℤ → Option ℤ → Option ℤ → Type 0
AnySet gt lt st = (gt ≢ None) ⊎ ((lt ≢ None) ⊎ (st ≢ None))

-- one of those that are set is met
abbrev pub AnyMet : Option ℤ → Option ℤ → Option ℤ → ℤ → ℤ → Type 0
AnyMet gt lt st old now =
    ((z : ℤ) × (gt ≡ Some z) × CrossesGt z old now)
    ⊎ (((z : ℤ) × (lt ≡ Some z) × CrossesLt z old now) ⊎ ((z : ℤ) × (st ≡ Some z) × Steps z old now))

-- where the last report and the present answer are numbers and one of the three is set, one that is set has to be met,
-- whatever the payloads are; else the payload has to be another one
pub record Triggers (gt lt st old now : Option ℤ) (old_payload payload : List ℕ) (triggered : Bool) : Type 0 where
  pub numbers : (a b : ℤ) → old ≡ Some a → now ≡ Some b → AnySet gt lt st
      → (triggered ≡ true) ↔ AnyMet gt lt st a b
  pub none_set : ¬ (AnySet gt lt st) → (triggered ≡ true) ↔ (payload ≢ old_payload)
  pub no_numbers : (old ≡ None) ⊎ (now ≡ None) → (triggered ≡ true) ↔ (payload ≢ old_payload)

abbrev pub TriggersBySaying : Type 0
TriggersBySaying =
    (gt lt st old now : Option ℤ) (old_payload payload : List ℕ)
    → Triggers gt lt st old now old_payload payload (is_triggered gt lt st old now old_payload payload)

-- ---- in numbers

-- a condition alone, from one value to another, whose payloads are the same
abbrev pub by_gt : ℤ → ℤ → ℤ → Bool
by_gt gt a b = is_triggered (Some gt) None None (Some a) (Some b) [] []

abbrev pub by_lt : ℤ → ℤ → ℤ → Bool
by_lt lt a b = is_triggered None (Some lt) None (Some a) (Some b) [] []

abbrev pub by_st : ℤ → ℤ → ℤ → Bool
by_st st a b = is_triggered None None (Some st) (Some a) (Some b) [] []

pub record AreTriggered : Type 0 where
  -- gt 50.5 lies between 50 and 51; 50 is not above gt 50
  pub crossed : by_gt (pos 50500) (pos 50) (pos 51) ≡ true
  pub crossed_back : by_gt (pos 50500) (pos 51) (pos 50) ≡ true
  pub above_both : by_gt (pos 50500) (pos 51) (pos 90) ≡ false
  pub only_reached : by_gt (pos 50000) (pos 49) (pos 50) ≡ false
  -- lt -0.5 lies between 0 and -1; 20 is not below lt 20
  pub below_zero : by_lt (negsuc 499) (pos 0) (negsuc 0) ≡ true
  pub reached_from_above : by_lt (pos 20000) (pos 21) (pos 20) ≡ false
  -- st 2 is a change by 2, either way; st 1.001 is no change by 1
  pub stepped : by_st (pos 2000) (pos 10) (pos 12) ≡ true
  pub stepped_down : by_st (pos 2000) (pos 1) (negsuc 0) ≡ true
  pub too_small : by_st (pos 1001) (pos 10) (pos 11) ≡ false

-- ---- its periods

-- pmin seconds have passed, and it is triggered; or pmax seconds have, where pmax has effect: above 0, and not below
-- pmin
abbrev pub SendsByAge : Type 0
SendsByAge =
    (age pmin : ℕ) (pmax : Option ℕ) (triggered : Bool)
    → (is_due age pmin pmax triggered ≡ true)
    ↔ ((pmin ≤ age)
    × ((triggered ≡ true) ⊎ ((p : ℕ) × (pmax ≡ Some p) × (0 < p) × (pmin ≤ p) × (p ≤ age))))
