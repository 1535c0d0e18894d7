-- A wire between devices and their ports, as words ask for it.
use Rattle.std.specs.Prelude.{◌≡◌, ◌⊎◌, ◌||◌, ℕ, Bool, false, true, is_some, List, Option, None, Some, option_map}
use Rattle.command_line.specs.declared.wire_words.AskedWire.{AskedWire}
use Rattle.fleet_wire.specs.declared.choice.Choice.{Choice}
use Rattle.fleet_wire.specs.declared.choice.Choice.TheVariants.{Never}
use Rattle.fleet_wire.specs.declared.plan.Plan.{Plan}
use Rattle.fleet_wire.specs.declared.reading.ChoiceFault.{ChoiceFault}
use Rattle.fleet_wire.specs.Reading.{IsRefused, IsSaid}
use Rattle.fleet_lines.specs.Counting.{PlannedWire}

-- ---- what words ask for

-- one of the words for datagrams is given
abbrev pub is_wired : AskedWire → Bool
is_wired wire =
    is_some wire.lose_in || (is_some wire.lose_out || (is_some wire.twice || (is_some wire.swap || is_some wire.late)))

-- the choice that a word says; none is chosen where it is not given
abbrev pub IsChosenBy : Option (List ℕ) → Choice → Type 0
IsChosenBy None choice = choice ≡ Never
IsChosenBy (Some word) choice = IsSaid choice word

-- the plan that the words say
pub record IsPlanBy (wire : AskedWire) (plan : Plan) : Type 0 where
  pub lose_in : IsChosenBy (option_map (λ w. w.now) wire.lose_in) plan.lose_in
  pub lose_out : IsChosenBy (option_map (λ w. w.now) wire.lose_out) plan.lose_out
  pub twice : IsChosenBy (option_map (λ w. w.now) wire.twice) plan.twice
  pub swap : IsChosenBy (option_map (λ w. w.now) wire.swap) plan.swap
  pub late : IsChosenBy (option_map (λ w. w.now) wire.late) plan.late
  pub late_by : plan.late_by ≡ wire.late_by
  pub seed : plan.seed ≡ wire.seed

-- the words say this plan, or ask for no wire
abbrev pub IsPlanned : AskedWire → Option Plan → Type 0
IsPlanned wire None = is_wired wire ≡ false
IsPlanned wire (Some plan) = (is_wired wire ≡ true) × IsPlanBy wire plan

-- a word is given, and says no choice
abbrev pub IsNoChoice : Option (List ℕ) → Type 0
IsNoChoice None = ⊥
IsNoChoice (Some word) = (fault : ChoiceFault) × IsRefused fault word

-- one of the words says no choice
abbrev pub IsNoPlan : AskedWire → Type 0
IsNoPlan wire =
    IsNoChoice (option_map (λ w. w.now) wire.lose_in)
    ⊎ (IsNoChoice (option_map (λ w. w.now) wire.lose_out)
    ⊎ (IsNoChoice (option_map (λ w. w.now) wire.twice)
    ⊎ (IsNoChoice (option_map (λ w. w.now) wire.swap) ⊎ IsNoChoice (option_map (λ w. w.now) wire.late))))

-- ---- the wire of a session

-- the words ask for this wire between n devices and their ports, or for none
abbrev pub IsWireBy : AskedWire → ℕ → Option PlannedWire → Type 0
IsWireBy wire devices None = is_wired wire ≡ false
IsWireBy wire devices (Some wired) =
    (is_wired wire ≡ true) × IsPlanBy wire wired.plan × (wired.devices ≡ devices)
