-- What contracts see of all that a device keeps, and the first second in which it sends or removes something by itself.
use Rattle.std.specs.Prelude.{◌≡◌, ℕ, ◌<◌, ◌^◌, List}
use Rattle.notifier.specs.declared.pending.Outlook.{Outlook}
use Rattle.device_notifications.specs.Laws.{IsFirstSending}
use Rattle.device_notifications.specs.Outlooks.{outlooks_of}
use Rattle.device_notifications.specs.Second.{quiet_sweep, second}
use Rattle.device_machine.specs.State.{Machine}

-- a flat state, in which each recorded request lives, and beside it what was last said of each observation
pub record StateWithOutlooks : Type 0 where
  pub flat : Machine
  pub said : List Outlook

-- what was last said of each observation is what its present answer is, and its periods
abbrev pub IsUpToDate : StateWithOutlooks → Type 0
IsUpToDate h = h.said ≡ outlooks_of h.flat.kept.client h.flat.kept.observations

-- this is the first second after the clock's, below 2^64, in which something is sent for an observation, or one is
-- removed, while seconds alone pass
abbrev pub IsNextSending : Machine → ℕ → Type 0
IsNextSending f first = IsFirstSending f.kept.client f.kept.clock f.kept.next_id f.kept.observations first

-- there is none
abbrev pub IsSilent : Machine → Type 0
IsSilent f =
    (clock : ℕ) → f.kept.clock < clock → clock < 2 ^ 64
    → second f.kept.client clock f.kept.next_id f.kept.observations ≡ quiet_sweep f.kept.next_id f.kept.observations
