-- What happens to observations by themselves as seconds pass, each with its reason: datagrams that are sent, and ends.
use Rattle.std.specs.Prelude.{◌≡◌, ◌⊎◌, ℕ, zero, suc, ◌+◌, ◌<◌, ◌≤◌, List, [], ◌∷◌, ◌++◌}
use Rattle.notifier.specs.declared.observation.Observation.{Observation}
use Rattle.device_requests.specs.Client.{Client}
use Rattle.device_notifications.specs.Second.{quiet_sweep, second}
use Rattle.device_machine.specs.State.{Machine}
use Rattle.notification_reasons.specs.Reasons.{IsNotificationReason, DoesNothing}
use Rattle.notification_reasons.specs.declared.reasons.Happening.{Happening}

-- an observation does something in the second that the clock shows, for this reason
pub record IsHappening (client : Client) (clock : ℕ) (o : Observation) (h : Happening) : Type 0 where
  pub path : h.path ≡ o.path
  pub second_is : h.second ≡ clock
  pub why : IsNotificationReason client clock o h.reason

-- of observations in their order, what is done in this second
abbrev pub AreHappenings : Client → ℕ → List Observation → List Happening → Type 0
AreHappenings client clock [] hs = hs ≡ []
AreHappenings client clock (o ∷ os) hs =
    (DoesNothing client clock o × AreHappenings client clock os hs)
    ⊎ ((h : Happening) × (rest : List Happening) × IsHappening client clock o h × AreHappenings client clock os rest
    × (hs ≡ h ∷ rest))

-- second after second, where the clock shows this before them: those of the first, then those of the others, of the
-- observations that the first leaves
abbrev pub AreHappeningsIn : Client → ℕ → ℕ → ℕ → List Observation → List Happening → Type 0
AreHappeningsIn client clock zero next_id os hs = hs ≡ []
AreHappeningsIn client clock (suc n) next_id os hs =
    (here : List Happening) × (later : List Happening) × AreHappenings client (clock + 1) os here
    × AreHappeningsIn client (clock + 1) n (second client (clock + 1) next_id os).next_id
    (second client (clock + 1) next_id os).left later × (hs ≡ here ++ later)

-- those of a tick of n seconds of a device in this flat state
abbrev pub AreTickHappenings : Machine → ℕ → List Happening → Type 0
AreTickHappenings f n hs = AreHappeningsIn f.kept.client f.kept.clock n f.kept.next_id f.kept.observations hs

-- in the next n seconds of a device in this flat state nothing is sent for an observation, and none is removed
abbrev pub IsQuietFor : Machine → ℕ → Type 0
IsQuietFor f n =
    (clock : ℕ) → f.kept.clock < clock → clock ≤ f.kept.clock + n
    → second f.kept.client clock f.kept.next_id f.kept.observations ≡ quiet_sweep f.kept.next_id f.kept.observations

-- those of a tick stand after the ones that were told before
abbrev pub Tells : Machine → ℕ → List Happening → List Happening → Type 0
Tells f n before after = (here : List Happening) × AreTickHappenings f n here × (after ≡ before ++ here)
