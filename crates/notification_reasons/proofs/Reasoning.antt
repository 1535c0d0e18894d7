-- An observation has a reason where it does something, and no two.
use Rattle.std.proofs.Common.{◌≡◌, ◌≢◌, ℕ, inl, inr, [], ◌∷◌, Option, None, Some, sym, ap, subst, ◌∙◌}
use Rattle.std.specs.Option.{MatchOption}
use Rattle.notifier.specs.declared.observation.Observation.{Observation}
use Rattle.device_requests.specs.Client.{Client}
use Rattle.device_notifications.specs.Second.{Sweep, quiet_sweep, turn_of}
use Rattle.notification_reasons.specs.Finding.{reason_at}
use Rattle.notification_reasons.specs.Laws.{DoesFor, ReasonsAreForDoing, ReasonsAreSingle, ReasonsSayWhatIsDone}
use Rattle.notification_reasons.specs.Reasons.{DoesNothing, IsNotificationReason}
use Rattle.notification_reasons.specs.declared.reasons.NotificationReason.{NotificationReason}
use Rattle.notification_reasons.proofs.Found.{alone, told}

-- nothing is done, or what is done for this reason
abbrev pub IsTold : Client → ℕ → Observation → Option NotificationReason → Type 0
IsTold client clock o found =
    MatchOption found (DoesNothing client clock o)
    (λ r. IsNotificationReason client clock o r × ((next_id : ℕ) → DoesFor r (turn_of client clock next_id o)))

does_for : (client : Client) (clock next_id : ℕ) (o : Observation) (found : Option NotificationReason)
    → IsTold client clock o found
    → turn_of client clock next_id o ≢ quiet_sweep next_id (o ∷ [])
    → (reason : NotificationReason) × IsNotificationReason client clock o reason
does_for client clock next_id o None h some = absurd (some (h next_id))
does_for client clock next_id o (Some r) h some = (r, h.0)

-- what is told of an observation for which there is a reason
told_of : (client : Client) (clock : ℕ) (o : Observation) (found : Option NotificationReason) (r : NotificationReason)
    → IsTold client clock o found
    → found ≡ Some r → (next_id : ℕ) → DoesFor r (turn_of client clock next_id o)
told_of client clock o None r h is next_id = absurd cc
told_of client clock o (Some s) r h is next_id =
    let same : s ≡ r = cc in subst (λ x. DoesFor x (turn_of client clock next_id o)) same (h.1 next_id)

pub say_what_is_done : ReasonsSayWhatIsDone
say_what_is_done client clock next_id o reason h =
    told_of client clock o (reason_at client clock o) reason (told client clock o) (alone client clock o reason h)
    next_id

-- what is done for a reason is something
not_quiet : (r : NotificationReason) (t : Sweep) (next_id : ℕ) (o : Observation) → DoesFor r t
    → t ≡ quiet_sweep next_id (o ∷ []) → ⊥
not_quiet r t next_id o (inl h) quiet =
    let e : h.1 ∷ [] ≡ [] = sym h.2 ∙ ap (λ (x : Sweep). x.sent) quiet in cc
not_quiet r t next_id o (inr h) quiet =
    let e : [] ≡ o ∷ [] = sym h.2 ∙ ap (λ (x : Sweep). x.left) quiet in cc

pub for_doing : ReasonsAreForDoing
for_doing client clock next_id o = (
  does_for client clock next_id o (reason_at client clock o) (told client clock o),
  λ h quiet. not_quiet h.0 (turn_of client clock next_id o) next_id o
      (say_what_is_done client clock next_id o h.0 h.1) quiet,
)

pub single : ReasonsAreSingle
single client clock o a b p q =
    let same : Some a ≡ Some b = sym (alone client clock o a p) ∙ alone client clock o b q in cc
