-- The reason of the observation at a place, by its turn and by what was last said of it.
use Rattle.std.proofs.Common.{◌≡◌, ℕ, List, Option, None, Some, slice_get, sym, ap, ◌∙◌}
use Rattle.std.specs.Option.{option_map}
use Rattle.notifier.specs.Resending.{turn_at}
use Rattle.notifier.specs.declared.observation.Observation.{Observation}
use Rattle.notifier.specs.declared.pending.Outlook.{Outlook}
use Rattle.notifier.specs.declared.turn.Turn.TheVariants.{Evaluate, Wait, Resend, Expire}
use Rattle.device_requests.specs.Client.{Client}
use Rattle.device_notifications.specs.Outlooks.{outlooks_of}
use Rattle.device_notifications.specs.Second.{age_of}
use Rattle.device_notifications.proofs.Deeding.{outlook_is, turn_is}
use Rattle.notification_reasons.specs.Finding.{reason_at, reason_by, reason_in, resent_reason, trigger_of}
use Rattle.notification_reasons.specs.declared.reasons.NotificationReason.{NotificationReason}
use Rattle.notification_reasons.specs.declared.reasons.NotificationReason.TheVariants.{Unacknowledged}

some_same : {X : Type 0} (x y : X) → Some x ≡ Some y → x ≡ y
some_same x y h = cc

pub evaluated_is : (client : Client) (os : List Observation) (said : List Outlook) (place clock : ℕ) (o p : Observation)
    (s : Outlook) (found : Option NotificationReason)
    → said ≡ outlooks_of client os → slice_get os place ≡ Some o → Some p ≡ slice_get os place
    → option_map (λ x. turn_at x clock) (slice_get os place) ≡ Some Evaluate → slice_get said place ≡ Some s
    → found ≡ reason_by s (trigger_of client p) (age_of clock p) → found ≡ reason_at client clock o
evaluated_is client os said place clock o p s found known at here turn h is =
    let same = some_same p o (here ∙ at) in
    is ∙ (λ i. reason_by (outlook_is client os said place o s known at h i) (trigger_of client (same i))
    (age_of clock (same i)))
    ∙ ap (reason_in client clock o) (sym (turn_is os place clock o Evaluate at turn))

pub resent_is : (client : Client) (os : List Observation) (place clock : ℕ) (o p : Observation)
    (found : Option NotificationReason) → slice_get os place ≡ Some o → Some p ≡ slice_get os place
    → option_map (λ x. turn_at x clock) (slice_get os place) ≡ Some Resend
    → found ≡ resent_reason p.timer (age_of clock p) → found ≡ reason_at client clock o
resent_is client os place clock o p found at here turn is =
    let same = some_same p o (here ∙ at) in
    is ∙ (λ i. resent_reason (same i).timer (age_of clock (same i)))
    ∙ ap (reason_in client clock o) (sym (turn_is os place clock o Resend at turn))

pub given_up_is : (client : Client) (os : List Observation) (place clock : ℕ) (o p : Observation)
    (found : Option NotificationReason) → slice_get os place ≡ Some o → Some p ≡ slice_get os place
    → option_map (λ x. turn_at x clock) (slice_get os place) ≡ Some Expire
    → found ≡ Some (Unacknowledged (age_of clock p)) → found ≡ reason_at client clock o
given_up_is client os place clock o p found at here turn is =
    let same = some_same p o (here ∙ at) in
    is ∙ (λ i. Some (Unacknowledged (age_of clock (same i))))
    ∙ ap (reason_in client clock o) (sym (turn_is os place clock o Expire at turn))

pub waits_is : (client : Client) (os : List Observation) (place clock : ℕ) (o : Observation)
    → slice_get os place ≡ Some o → option_map (λ x. turn_at x clock) (slice_get os place) ≡ Some Wait
    → None ≡ reason_at client clock o
waits_is client os place clock o at turn =
    ap (reason_in client clock o) (sym (turn_is os place clock o Wait at turn))
