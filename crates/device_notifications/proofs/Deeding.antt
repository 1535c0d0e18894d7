-- What the turn of an observation does to it, by its turn and its evaluation.
use Rattle.std.proofs.Common.{◌≡◌, ℕ, Bool, true, false, List, [], ◌∷◌, ◌++◌, slice_get, Option, None, Some}
use Rattle.std.proofs.Common.{refl, sym, ap, subst, ◌∙◌}
use Rattle.std.proofs.lemmas.List.{append-nil}
use Rattle.std.specs.Bool.{if◌then◌else◌}
use Rattle.std.specs.Option.{option_map, option_to_list}
use Rattle.lemmas.proofs.Lists.{item_mapped}
use Rattle.notifier.specs.Observed.{after_notification}
use Rattle.notifier.specs.Resending.{turn_at}
use Rattle.notifier.specs.declared.observation.Observation.{Observation}
use Rattle.notifier.specs.declared.observation.Report.{Report}
use Rattle.notifier.specs.declared.observation.Timer.{Timer}
use Rattle.notifier.specs.declared.pending.Outlook.{Outlook}
use Rattle.notifier.specs.declared.pending.Pending.TheVariants as pending
use Rattle.notifier.specs.declared.turn.Turn.{Turn}
use Rattle.notifier.specs.declared.turn.Turn.TheVariants.{Wait, Resend, Expire}
use Rattle.coap_codec.specs.declared.kind.Kind.TheVariants.{Non}
use Rattle.device_requests.specs.Answer.{code_byte, is_content}
use Rattle.device_requests.specs.Client.{Client}
use Rattle.device_requests.specs.Ruling.{code_of}
use Rattle.device_requests.specs.declared.answer.Answer.{Answer}
use Rattle.device_notifications.specs.Deeds.{Does}
use Rattle.device_notifications.specs.declared.datagram.Datagram.{Datagram}
use Rattle.device_notifications.specs.declared.deeds.Deed.TheVariants.{Stays, Notified, Goes}
use Rattle.device_notifications.specs.declared.evaluation.Evaluation.TheVariants.{Quiet, Sends, Gone}
use Rattle.device_notifications.specs.Message.{datagram_of, open_notification}
use Rattle.device_notifications.specs.Outbox.{Outbox, after_post}
use Rattle.device_notifications.specs.Outlooks.{content_outlook, outlook_of, outlook_with, outlooks_of}
use Rattle.device_notifications.specs.Report.{report_of}
use Rattle.device_notifications.specs.Second.{Sweep, after_next_notification, evaluation_of, is_due_now}
use Rattle.device_notifications.specs.Second.{next_notification, present_answer, quiet_sweep, timer_of, turn_as}
use Rattle.device_notifications.specs.Second.{turn_by, turn_of, turn_of_evaluated}

some_turn : (t u : Turn) → Some t ≡ Some u → t ≡ u
some_turn t u h = cc

-- what is said of the observation at a place
pub turn_is : (os : List Observation) (place clock : ℕ) (o : Observation) (t : Turn) → slice_get os place ≡ Some o
    → option_map (λ x. turn_at x clock) (slice_get os place) ≡ Some t → turn_at o clock ≡ t
turn_is os place clock o t at is =
    some_turn (turn_at o clock) t (ap (λ x. option_map (λ y. turn_at y clock) x) (sym at) ∙ is)

some_outlook : (s r : Outlook) → Some s ≡ Some r → s ≡ r
some_outlook s r h = cc

pub outlook_is : (client : Client) (os : List Observation) (said : List Outlook) (place : ℕ) (o : Observation)
    (s : Outlook)
    → said ≡ outlooks_of client os → slice_get os place ≡ Some o → slice_get said place ≡ Some s
    → s ≡ outlook_of client o
outlook_is client os said place o s known at is =
    some_outlook s (outlook_of client o)
    (sym is ∙ ap (λ xs. slice_get xs place) known ∙ item_mapped (outlook_of client) os place o at)

-- a turn that does nothing
does_still : (client : Client) (clock : ℕ) (o : Observation) (t : Sweep) (now : Outbox)
    → quiet_sweep now.next_id (o ∷ []) ≡ t
    → Does client clock o t Stays now now
does_still client clock o t now is =
    subst (λ s. Does client clock o s Stays now now) is
    (record { sent = sym (append-nil now.sent); next_id = refl; left = refl; said = refl })

-- ---- an evaluation

pub does_quiet : (client : Client) (clock : ℕ) (o : Observation) (now : Outbox) → Quiet ≡ evaluation_of client clock o
    → Does client clock o (turn_of_evaluated client clock now.next_id o) Stays now now
does_quiet client clock o now is =
    does_still client clock o (turn_of_evaluated client clock now.next_id o) now
    (ap (λ v. turn_by client clock now.next_id o v) is)

sent_is : (c d : Bool) (a answer : Answer) → Sends answer ≡ (if c then (if d then Sends a else Quiet) else Gone a)
    → (c ≡ true) × (answer ≡ a)
sent_is true true a answer h = let same : answer ≡ a = cc in (refl, same)
sent_is true false a answer h = cc
sent_is false d a answer h = cc

-- what is said of an observation that was notified of its present answer, which is content
said_then : (client : Client) (o new : Observation) (outlook : Outlook)
    → present_answer client new ≡ present_answer client o
    → new.server ≡ o.server → new.path ≡ o.path → is_content (present_answer client o) ≡ true
    → new.report.payload ≡ (present_answer client o).payload
    → outlook ≡ content_outlook client o.server o.path new.report new.report.payload
    → outlook ≡ outlook_of client new
said_then client o new outlook same server path content payload is =
    is ∙ (λ j. content_outlook client (sym server j) (sym path j) new.report
    ((payload ∙ ap (λ (a : Answer). a.payload) (sym same)) j))
    ∙ ap (λ b. if b then content_outlook client new.server new.path new.report (present_answer client new).payload
    else outlook_with client new.server new.path
    (pending.Gone (code_byte (code_of (present_answer client new).ruling))))
    (sym (ap is_content same ∙ content))

pub does_send : (client : Client) (clock : ℕ) (o : Observation) (now after : Outbox) (answer : Answer) (d : Datagram)
    (timer : Option Timer) (report : Report) (outlook : Outlook) (mid : ℕ)
    → Sends answer ≡ evaluation_of client clock o
    → mid ≡ now.next_id
    → d ≡ next_notification client mid o answer → timer ≡ timer_of client d.bytes
    → report ≡ report_of client o.path answer.payload
    → outlook ≡ content_outlook client o.server o.path report report.payload
    → after ≡ after_post now d
    → Does client clock o (turn_of_evaluated client clock now.next_id o) (Notified mid report timer outlook) now after
does_send client clock o now after answer d timer report outlook mid is same_mid message opens reports outlook_is
    then_after =
    let id = now.next_id in
    let new = after_next_notification client clock id o answer in
    let message_is : d ≡ next_notification client id o answer =
    message ∙ ap (λ n. next_notification client n o answer) same_mid in
    let opens_it : timer ≡ timer_of client (next_notification client id o answer).bytes =
    opens ∙ ap (λ (x : Datagram). timer_of client x.bytes) message_is in
    let content = sent_is (is_content (present_answer client o))
    (is_due_now client clock o (present_answer client o).payload)
    (present_answer client o) answer is in
    let left_is : after_notification clock mid report timer o ≡ new =
    (λ j. after_notification clock (same_mid j) (reports j) (opens_it j) o) in
    let said_is : outlook ≡ outlook_of client new =
    said_then client o new outlook refl refl refl content.0 (ap (λ (a : Answer). a.payload) content.1)
    (outlook_is ∙ ap (λ (r : Report). content_outlook client o.server o.path r r.payload) reports) in
    subst (λ v. Does client clock o (turn_by client clock id o v) (Notified mid report timer outlook) now after) is
    (record {
      sent = ap (λ b. b.sent) then_after ∙ ap (λ x. now.sent ++ x ∷ []) message_is;
      next_id = ap (λ b. b.next_id) then_after;
      left = ap (λ x. x ∷ []) left_is;
      said = ap (λ x. x ∷ []) said_is;
    })

pub does_end : (client : Client) (clock : ℕ) (o : Observation) (now after : Outbox) (answer : Answer) (d : Datagram)
    (mid : ℕ)
    → Gone answer ≡ evaluation_of client clock o
    → mid ≡ now.next_id → d ≡ datagram_of Non o mid None answer
    → after ≡ after_post now d
    → Does client clock o (turn_of_evaluated client clock now.next_id o) Goes now after
does_end client clock o now after answer d mid is same_mid message then_after =
    let message_is : d ≡ datagram_of Non o now.next_id None answer =
    message ∙ ap (λ n. datagram_of Non o n None answer) same_mid in
    subst (λ v. Does client clock o (turn_by client clock now.next_id o v) Goes now after) is
    (record {
      sent = ap (λ b. b.sent) then_after ∙ ap (λ x. now.sent ++ x ∷ []) message_is;
      next_id = ap (λ b. b.next_id) then_after;
      left = refl;
      said = refl;
    })

-- ---- a turn

pub does_waiting : (client : Client) (clock : ℕ) (o : Observation) (now : Outbox) → turn_at o clock ≡ Wait
    → Does client clock o (turn_of client clock now.next_id o) Stays now now
does_waiting client clock o now is =
    does_still client clock o (turn_of client clock now.next_id o) now
    (ap (λ t. turn_as client clock now.next_id o t) (sym is))

pub does_resending : (client : Client) (clock : ℕ) (o : Observation) (now after : Outbox) → turn_at o clock ≡ Resend
    → after.sent ≡ now.sent ++ option_to_list (open_notification o) → after.next_id ≡ now.next_id
    → Does client clock o (turn_of client clock now.next_id o) Stays now after
does_resending client clock o now after is sent ids =
    subst (λ t. Does client clock o (turn_as client clock now.next_id o t) Stays now after) (sym is)
    (record { sent = sent; next_id = ids; left = refl; said = refl })

pub does_expire : (client : Client) (clock : ℕ) (o : Observation) (now : Outbox) → turn_at o clock ≡ Expire
    → Does client clock o (turn_of client clock now.next_id o) Goes now now
does_expire client clock o now is =
    subst (λ t. Does client clock o (turn_as client clock now.next_id o t) Goes now now) (sym is)
    (record { sent = sym (append-nil now.sent); next_id = refl; left = refl; said = refl })
