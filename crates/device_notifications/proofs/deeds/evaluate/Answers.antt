use Rattle.std.proofs.Common.{◌≡◌, Some, ap, subst, sym, ◌∙◌}
use Rattle.notifier.specs.Due.{is_due_at}
use Rattle.notifier.specs.declared.observation.Observation.{Observation}
use Rattle.device_notifications.specs.Deeds.{Does}
use Rattle.device_notifications.specs.declared.deeds.Deed.TheVariants.{Stays, Notified, Goes}
use Rattle.device_notifications.specs.Outlooks.{content_outlook}
use Rattle.device_notifications.specs.Second.{turn_of_evaluated}
use Rattle.device_notifications.proofs.Deeding.{does_end, does_quiet, does_send, outlook_is}
use Rattle.device_notifications.proofs.Resting.{is_quiet}
use Rattle.device_notifications.proofs.deeds.evaluate.Goals as goal

some_same : (a b : Observation) → Some a ≡ Some b → a ≡ b
some_same a b h = cc

pub returns-then-not-is_due : goal.returns-then-not-is_due
returns-then-not-is_due c =
    let client = c.args.client.now in
    let clock = c.args.clock in
    let box = c.args.outbox.now in
    let here = c.in-Some.observation.now in
    let known = outlook_is client c.args.observations.now.list c.args.observations.now.said c.args.place here
    c.outlook-said.result c.requires.known (sym c.in-Some.ensures.value) c.outlook-said.ensures in
    λ o at.
    subst (λ x. Does client clock x (turn_of_evaluated client clock box.next_id x) Stays box box)
    (some_same here o (c.in-Some.ensures.value ∙ at))
    (does_quiet client clock here box (sym (is_quiet client clock here
    (ap (λ s. is_due_at here.second s clock) (sym known) ∙ sym c.is_due.ensures ∙ c.if-not-is_due.true))))

pub judge-requires : goal.judge-requires
judge-requires c =
    let client = c.args.client.now in
    let here = c.in-Some.observation.now in
    let known = outlook_is client c.args.observations.now.list c.args.observations.now.said c.args.place here
    c.outlook-said.result c.requires.known (sym c.in-Some.ensures.value) c.outlook-said.ensures in
    ap (λ s. is_due_at here.second s c.args.clock) (sym known) ∙ sym c.is_due.ensures ∙ c.if-not-is_due.false

pub returns-in-Quiet : goal.returns-in-Quiet
returns-in-Quiet c =
    let client = c.args.client.now in
    let clock = c.args.clock in
    let box = c.args.outbox.now in
    let here = c.in-Some.observation.now in
    λ o at.
    subst (λ x. Does client clock x (turn_of_evaluated client clock box.next_id x) Stays box box)
    (some_same here o (c.in-Some.ensures.value ∙ at))
    (does_quiet client clock here box (sym c.in-Quiet.is ∙ c.in_ok-judge.ensures))

pub returns-in_ok-post-in-Sends : goal.returns-in_ok-post-in-Sends
returns-in_ok-post-in-Sends c =
    let client = c.args.client.now in
    let clock = c.args.clock in
    let box = c.args.outbox.now in
    let here = c.in-Some.observation.now in
    let report = c.report_of-report.result in
    λ o at.
    subst (λ x. Does client clock x (turn_of_evaluated client clock box.next_id x)
    (Notified c.next_id-mid.result report c.in_ok-timer-in-Sends.timer c.content_outlook-outlook.result) box
    c.post.new.self)
    (some_same here o (c.in-Some.ensures.value ∙ at))
    (does_send client clock here box c.post.new.self c.in-Sends.answer c.in_ok-datagram-in-Sends.datagram
    c.in_ok-timer-in-Sends.timer report c.content_outlook-outlook.result c.next_id-mid.result
    (sym c.in-Sends.is ∙ c.in_ok-judge.ensures) c.next_id-mid.ensures c.in_ok-datagram-in-Sends.ensures
    c.in_ok-timer-in-Sends.ensures.timer c.report_of-report.ensures
    (c.content_outlook-outlook.ensures
    ∙ ap (λ payload. content_outlook client here.server here.path report payload) c.as_slice-payload.ensures)
    c.in_ok-post-in-Sends.ensures.posted)

pub returns-in_ok-post-in-Gone : goal.returns-in_ok-post-in-Gone
returns-in_ok-post-in-Gone c =
    let client = c.args.client.now in
    let clock = c.args.clock in
    let box = c.args.outbox.now in
    let here = c.in-Some.observation.now in
    λ o at.
    subst (λ x. Does client clock x (turn_of_evaluated client clock box.next_id x) Goes box c.post-in-Gone.new.self)
    (some_same here o (c.in-Some.ensures.value ∙ at))
    (does_end client clock here box c.post-in-Gone.new.self c.in-Gone.answer c.in_ok-datagram_of-in-Gone.field-0
    c.next_id-mid.result (sym c.in-Gone.is ∙ c.in_ok-judge.ensures) c.next_id-mid.ensures
    c.in_ok-datagram_of-in-Gone.ensures c.in_ok-post-in-Gone.ensures.posted)
