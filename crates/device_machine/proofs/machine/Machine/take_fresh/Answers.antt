-- The device is as the answer and what is noted leave it, and replies with both.
use Rattle.std.proofs.Common.{◌&&◌, ℕ, List, IfOk, find, refl, ap, subst, sym, ◌∙◌}
use Rattle.notifier.specs.declared.observation.Observation.{Observation}
use Rattle.device_requests.specs.Answer.{is_change}
use Rattle.device_requests.specs.Client.{Client}
use Rattle.device_requests.specs.Request.{outcome_of}
use Rattle.device_requests.specs.Ruling.{code_of}
use Rattle.device_requests.specs.declared.answer.Answer.{Answer}
use Rattle.device_requests.proofs.Unchanged.{unchanged}
use Rattle.device_machine.specs.Asked.{message_with}
use Rattle.device_machine.specs.Observing.{Notes, noted_by}
use Rattle.device_machine.specs.Reactions.{Gives, is_same, on_outcome, repeat_of}
use Rattle.device_machine.specs.Held.{IsUpToDate, StateWithOutlooks}
use Rattle.device_machine.specs.State.{DeviceState, Machine, is_live}
use Rattle.device_machine.proofs.Places.{replied_to, taken}
use Rattle.device_machine.proofs.Settling.{known_after}
use Rattle.device_machine.proofs.machine.Machine.take_fresh.Goals as goal

abbrev kept_with : Client → List Observation → ℕ → ℕ → DeviceState
kept_with client os clock next_id =
    record { client = client; observations = os; clock = clock; next_id = next_id }

pub note-requires : goal.note-requires
note-requires c =
    let client = c.self.inside.client in
    let code = c.code.result in
    let leaves = c.in_ok-handled.ensures.outcome in
    known_after (is_change code) client c.answer.new.self c.self.inside.observations c.say_after.new.observations
    (subst IsUpToDate (sym c.self.view_is) c.requires.up_to_date)
    (λ h. leaves.then_client ∙ unchanged client c.args.server c.args.message.now
    (ap (λ (a : Answer). is_change (code_of a.ruling)) (sym leaves.says) ∙ ap is_change (sym c.code.ensures) ∙ h))
    c.in_ok-say_after.ensures.known c.say_after.ensures.same

pub returns-clause-gives : goal.returns-clause-gives
returns-clause-gives c =
    let server = c.args.server in
    let m = c.args.message.now in
    subst (λ (f : Machine). IfOk c.reply.result (λ o. Gives o c.reply.new.self.flat
    (on_outcome f server m (outcome_of f.kept.client server m))))
    (ap (λ (h : StateWithOutlooks). h.flat) c.self.view_is)
    (subst (λ r. IfOk c.reply.result (λ o. Gives o c.reply.new.self.flat r))
    (replied_to c.note.new.self.flat server m c.asked_by-asked.result.kind c.asked_by-asked.result.mid
    c.asked_by-asked.result.token.now
    c.in_ok-handled.handled.is_rejected c.in_ok-number.number c.in_ok-handled.handled.answer
    c.asked_by-asked.ensures.kind c.asked_by-asked.ensures.mid c.asked_by-asked.ensures.token
    c.in_ok-handled.ensures.rejected
    ∙ taken _ c.note.new.self.flat server m c.answer.new.self c.in_ok-handled.handled.answer
    c.in_ok-handled.handled.interest
    c.in_ok-number.number _ c.in_ok-handled.handled.answer.act
    c.in_ok-handled.ensures.outcome c.in_ok-handled.ensures.interest
    (subst (λ os. Notes c.in_ok-number.number (kept_with c.answer.new.self os c.self.inside.clock c.self.inside.next_id)
    c.note.new.self.flat.kept (noted_by (kept_with c.answer.new.self os c.self.inside.clock c.self.inside.next_id)
    server m c.in_ok-handled.handled.answer c.in_ok-handled.handled.interest)) c.say_after.ensures.list
    c.in_ok-number.ensures.kept)
    c.in_ok-number.ensures.recorded
    refl refl)
    c.reply.ensures.gives)

pub reply-requires-clause-fresh : goal.reply-requires-clause-fresh
reply-requires-clause-fresh c =
    let server = c.args.server in
    let m = c.args.message.now in
    let clock = ap (λ (k : DeviceState). k.clock) c.in_ok-number.ensures.kept.kept_is in
    (λ j. find (λ r. is_live c.note.new.self.flat.kept.clock r && is_same server
    (message_with (c.asked_by-asked.ensures.kind j) (c.asked_by-asked.ensures.mid j)
    (c.asked_by-asked.ensures.token j)) r)
    c.note.new.self.flat.recorded)
    ∙ (λ j. find (λ r. is_live (clock j) r && is_same server m r) (c.in_ok-number.ensures.recorded j))
    ∙ ap (λ (h : StateWithOutlooks). repeat_of h.flat server m) c.self.view_is
    ∙ c.requires.fresh
