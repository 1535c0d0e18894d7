-- What is ignored for its header gets nothing, and only what is copied or claims to be confirmable takes memory.
use Rattle.std.proofs.Common.{◌≡◌, ◌<◌, ◌∙◌, Err, true, ap, arith, refl, subst, sym}
use Rattle.std.proofs.lemmas.List.Elements.{All-from_get_or}
use Rattle.std.proofs.lemmas.Result.{on_err_weaker}
use Rattle.std.proofs.lemmas.Bool.{and_from}
use Rattle.device_requests.specs.Client.{has_account}
use Rattle.device_machine.specs.Memory.{datagram_takes_memory, message_takes_memory}
use Rattle.device_machine.specs.Reactions.{Gives}
use Rattle.device_machine.specs.Held.{StateWithOutlooks}
use Rattle.device_machine.proofs.Copying.{grows_taken, grows_wanting, ignored}
use Rattle.device_machine.proofs.machine.Machine.receive_any.Goals as goal

pub returns-then-is_ignored-clause-gives : goal.returns-then-is_ignored-clause-gives
returns-then-is_ignored-clause-gives c =
    subst (λ r. Gives c.none-then-is_ignored.result c.args.self.now.flat r)
    (sym (ignored c.args.self.now.flat c.args.server c.args.bytes.now
    (All-from_get_or (λ b. b < 256) c.args.bytes.now 0 (λ i h. omega (arith, c.type_inv.bytes i)))
    (sym c.is_ignored.ensures ∙ c.if-is_ignored.true)))
    (record { sent = c.none-then-is_ignored.ensures; then_flat = refl })

pub returns-in-Ok-clause-may_lack_memory : goal.returns-in-Ok-clause-may_lack_memory
returns-in-Ok-clause-may_lack_memory c =
    on_err_weaker c.take_owned.result
    (λ g. and_from (has_account c.args.self.now.flat.kept.client c.args.server) (datagram_takes_memory c.args.bytes.now)
    (ap (λ (h : StateWithOutlooks). has_account h.flat.kept.client c.args.server) (sym c.self.view_is)
    ∙ sym c.has_account.ensures
    ∙ c.if-not-has_account.false)
    (grows_taken c.args.self.now.flat c.args.server c.args.bytes.now c.in-Ok.message c.in-Ok.ensures.found
    c.in-Ok.ensures.early
    (subst (λ (h : StateWithOutlooks). message_takes_memory h.flat c.args.server c.in-Ok.message c.in-Ok.message.kind
    ≡ true)
    c.self.view_is g)))
    c.take_owned.ensures.may_lack_memory

pub returns-in-Err-Memory-clause-may_lack_memory : goal.returns-in-Err-Memory-clause-may_lack_memory
returns-in-Err-Memory-clause-may_lack_memory c =
    and_from (has_account c.args.self.now.flat.kept.client c.args.server) (datagram_takes_memory c.args.bytes.now)
    (ap (λ (h : StateWithOutlooks). has_account h.flat.kept.client c.args.server) (sym c.self.view_is)
    ∙ sym c.has_account.ensures
    ∙ c.if-not-has_account.false)
    (grows_wanting c.args.bytes.now (Err c.in-Err-Memory.field-0) c.in-Err-Memory.ensures.early
    c.in-Err-Memory.ensures.empty (sym c.is_ignored.ensures ∙ c.if-is_ignored.false)
    (ap Err c.in-Err-Memory.field-0-is))
