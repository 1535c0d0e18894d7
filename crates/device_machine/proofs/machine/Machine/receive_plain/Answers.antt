-- A plain Read takes memory where its request does, so its datagram is one that may.
use Rattle.std.proofs.Common.{◌<◌, refl, sym, ap, arith, ◌∙◌}
use Rattle.std.proofs.lemmas.Bool.{and_from}
use Rattle.std.proofs.lemmas.List.Elements.{All-from_get_or}
use Rattle.std.proofs.lemmas.Result.{on_err_weaker}
use Rattle.coap_codec.specs.Reading.{reading_of}
use Rattle.device_requests.specs.Client.{has_account}
use Rattle.device_requests.specs.PlainRead.{IsPlainRead}
use Rattle.device_machine.specs.Held.{StateWithOutlooks}
use Rattle.device_machine.specs.Memory.{datagram_takes_memory}
use Rattle.device_machine.proofs.Plain.{of_reading, plain_memory}
use Rattle.device_machine.proofs.machine.Machine.receive_plain.Goals as goal

pub returns-clause-may_lack_memory : goal.returns-clause-may_lack_memory
returns-clause-may_lack_memory c =
    let bytes = c.args._bytes.now in
    let read = c.args.read in
    let server = c.args.server in
    of_reading bytes (λ m. IsPlainRead read.kind read.mid read.token.now read.path m) (reading_of bytes) refl
    c.requires.reads
    (λ m reads is. on_err_weaker c.take_plain.result
    (λ takes. and_from (has_account c.args.self.now.flat.kept.client server) (datagram_takes_memory bytes)
    (ap (λ (h : StateWithOutlooks). has_account h.flat.kept.client server) (sym c.self.view_is)
    ∙ sym c.has_account.ensures
    ∙ c.if-not-has_account.false)
    (plain_memory c.args.self.now.flat server bytes read.kind read.mid read.token.now read.path m
    (All-from_get_or (λ b. b < 256) bytes 0 (λ i h. omega (arith, c.type_inv._bytes i)))
    c.requires.kind reads is takes))
    (c.take_plain.ensures.may_lack_memory m is))
