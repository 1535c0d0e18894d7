use Rattle.fleet_link.proofs.Noted.{sent_more}
use Rattle.fleet_link.proofs.memory.ScriptedPortsPorts.send.Goals as goal

pub returns-in-Ok-clause-told : goal.returns-in-Ok-clause-told
returns-in-Ok-clause-told c =
    sent_more c.args.self.now c.note_sent.new.self
    (record { device = c.args.device; packet = record { server = c.args.server; bytes = c.args.bytes.now } })
    c.in-Ok.ensures.noted c.note_sent.ensures.calls c.note_sent.ensures.whole
