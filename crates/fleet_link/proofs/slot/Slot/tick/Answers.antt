use Rattle.fleet_link.proofs.Stepped.{ticked}
use Rattle.fleet_link.proofs.slot.Slot.tick.Goals as goal

pub returns-clause-served : goal.returns-clause-served
returns-clause-served g c =
    λ f before pending changes h.
    ticked f before pending changes c.take_event.new.self.device c.args.self.now.second c.take_event.new.self.second
    c.args.seconds c.from.result c.take_event.new.self.recording
    (g.P.Ports.told c.take_event.new.ports c.args.place) c.take_event.ensures.second c.from.ensures
    (c.in_ok-take_event.ensures.served f before pending changes (c.requires.some, c.requires.few) h)
