use Rattle.fleet_link.proofs.Stepped.{change_fits, change_pending, change_served, second_refused}
use Rattle.fleet_link.proofs.slot.Slot.change.Goals as goal

pub returns-clause-served : goal.returns-clause-served
returns-clause-served g c =
    λ f before pending changes is h le.
    let mid = c.pass_to.new.self in
    let told = g.P.Ports.told c.pass_to.new.ports c.args.place in
    change_served c.take_event.result f before pending changes c.args.event c.take_event.new.self.device mid.second
    c.take_event.new.self.second c.args.second c.take_event.new.self.recording
    (g.P.Ports.told c.take_event.new.ports c.args.place) is (c.in_ok-pass_to.ensures.second le)
    c.take_event.ensures.second
    (c.take_event.ensures.served f before pending changes (change_fits c.args.event is)
    (change_pending c.args.event mid.second f before pending changes mid.device mid.second mid.recording told is
    (c.in_ok-pass_to.ensures.served f before pending changes h)))

pub returns-clause-refused : goal.returns-clause-refused
returns-clause-refused g c =
    λ f before pending changes is h.
    second_refused c.take_event.result f before pending changes c.take_event.new.self.device c.pass_to.new.self.second
    c.take_event.new.self.second c.take_event.new.self.recording (g.P.Ports.told c.take_event.new.ports c.args.place)
    c.take_event.ensures.second
    (c.take_event.ensures.refused f before pending changes (change_fits c.args.event is)
    (c.in_ok-pass_to.ensures.served f before pending changes h))
