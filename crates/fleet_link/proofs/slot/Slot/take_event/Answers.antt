use Rattle.std.proofs.Common.{ap, ◌∙◌, Some, rules}
use Rattle.live_link.specs.Live.{packets_in}
use Rattle.fleet_link.specs.Serving.{IsServing}
use Rattle.fleet_link.proofs.Recordings.{recorded_on}
use Rattle.fleet_link.proofs.Served.{step_refused, step_served}
use Rattle.fleet_link.proofs.Told.{at_port_same, carries_same}
use Rattle.fleet_link.proofs.slot.Slot.take_event.Goals as goal

pub returns-clause-served : goal.returns-clause-served
returns-clause-served g c =
    let gone = packets_in c.as_slice.result.now in
    λ f before rest changes live h.
    step_served f before rest c.args.self.now.device c.react.new.self.device c.args.self.now.second
    c.args.self.now.recording c.note.new.self (g.P.Ports.told c.args.ports.now c.args.place)
    (g.P.Ports.told c.send_all.new.ports c.args.place) c.args.event gone changes h live c.in_ok-outputs.ensures.shows
    (λ m k. ap packets_in (c.as_slice.ensures ∙ c.in_ok-outputs.ensures.output m k))
    (carries_same _ _ _ _ (c.send_all.ensures.told c.args.place) (at_port_same c.args.place _))
    (λ steps k. c.note.ensures.recorded steps (recorded_on c.args.self.now.recording c.react.new.self.recording steps
    (record { steps = c.react.ensures.recorded; share = c.react.ensures.share; left = c.react.ensures.left })
    c.react.ensures.complete k))

pub returns-in_err-outputs-clause-refused : goal.returns-in_err-outputs-clause-refused
returns-in_err-outputs-clause-refused g c =
    let end = c.in_err-outputs.field-0.0 in
    λ f before pending changes live h.
    let refused : IsServing f before pending changes (Some end) c.react.new.self.device c.args.self.now.second
    c.react.new.self.recording (g.P.Ports.told c.args.ports.now c.args.place) =
    step_refused end f before pending c.args.self.now.device c.react.new.self.device c.args.self.now.second
    c.args.self.now.recording c.react.new.self.recording (g.P.Ports.told c.args.ports.now c.args.place) c.args.event
    changes h live c.in_err-outputs.ensures.refused
    (record { steps = c.react.ensures.recorded; share = c.react.ensures.share; left = c.react.ensures.left })
    c.react.ensures.complete in
    search (rules, refused)
