use Rattle.fleet_lines.proofs.Through.{shows_sent}
use Rattle.fleet_lines.proofs.showing.ShownPortsPorts.send.Goals as goal

pub invariant_of-self : goal.invariant_of-self
invariant_of-self g c =
    let s = c.args.self.now in
    record {
      shows = shows_sent (g.P.Ports.told s.began.value) (g.P.Ports.told s.ports) (g.P.Ports.told c.send-2.new.self)
          s.tape c.send.new.self s.tape.second c.args.device
          (record { server = c.args.server; bytes = c.args.bytes.now }) c.send.ensures.taken c.send.ensures.shown
          c.send.ensures.whole c.send-2.ensures.told s.shows;
    }
