use Rattle.fleet_lines.proofs.Through.{shows_taken}
use Rattle.fleet_lines.proofs.shown_ports.ShownPorts.take_shown.Goals as goal

pub invariant_of-self : goal.invariant_of-self
invariant_of-self g c =
    let s = c.args.self.now in
    record {
      shows = shows_taken (g.P.Ports.told s.began.value) (g.P.Ports.told s.ports) s.tape c.take.new.self
          c.take.result.items c.take.ensures.shown c.take.ensures.left c.take.ensures.taken c.take.ensures.whole
          s.shows;
    }
