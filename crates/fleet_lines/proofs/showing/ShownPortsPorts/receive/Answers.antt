use Rattle.fleet_lines.proofs.Through.{shows_heard, shows_silent}
use Rattle.fleet_lines.proofs.showing.ShownPortsPorts.receive.Goals as goal

pub invariant_of-self : goal.invariant_of-self
invariant_of-self g c =
    let s = c.args.self.now in
    record {
      shows = shows_silent (g.P.Ports.told s.began.value) (g.P.Ports.told s.ports) (g.P.Ports.told c.receive.new.self)
          s.tape c.in-Err.ensures.told s.shows;
    }

pub invariant_of-self-in-Ok : goal.invariant_of-self-in-Ok
invariant_of-self-in-Ok g c =
    let s = c.args.self.now in
    record {
      shows = shows_heard (g.P.Ports.told s.began.value) (g.P.Ports.told s.ports) (g.P.Ports.told c.receive.new.self)
          s.tape c.hear.new.self c.args.second c.in-Ok.receipt c.hear.result c.hear.ensures.taken
          c.hear.ensures.shown c.hear.ensures.whole c.hear.ensures.broken c.in-Ok.ensures.told s.shows;
    }
