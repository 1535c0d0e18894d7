use Rattle.fleet_lines.proofs.Through.{shows_silent}
use Rattle.fleet_lines.proofs.showing.ShownPortsPorts.wait.Goals as goal

pub invariant_of-self : goal.invariant_of-self
invariant_of-self g c =
    let s = c.args.self.now in
    record {
      shows = shows_silent (g.P.Ports.told s.began.value) (g.P.Ports.told s.ports) (g.P.Ports.told c.wait.new.self)
          s.tape c.wait.ensures.told s.shows;
    }
