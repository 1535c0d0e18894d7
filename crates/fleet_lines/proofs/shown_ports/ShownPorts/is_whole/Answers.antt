use Rattle.fleet_lines.proofs.Through.{shows_whole}
use Rattle.fleet_lines.proofs.shown_ports.ShownPorts.is_whole.Goals as goal

pub returns-clause-shown : goal.returns-clause-shown
returns-clause-shown g c =
    λ whole.
    let s = c.args.self.now in
    shows_whole (g.P.Ports.told s.began.value) (g.P.Ports.told s.ports) s.tape whole s.shows
