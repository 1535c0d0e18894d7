use Rattle.std.proofs.Common.{None, subst, sym}
use Rattle.notifier.specs.declared.observation.Observation.{Observation}
use Rattle.device_notifications.specs.Outlooks.{IsKnownBut}
use Rattle.device_machine.proofs.Settling.{known_but, known_registered}
use Rattle.device_machine.proofs.machine.notes.enter.Goals as goal

pub returns-in-Err-Full-clause-known : goal.returns-in-Err-Full-clause-known
returns-in-Err-Full-clause-known c =
    λ client known. subst (IsKnownBut c.args.server c.args.token client) (sym c.in-Err-Full.ensures.unchanged)
    (known_but c.args.server c.args.token client c.args.observations.now known)

pub returns-clause-known : goal.returns-clause-known
returns-clause-known c =
    let new : Observation = record {
      server = c.args.server;
      token = c.args.token;
      path = c.args.path;
      accept = c.args.accept;
      report = c.args.report;
      second = c.args.second;
      number = 0;
      non = c.args.non;
      mid = c.args.mid;
      timer = None;
    } in
    λ client known. known_registered client new c.args.observations.now c.register.new.self known c.in-Ok.ensures.ok
    c.in-Ok.ensures.said
