use Rattle.std.proofs.Common.{ap, ◌∙◌}
use Rattle.fleet_core.specs.Waiting.{waiting_devices}
use Rattle.fleet_workers.specs.declared.fleet.FleetEnd.TheVariants as ends
use Rattle.fleet_workers.proofs.Ending.{fleet_run}
use Rattle.fleet_workers.proofs.fleet.stalled_run.Goals as goal

pub returns-in-Ok-clause-run : goal.returns-in-Ok-clause-run
returns-in-Ok-clause-run c = λ workers by.
    let s = c.args.scenario.now in
    fleet_run s workers c.args.entries (ends.Stalled c.in-Ok.devices) by c.requires.stalled.complete (record {
      exactly = c.in-Ok.ensures ∙ ap (waiting_devices s) c.as_slice.ensures;
      device = c.requires.stalled.device;
      waits = c.requires.stalled.waits;
    })
