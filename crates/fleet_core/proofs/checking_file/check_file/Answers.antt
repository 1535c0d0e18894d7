use Rattle.std.proofs.Common.{◌≡◌, ap, ◌∙◌}
use Rattle.fleet_core.specs.Board.{FleetModel}
use Rattle.fleet_core.specs.Past.{past_entries}
use Rattle.fleet_core.proofs.Judged.{verdict_is, verdict_on}
use Rattle.fleet_core.proofs.checking_file.check_file.Goals as goal

pub returns-clause-only : goal.returns-clause-only
returns-clause-only c = λ es h.
    let t = c.take_file.new.taker in
    let told = c.in_ok-take_file.ensures in
    let same : t.replay.scenario ≡ c.args.scenario.now =
    told.kept ∙ ap (λ (r : FleetModel). r.scenario) c.in-Ok.ensures in
    verdict_on c.args.scenario.now c.args.bytes.now (past_entries t.past) es t.verdict told.found h
    (verdict_is c.args.scenario.now t.replay (past_entries t.past) t.count t.verdict told.ready same)
