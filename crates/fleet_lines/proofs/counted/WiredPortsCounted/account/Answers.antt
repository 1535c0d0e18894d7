use Rattle.std.proofs.Common.{◌≡◌, rules, true}
use Rattle.fleet_wire.specs.Wire.{near_end, told_by}
use Rattle.fleet_wire.specs.Wired.{carried_under, fixed_on}
use Rattle.fleet_lines.specs.Counting.{PlannedWire}
use Rattle.fleet_lines.proofs.Counting.{wired_account}
use Rattle.fleet_lines.proofs.counted.WiredPortsCounted.account.Goals as goal

pub returns-clause-account : goal.returns-clause-account
returns-clause-account c =
    let ports = c.args.self.now in
    let wired : PlannedWire = record { plan = (fixed_on ports).plan; devices = (fixed_on ports).devices } in
    let whole : c.is_whole.result ≡ true = search (rules, c.if-not-is_whole.false) in
    λ none. wired_account wired (fixed_on ports).taken ports.lossy.wire.notes.items (carried_under ports)
    (near_end ports.lossy.wire) (told_by ports.lossy.wire) c.counts.result c.happened.result none
    c.counts.ensures.counted (c.is_whole.ensures.told whole) (c.is_whole.ensures.over whole) c.happened.ensures
