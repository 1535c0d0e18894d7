use Rattle.std.proofs.Common.{refl, sym}
use Rattle.std.specs.Option.{option_copied}
use Rattle.fleet_core.specs.declared.roster.Roster.{Roster}
use Rattle.fleet_core.proofs.Waking.{AreKnown, passed, none_next, one_next}
use Rattle.fleet_core.proofs.roster.next_turn.Goals as goal
use Rattle.fleet_core.proofs.roster.next_turn.Goals.{After-take}

-- each device is in the queue or blocked, before the lowest is taken out
known_here : (c : After-take)
    → AreKnown c.args.fleet.now.scenario c.args.fleet.now.entries
    (record c.devices.roster { waiting = c.let_wait.new.waiting })
known_here c =
    passed c.args.fleet.now.scenario c.args.fleet.now.entries c.devices.roster
    (record c.devices.roster { waiting = c.let_wait.new.waiting }) c.devices.passed
    (option_copied c.next_step.result) c.devices.invariant.blocked c.devices.invariant.turn c.next_step.ensures
    refl refl refl
    c.in_ok-let_wait.ensures.groups c.in_ok-let_wait.ensures.kept c.in_ok-let_wait.ensures.listed

pub returns-in_default : goal.returns-in_default
returns-in_default c =
    let mid : Roster = record c.devices.roster { waiting = c.let_wait.new.waiting } in
    none_next c.args.fleet.now.scenario c.args.fleet.now.entries mid c.take.new.self
    (known_here (goal.at.returns-in_default c).After-take) c.in_default.ensures

pub returns-then-enabled : goal.returns-then-enabled
returns-then-enabled c =
    let mid : Roster = record c.devices.roster { waiting = c.let_wait.new.waiting } in (
      sym c.if-enabled.ensures.is,
      one_next c.args.fleet.now.scenario c.args.fleet.now.entries mid c.take.new.self c.in-Some.next
          (known_here (goal.at.returns-then-enabled c).After-take) c.in-Some.ensures,
    )

pub devices-smaller : goal.devices-smaller
devices-smaller c = c.in-Some.ensures.smaller

pub devices-preserved : goal.devices-preserved
devices-preserved c =
    let mid : Roster = record c.devices.roster { waiting = c.let_wait.new.waiting } in
    record {
      blocked = sym c.if-enabled.ensures.is;
      turn =
          one_next c.args.fleet.now.scenario c.args.fleet.now.entries mid c.take.new.self c.in-Some.next
          (known_here (goal.at.devices-preserved c).After-take) c.in-Some.ensures;
    }
