use Rattle.std.proofs.Common.{◌≡◌, ℕ, false, sym, ap, subst, ◌∙◌}
use Rattle.fleet_core.specs.Run.{IsSerial, is_enabled}
use Rattle.fleet_core.specs.Roster.{IsNextTurn}
use Rattle.fleet_core.proofs.Lowest.{goes_on, goes_down, arrives}
use Rattle.fleet_core.proofs.serial.serial_entries.Goals as goal

pub turns-smaller : goal.turns-smaller
turns-smaller c =
    let went = c.if-is_none.ensures in
    goes_down c.args.scenario.now c.turns.low _ c.turns.fleet c.advance.new.self c.turns.invariant.scenario
    (sym went ∙ c.in_ok-made.ensures.can) (c.in_ok-made.ensures.added went)

pub turns-preserved : goal.turns-preserved
turns-preserved c =
    let went = c.if-is_none.ensures in
    goes_on c.args.scenario.now c.turns.low _ c.turns.roster c.turn_after.new.roster c.turns.fleet
    c.advance.new.self _ c.turns.invariant (sym went ∙ c.in_ok-made.ensures.can) (c.in_ok-made.ensures.step went)
    (c.in_ok-made.ensures.added went) c.in_ok-low.ensures

pub returns-in_default : goal.returns-in_default
returns-in_default c =
    let same : c.advance.new.self ≡ c.turns.fleet = c.in_ok-made.ensures.unchanged c.if-is_none.ensures in
    let none : (d : ℕ) → is_enabled c.turns.fleet.scenario c.turns.fleet.entries d ≡ false =
    subst (λ w. (d : ℕ) → is_enabled w.scenario w.entries d ≡ false) same
    (subst (IsNextTurn c.advance.new.self.scenario c.advance.new.self.entries c.next_turn.new.roster) c.in_default.is
    c.in_ok-next.ensures) in
    subst (IsSerial c.args.scenario.now) (sym (c.into_entries.ensures ∙ ap (λ w. w.entries) same))
    (arrives c.args.scenario.now c.turns.low c.turns.roster c.turns.fleet c.turns.invariant none)
