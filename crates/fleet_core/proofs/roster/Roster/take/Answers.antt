use Rattle.std.proofs.Common.{refl, arith, ◌+◌}
use Rattle.fleet_core.specs.declared.roster.Roster.{Roster}
use Rattle.fleet_core.proofs.Waking.{takes_woken, takes_fresh}
use Rattle.fleet_core.proofs.roster.Roster.take.Goals as goal

pub returns-then-self : goal.returns-then-self
returns-then-self c =
    let old : Roster = c.args.self.now in
    takes_woken old (record old { woken = c.take_lowest.new.self }) c.take_lowest.result refl refl refl
    c.take_lowest.ensures.rest c.take_lowest.ensures.lowest c.take_lowest.ensures.none
    (λ d later within. absurd (omega (arith, later, within, c.if-self.true)))

pub returns-then-has_below : goal.returns-then-has_below
returns-then-has_below c =
    let old : Roster = c.args.self.now in
    let lower = c.if-has_below.ensures.below refl in
    takes_woken old (record old { woken = c.take_lowest-then-has_below.new.self }) c.take_lowest-then-has_below.result
    refl refl refl
    c.take_lowest-then-has_below.ensures.rest c.take_lowest-then-has_below.ensures.lowest
    c.take_lowest-then-has_below.ensures.none
    (λ d later within. (lower.0, omega (arith, lower.1, later), lower.2))

pub returns : goal.returns
returns c =
    let old : Roster = c.args.self.now in
    takes_fresh old (record old { fresh = old.fresh + 1 }) refl refl refl refl (omega (arith, c.if-self.false))
    (c.if-has_below.ensures.none refl)
