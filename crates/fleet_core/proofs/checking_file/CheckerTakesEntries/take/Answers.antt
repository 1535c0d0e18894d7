use Rattle.std.proofs.Common.{◌≡◌, ◌+◌, [], ◌∷◌, ◌++◌, subst, sym, ap}
use Rattle.fleet_core.specs.Board.{Replays}
use Rattle.fleet_core.specs.Inside.{IsChecking}
use Rattle.fleet_core.specs.Past.{past_entries}
use Rattle.fleet_core.proofs.Judged.{goes_on, breaks_off, stays}
use Rattle.fleet_core.proofs.checking_file.CheckerTakesEntries.take.Goals.{in-Run+in_ok-take+then-not-branch}
use Rattle.fleet_core.proofs.checking_file.CheckerTakesEntries.take.Goals.{in-Run+in_ok-take+else-not-branch, in_default}
use Rattle.fleet_core.proofs.checking_file.CheckerTakesEntries.take.Goals as goal

pub returns-clause-ready : goal.returns-clause-ready
returns-clause-ready c =
    let old = c.args.self.now in
    let e = c.args.entry in
    let had = past_entries old.past in
    rw c.with.ensures (
    elim c.match-self.branch [
      | in-Run+in_ok-take+then-not-branch w ↦
          rw w.self-is (breaks_off old.replay w.take.new.self had old.count e
          (subst (λ v. IsChecking old.replay had old.count v) w.in-Run.is c.requires.ready)
          (subst (λ b. Replays old.replay w.take.new.self e b) w.if-not-branch.true w.in_ok-take.ensures.replays)
          w.in_ok-take.ensures.scenario)
      | in-Run+in_ok-take+else-not-branch w ↦
          rw w.self-is (subst (λ v. IsChecking w.take.new.self (had ++ e ∷ []) (old.count + 1) v) (sym w.in-Run.is)
          (goes_on old.replay w.take.new.self had old.count e
          (subst (λ v. IsChecking old.replay had old.count v) w.in-Run.is c.requires.ready)
          (subst (λ b. Replays old.replay w.take.new.self e b) w.if-not-branch.false w.in_ok-take.ensures.replays)))
      | in_default w ↦
          rw w.self-is (stays old.replay had old.count w.in_default.field-0 e old.verdict w.in_default.is
          c.requires.ready)
    ]
    )
