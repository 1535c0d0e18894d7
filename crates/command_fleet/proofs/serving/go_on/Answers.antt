use Rattle.std.proofs.Common.{◌+◌, ◌∙◌, refl, sym, arith}
use Rattle.std.proofs.lemmas.Result.{err_from_is_err_and}
use Rattle.fleet_link.proofs.Seconds.{asked_less}
use Rattle.command_files.specs.World.{World}
use Rattle.command_fleet.proofs.Kept.{kept_at, kept_first, kept_from, kept_on}
use Rattle.command_fleet.proofs.Sessions.{serving_cut, snapshot_lost}
use Rattle.command_fleet.proofs.Settled.{repeated_as}
use Rattle.command_fleet.proofs.Told.{told_still}
use Rattle.command_fleet.proofs.serving.go_on.Goals as goal

pub loop-turn-init : goal.loop-turn-init
loop-turn-init g c = record {
  fleet = λ s played before h. h;
  asked = λ read_before asked_before calls h. asked_less read_before _ asked_before _ _ _ _ (calls + 0) h (omega arith);
  wire = refl;
  began = refl;
  repeats = λ e. refl;
  told = λ start h. h;
  kept = λ before h r. kept_first _ _ _ _ before _ _ _ (c.second-last.ensures ∙ c.requires.start)
      c.requires.start;
  none_read = refl;
}

pub loop-turn-preserved : goal.loop-turn-preserved
loop-turn-preserved g c = record {
  fleet = λ s played before h. c.in_ok-turn.ensures.fleet s played before (c.loop-turn.invariant.fleet s played before
      h);
  asked = λ read_before asked_before calls h. asked_less read_before _ asked_before _ _ _ _
      (calls + (c.loop-turn._turn + 1))
      (c.in_ok-turn.ensures.asked read_before asked_before (calls + c.loop-turn._turn)
      (c.loop-turn.invariant.asked read_before asked_before calls h)) (omega arith);
  wire = c.in_ok-turn.ensures.wire ∙ c.loop-turn.invariant.wire;
  began = c.in_ok-turn.ensures.began ∙ c.loop-turn.invariant.began;
  repeats = λ e. c.in_ok-turn.ensures.repeats e ∙ c.loop-turn.invariant.repeats e;
  told = λ start h. told_still _ _ _ _ start (g.W.World.seen c.turn.new.world) (g.W.World.seen c.keep_up.new.world)
      (c.in_ok-turn.ensures.told start (c.loop-turn.invariant.told start h))
      c.keep_up.ensures.only;
  kept = λ before h r.
      let part = c.args.part.now in
      let play = c.args.asked.now.play in
      let was = c.loop-turn.invariant.fleet part play before h in
      let are = c.in_ok-turn.ensures.fleet part play before was in
      kept_on _ part play _ before _ _ _ _ _ _ _ _ _ (c.loop-turn.invariant.kept before h r) are
      (repeated_as _ _ _ (are.count ∙ sym h.count)
      (λ e. c.in_ok-turn.ensures.repeats e ∙ c.loop-turn.invariant.repeats e) r)
      (c.in_ok-turn.ensures.swept part play before was) c.in_ok-turn.ensures.later
      (kept_from _ _ _ _ _ _ _ _ _ (c.turn.ensures.only.0) c.in_ok-last.ensures.kept_up);
  none_read = c.keep_up.ensures.only.0 ∙ c.turn.ensures.only.1 ∙ c.loop-turn.invariant.none_read;
}

pub returns-clause-fleet : goal.returns-clause-fleet
returns-clause-fleet g c = λ s played before h. c.loop-turn.invariant.fleet s played before h

pub returns-clause-told : goal.returns-clause-told
returns-clause-told g c = λ start h. c.loop-turn.invariant.told start h

pub returns-clause-repeats : goal.returns-clause-repeats
returns-clause-repeats g c = λ e. c.loop-turn.invariant.repeats e

pub returns-clause-kept : goal.returns-clause-kept
returns-clause-kept g c = λ before h r. (c.loop-turn.last, c.loop-turn.invariant.kept before h r)

pub returns-in_err-turn-clause-cut : goal.returns-in_err-turn-clause-cut
returns-in_err-turn-clause-cut g c =
    let refuses = g.W.Files.refuses in
    let streams = g.W.World.faults in
    let start_made = (g.W.World.seen c.args.world.now).made in
    let after : World = g.W.World.seen c.turn.new.world in
    let r = c.from_residual in
    let p = err_from_is_err_and r.result r.ensures.1 in
    rw (p.1, p.2) (λ start before told fleet repeated. serving_cut c.args.telling refuses streams c.args.asked.now
    c.args.part.now before c.loop-turn.fleet.second c.loop-turn.last
    (record { made = start_made; streams = start }) after c.in_err-turn.field-0.0.fault
    (c.in_err-turn.ensures.cut start (c.loop-turn.invariant.told start told))
    (kept_at c.args.asked.now c.args.part.now before _ _ start_made _ _ c.turn.ensures.only.0
    (c.loop-turn.invariant.kept before fleet repeated)))

pub returns-in_err-last-clause-cut : goal.returns-in_err-last-clause-cut
returns-in_err-last-clause-cut g c =
    let refuses = g.W.Files.refuses in
    let streams = g.W.World.faults in
    let after : World = g.W.World.seen c.keep_up.new.world in
    let r = c.from_residual-in_err-last in
    let p = err_from_is_err_and r.result r.ensures.1 in
    rw (p.1, p.2) (λ start before told fleet repeated. snapshot_lost c.args.telling refuses streams c.args.asked.now
    c.args.part.now before _ _ c.turn.new.fleet.second c.loop-turn.fleet.second c.loop-turn.last
    (record { made = (g.W.World.seen c.args.world.now).made; streams = start }) after _ c.in_err-last.field-0.0.fault
    (told_still _ _ _ _ start (g.W.World.seen c.turn.new.world) (g.W.World.seen c.keep_up.new.world)
    (c.in_ok-turn.ensures.told start (c.loop-turn.invariant.told start told))
    c.keep_up.ensures.only)
    (c.loop-turn.invariant.kept before fleet repeated) (c.in_err-last.ensures.none ∙ c.turn.ensures.only.0)
    c.in_err-last.ensures.refused)
