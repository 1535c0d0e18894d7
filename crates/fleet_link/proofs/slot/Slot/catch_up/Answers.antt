use Rattle.std.proofs.Common.{refl, ◌∙◌, arith}
use Rattle.fleet_link.specs.Traffic.{no_traffic}
use Rattle.lemmas.proofs.Lists.{item_at}
use Rattle.live_link.proofs.Turned.{none_read}
use Rattle.fleet_link.proofs.Turning.{fewer_left}
use Rattle.fleet_link.proofs.Stepped.{goes_both, goes_on_same, goes_then, row_served}
use Rattle.fleet_link.proofs.Told.{carries_none, carries_on, still_none}
use Rattle.fleet_link.proofs.slot.Slot.catch_up.Goals as goal

pub returns-clause-served : goal.returns-clause-served
returns-clause-served g c =
    λ f before pending h time.
    row_served c.pass_to.result f before pending c.loop-due.self.row c.pass_to.new.self.row _ c.pass_to.new.self.device
    c.pass_to.new.self.second c.pass_to.new.self.recording (g.P.Ports.told c.pass_to.new.ports c.args.place)
    c.pass_to.ensures.row
    (c.pass_to.ensures.served f before pending _ (c.loop-due.invariant.served f before pending h time))

pub loop-due-init : goal.loop-due-init
loop-due-init g c = record {
  served = λ f before pending h time. h;
  on_time = λ h. h;
  goes_on = goes_on_same c.args.now c.args.self.now.row c.args.self.now.row refl;
  others = λ e o. carries_none (g.P.Ports.told c.args.ports.now e);
  share = refl;
  fixed = refl;
  asked = none_read (g.P.Ports.asked c.args.ports.now);
  most = λ most a b. a;
  ended = refl;
}

pub loop-due-preserved : goal.loop-due-preserved
loop-due-preserved g c =
    let at = c.loop-due in
    let made = c.make_step in
    record {
      served = λ f before pending h time. c.in_ok-make_step.ensures.served f before pending
          (at.invariant.served f before pending h time) (at.invariant.on_time time);
      on_time = λ time. c.in_ok-make_step.ensures.on_time (at.invariant.on_time time);
      goes_on = goes_both c.args.now c.in-Some.due c.args.self.now.row at.self.row made.new.self.row
          c.in-Some.ensures.by at.invariant.goes_on made.ensures.goes_on;
      others = λ e o. carries_on (g.P.Ports.told c.args.ports.now e) (g.P.Ports.told at.ports e)
          (g.P.Ports.told made.new.ports e) no_traffic (at.invariant.others e o) (made.ensures.others e o);
      share = made.ensures.share ∙ at.invariant.share;
      fixed = made.ensures.fixed ∙ at.invariant.fixed;
      asked = still_none _ _ _ at.invariant.asked made.ensures.asked;
      most = λ most a b. made.ensures.most most (at.invariant.most most a b) (omega (arith, b, c.in-Some.ensures.by));
      ended = made.ensures.end ∙ at.invariant.ended;
    }

pub returns-in_err-make_step-clause-goes_on : goal.returns-in_err-make_step-clause-goes_on
returns-in_err-make_step-clause-goes_on g c =
    goes_both c.args.now c.in-Some.due c.args.self.now.row c.loop-due.self.row c.make_step.new.self.row
    c.in-Some.ensures.by c.loop-due.invariant.goes_on c.make_step.ensures.goes_on

pub returns-clause-goes_on : goal.returns-clause-goes_on
returns-clause-goes_on g c =
    goes_then c.args.now c.args.self.now.row c.loop-due.self.row c.pass_to.new.self.row c.loop-due.invariant.goes_on
    c.pass_to.ensures.row

pub loop-due-smaller : goal.loop-due-smaller
loop-due-smaller g c =
    let row = c.loop-due.self.row in
    let found = item_at row.steps.items row.place c.in-Some.ensures.within in
    fewer_left c.args.now c.in-Some.due row c.make_step.new.self.row found.0 c.in-Some.ensures.due c.in-Some.ensures.by
    found.1 (c.in_ok-make_step.ensures.next found.0 found.1)
