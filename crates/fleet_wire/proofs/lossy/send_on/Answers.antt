use Rattle.std.proofs.Common.{sym, ◌∙◌}
use Rattle.fleet_link.proofs.Told.{still_none}
use Rattle.fleet_wire.proofs.Wires.{idle_at}
use Rattle.fleet_wire.proofs.lossy.send_on.Goals as goal

pub loop-preserved : goal.loop-preserved
loop-preserved g c =
    record {
      wired = λ p devices before w.
          c.send_next.ensures.wired p devices before (c.loop.invariant.wired p devices before w);
      came = λ e. c.send_next.ensures.came e ∙ c.loop.invariant.came e;
      plan = c.send_next.ensures.plan ∙ c.loop.invariant.plan;
      second = c.send_next.ensures.second ∙ c.loop.invariant.second;
      incoming = c.send_next.ensures.incoming ∙ c.loop.invariant.incoming;
      whole = c.send_next.ensures.whole ∙ c.loop.invariant.whole;
      calls = c.send_next.ensures.calls ∙ c.loop.invariant.calls;
      taken = c.send_next.ensures.taken ∙ c.loop.invariant.taken;
      fixed = c.send_next.ensures.fixed ∙ c.loop.invariant.fixed;
      asked = still_none (g.P.Ports.asked c.args.ports.now) (g.P.Ports.asked c.loop.ports)
          (g.P.Ports.asked c.send_next.new.ports) c.loop.invariant.asked c.send_next.ensures.asked;
    }

pub returns-clause-whole_one : goal.returns-clause-whole_one
returns-clause-whole_one g c =
    λ p devices before w.
    let t = c.send_next.new.wire in
    let now = c.send_next.ensures.wired p devices before (c.loop.invariant.wired p devices before w) in
    record {
      wired = now;
      sent = idle_at p c.loop.wire.plan c.loop.wire.second t.second t.outgoing
          (sym c.send_next.ensures.plan ∙ now.plan_is) c.send_next.ensures.second
          (c.send_next.ensures.idle c.loop-test.false);
    }

pub returns-clause-asked : goal.returns-clause-asked
returns-clause-asked g c =
    still_none (g.P.Ports.asked c.args.ports.now) (g.P.Ports.asked c.loop.ports) (g.P.Ports.asked c.send_next.new.ports)
    c.loop.invariant.asked c.send_next.ensures.asked
