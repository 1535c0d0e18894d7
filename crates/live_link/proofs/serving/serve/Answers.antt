use Rattle.std.proofs.Common.{arith}
use Rattle.live_link.specs.declared.session.LiveEnd.TheVariants.{Turns}
use Rattle.live_link.proofs.Turned.{all_turns, as_session, starts}
use Rattle.live_link.proofs.serving.serve.Goals as goal

pub loop-turn-init : goal.loop-turn-init
loop-turn-init g c =
    starts c.args.device (g.W.Wire.told c.args.wire.now) (g.C.Seconds.read c.args.clock.now) c.new.result.items
    c.new-2.result.items c.new.ensures.items c.new-2.ensures.items

pub loop-turn-preserved : goal.loop-turn-preserved
loop-turn-preserved g c =
    c.in-Ok.ensures.under_way c.args.device (g.W.Wire.told c.args.wire.now) (g.C.Seconds.read c.args.clock.now)
    c.loop-turn._turn c.loop-turn.invariant

pub returns-in-Err : goal.returns-in-Err
returns-in-Err g c =
    as_session c.in-Err.end _ c.args.device (g.W.Wire.told c.args.wire.now) (g.C.Seconds.read c.args.clock.now)
    c.args.turns _ _ _ _ _ _
    (c.in-Err.ensures.over c.args.device (g.W.Wire.told c.args.wire.now) (g.C.Seconds.read c.args.clock.now)
    c.loop-turn._turn c.args.turns c.loop-turn.invariant (omega arith))
    c.into_session.ensures.end c.into_session.ensures.steps c.into_session.ensures.sent

pub returns : goal.returns
returns g c =
    as_session Turns _ c.args.device (g.W.Wire.told c.args.wire.now) (g.C.Seconds.read c.args.clock.now)
    c.args.turns _ _ _ _ _ _
    (all_turns c.args.device (g.W.Wire.told c.args.wire.now) (g.C.Seconds.read c.args.clock.now) c.loop-turn._turn
    c.args.turns _ _ _ _ _ _ c.loop-turn.invariant (omega arith))
    c.into_session-2.ensures.end c.into_session-2.ensures.steps c.into_session-2.ensures.sent
