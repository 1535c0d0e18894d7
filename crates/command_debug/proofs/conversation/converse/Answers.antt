use Rattle.std.proofs.Common.{rules, ◌∙◌, ◌⊎◌}
use Rattle.command_debug.specs.Conversation.{IsCut, IsCutShort, IsTurn, Terms}
use Rattle.command_files.specs.Input.{IsLonger}
use Rattle.command_files.specs.World.{Streams}
use Rattle.command_debug.proofs.Conversing.{cut_short, go_on, spend}
use Rattle.command_debug.proofs.conversation.converse.Goals as goal

pub loop-more-preserved : goal.loop-more-preserved
loop-more-preserved g c =
    let terms : Terms = record { faults = g.W.World.faults; reasons = c.args.reasons } in
    let before : Streams = (g.W.World.seen c.loop-more.world).streams in
    let after : Streams = (g.W.World.seen c.take_turn.new.world).streams in
    let turn : IsTurn terms before after c.loop-more.debugger c.take_turn.new.debugger c.loop-more.left c.in-Some.more
    =
    search rules in
    record {
      so_far = go_on terms _ before after _ _ _ _ _ c.loop-more.invariant.so_far turn;
      spent = spend terms _ before after _ _ _ _ _ c.loop-more.invariant.spent turn;
      none_made = c.take_turn.ensures.none_made ∙ c.loop-more.invariant.none_made;
    }

pub returns-in_err-more-clause-cut : goal.returns-in_err-more-clause-cut
returns-in_err-more-clause-cut g c =
    let terms : Terms = record { faults = g.W.World.faults; reasons = c.args.reasons } in
    let start : Streams = (g.W.World.seen c.args.world.now).streams in
    let before : Streams = (g.W.World.seen c.loop-more.world).streams in
    let after : Streams = (g.W.World.seen c.take_turn.new.world).streams in
    let cut : IsCut (g.W.World.faults.input_fails
    ⊎ IsLonger c.loop-more.left (g.W.World.seen c.loop-more.world).streams.input) terms before after
    c.loop-more.debugger c.in_err-more.field-0.0.fault =
    search rules in
    let short : IsCutShort terms start after c.args.debugger.now c.in_err-more.field-0.0.fault =
    cut_short terms start before after _ _ _ _ c.loop-more.invariant.so_far c.loop-more.invariant.spent cut
    (search rules) in
    search (rules, short)
