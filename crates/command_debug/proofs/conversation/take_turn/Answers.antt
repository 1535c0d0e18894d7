use Rattle.std.proofs.Common.{Global, option_map, rules, ◌⊎◌}
use Rattle.std.specs.String.{string_bytes}
use Rattle.command_files.specs.Input.{IsLonger}
use Rattle.command_files.specs.World.{Streams}
use Rattle.command_debug.specs.Conversation.{Terms}
use Rattle.command_debug.proofs.Turns.{at_end, at_quit, turn, unsaid, within_left}
use Rattle.command_debug.proofs.conversation.take_turn.Goals as goal

pub returns-then-is_empty-clause-last : goal.returns-then-is_empty-clause-last
returns-then-is_empty-clause-last g c =
    at_end _ _ c.in_ok-line.line.items _ c.in_ok-line.ensures.line (search rules) (search rules) (search rules)

pub returns-then-reply-clause-last : goal.returns-then-reply-clause-last
returns-then-reply-clause-last g c =
    at_quit _ _ c.in_ok-line.line.items c.said_in.result.now _ c.in_ok-line.ensures.line (search rules) (search rules)
    (search rules) (search rules) (search rules) (search rules)

pub returns-in_err-say-clause-cut : goal.returns-in_err-say-clause-cut
returns-in_err-say-clause-cut g c =
    let terms : Terms = record { faults = g.W.World.faults; reasons = c.args.reasons } in
    let before : Streams = (g.W.World.seen c.args.world.now).streams in
    let after : Streams = (g.W.World.seen c.say.new.world).streams in
    let cut = unsaid (g.W.World.faults.input_fails
    ⊎ IsLonger c.args.left (g.W.World.seen c.args.world.now).streams.input) terms before after
    c.args.debugger.now c.reply_to.new.debugger c.in_ok-line.line.items c.said_in.result.now c.as_str.result.now
    c.in_err-say.field-0.0.fault
    c.in_ok-line.ensures.line (search rules) (search rules) (search rules) (search rules) (search rules)
    (search rules) (search rules) in
    search (rules, cut)

pub returns-clause-turn : goal.returns-clause-turn
returns-clause-turn g c =
    let seen = g.W.World.seen in
    turn _ (seen c.args.world.now).streams (seen c.say.new.world).streams (seen c.add_note.new.world).streams _ _
    c.in_ok-line.line.items c.said_in.result.now c.as_str.result.now
    (option_map (string_bytes {Z = Global}) c.in_ok-reply.reply.note) _ _ c.in_ok-line.ensures.line (search rules)
    (search rules) (search rules) (search rules) (search rules) (search rules) (search rules) (search rules)
    (search rules) (search rules) c.add_note.ensures.noted

pub returns-in_err-reply-clause-within : goal.returns-in_err-reply-clause-within
returns-in_err-reply-clause-within g c =
    let h = within_left (g.W.World.seen c.args.world.now).streams.input
    (g.W.World.seen c.hear.new.world).streams.input c.in_ok-line.line.items
    c.args.left c.in_ok-line.ensures.line (search rules) (search rules) in
    search (rules, h)

pub returns-in_err-say-clause-within : goal.returns-in_err-say-clause-within
returns-in_err-say-clause-within g c =
    let h = within_left (g.W.World.seen c.args.world.now).streams.input
    (g.W.World.seen c.hear.new.world).streams.input c.in_ok-line.line.items
    c.args.left c.in_ok-line.ensures.line (search rules) (search rules) in
    search (rules, h)
