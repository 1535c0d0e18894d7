use Rattle.std.proofs.Common.{◌≡◌, ◌≤◌, length, arith, rules}
use Rattle.command_words.proofs.Taken.{all_taken, line_taken, within_line}
use Rattle.command_words.proofs.input.read_all.Goals as goal

pub returns-then-is_empty-clause-all : goal.returns-then-is_empty-clause-all
returns-then-is_empty-clause-all g c =
    let none : length c.in_ok-line.line.items ≡ 0 = search rules in
    all_taken (g.W.World.seen c.args.world.now).streams.input (g.W.World.seen c.lines.world).streams.input
    (g.W.World.seen c.next_line.new.self).streams.input
    c.lines.log.items c.in_ok-line.line.items c.lines.left c.lines.invariant.taken c.in_ok-line.ensures.line
    c.in_ok-line.ensures.rest none

pub returns-then-is_empty-clause-within : goal.returns-then-is_empty-clause-within
returns-then-is_empty-clause-within g c =
    let fits : length c.in_ok-line.line.items ≤ c.lines.left = omega (arith, c.in_ok-line.ensures.bound) in
    within_line (g.W.World.seen c.args.world.now).streams.input (g.W.World.seen c.lines.world).streams.input
    (g.W.World.seen c.next_line.new.self).streams.input
    c.lines.log.items c.in_ok-line.line.items c.lines.left c.lines.invariant.taken c.in_ok-line.ensures.line
    c.in_ok-line.ensures.rest fits

pub returns-in_err-extend_from_slice-clause-within : goal.returns-in_err-extend_from_slice-clause-within
returns-in_err-extend_from_slice-clause-within g c =
    let fits : length c.in_ok-line.line.items ≤ c.lines.left = omega (arith, c.in_ok-line.ensures.bound) in
    within_line (g.W.World.seen c.args.world.now).streams.input (g.W.World.seen c.lines.world).streams.input
    (g.W.World.seen c.next_line.new.self).streams.input
    c.lines.log.items c.in_ok-line.line.items c.lines.left c.lines.invariant.taken c.in_ok-line.ensures.line
    c.in_ok-line.ensures.rest fits

pub lines-preserved : goal.lines-preserved
lines-preserved g c =
    let fits : length c.in_ok-line.line.items ≤ c.lines.left = omega (arith, c.in_ok-line.ensures.bound) in
    record {
      taken =
          line_taken (g.W.World.seen c.args.world.now).streams.input (g.W.World.seen c.lines.world).streams.input
          (g.W.World.seen c.next_line.new.self).streams.input
          c.lines.log.items c.in_ok-line.line.items c.extend_from_slice.new.self.items c.lines.left _
          c.lines.invariant.taken
          c.in_ok-line.ensures.line c.in_ok-line.ensures.rest fits (search rules) (search rules);
      only = search rules;
    }
