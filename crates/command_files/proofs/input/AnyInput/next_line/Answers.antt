use Rattle.std.proofs.Common.{rules}
use Rattle.command_files.proofs.Lines.{byte_of_line, byte_within, end_line, feed_line, part_of_line, part_within}
use Rattle.command_files.proofs.input.AnyInput.next_line.Goals as goal

pub returns-in_default-clause-line : goal.returns-in_default-clause-line
returns-in_default-clause-line g c =
    end_line _ (g.B.Read.remaining c.loop.self) (g.B.Read.remaining c.next_byte.new.reader) c.loop.line.items
    c.loop.invariant.part (search rules) (search rules)

pub returns-then-byte-eq10-clause-line : goal.returns-then-byte-eq10-clause-line
returns-then-byte-eq10-clause-line g c =
    feed_line _ (g.B.Read.remaining c.loop.self) (g.B.Read.remaining c.next_byte.new.reader) c.loop.line.items
    c.push.new.self.items c.in-Some.byte c.loop.invariant.part (search rules) (search rules) (search rules)

pub returns-then-branch-clause-line : goal.returns-then-branch-clause-line
returns-then-branch-clause-line g c =
    end_line _ (g.B.Read.remaining c.loop.self) (g.B.Read.remaining c.is_at_end.new.reader) c.loop.line.items
    c.loop.invariant.part (search rules) (search rules)

-- ---- where it fails

pub returns-in_err-byte-clause-part : goal.returns-in_err-byte-clause-part
returns-in_err-byte-clause-part g c =
    let h = part_of_line _ (g.B.Read.remaining c.loop.self)
    (g.B.Read.remaining c.next_byte.new.reader) c.loop.line.items
    c.loop.invariant.part (search rules) in
    search (rules, h)

pub returns-in_err-byte-clause-within : goal.returns-in_err-byte-clause-within
returns-in_err-byte-clause-within g c =
    let h = part_within _ (g.B.Read.remaining c.loop.self) (g.B.Read.remaining c.next_byte.new.reader) c.loop.line.items
    c.args.most c.loop.invariant.part (search rules) (search rules) in
    search (rules, h)

pub returns-then-is_err-clause-part : goal.returns-then-is_err-clause-part
returns-then-is_err-clause-part g c =
    byte_of_line _ (g.B.Read.remaining c.loop.self) (g.B.Read.remaining c.next_byte.new.reader) c.loop.line.items
    c.in-Some.byte c.loop.invariant.part (search rules)

pub returns-then-is_err-clause-within : goal.returns-then-is_err-clause-within
returns-then-is_err-clause-within g c =
    byte_within _ (g.B.Read.remaining c.loop.self) (g.B.Read.remaining c.next_byte.new.reader) c.loop.line.items
    c.in-Some.byte c.args.most c.loop.invariant.part (search rules) (search rules)

pub returns-in_err-is_at_end-clause-part : goal.returns-in_err-is_at_end-clause-part
returns-in_err-is_at_end-clause-part g c =
    let h = part_of_line _ (g.B.Read.remaining c.loop.self)
    (g.B.Read.remaining c.is_at_end.new.reader) c.loop.line.items
    c.loop.invariant.part (search rules) in
    search (rules, h)

pub returns-in_err-is_at_end-clause-within : goal.returns-in_err-is_at_end-clause-within
returns-in_err-is_at_end-clause-within g c =
    let h = part_within _ (g.B.Read.remaining c.loop.self) (g.B.Read.remaining c.is_at_end.new.reader) c.loop.line.items
    c.args.most c.loop.invariant.part (search rules) (search rules) in
    search (rules, h)

pub returns-clause-part : goal.returns-clause-part
returns-clause-part g c =
    part_of_line _ (g.B.Read.remaining c.loop.self) (g.B.Read.remaining c.is_at_end.new.reader) c.loop.line.items
    c.loop.invariant.part (search rules)

pub returns-clause-within : goal.returns-clause-within
returns-clause-within g c =
    part_within _ (g.B.Read.remaining c.loop.self) (g.B.Read.remaining c.is_at_end.new.reader) c.loop.line.items
    c.args.most c.loop.invariant.part (search rules) (search rules)
