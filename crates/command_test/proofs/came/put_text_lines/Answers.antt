use Rattle.std.proofs.Common.{◌++◌, ap, map, ◌∙◌}
use Rattle.std.proofs.lemmas.Iterator.Consumers.{YieldsList-at, YieldsList-end}
use Rattle.std.proofs.lemmas.Iterator.Splits.{YieldsList-from_lines}
use Rattle.command_test.specs.Came.{text_line}
use Rattle.command_test.proofs.came.put_text_lines.Goals as goal

pub returns : goal.returns
returns c =
    let end = YieldsList-end
    (YieldsList-at c.into_iter-line-iterator.ensures.into_iter_gives
    (YieldsList-from_lines {s = c.lines-line-items.result} c.args.text.now c.lines-line-items.ensures.rest))
    c.loop-line.yielded _ c.loop-line.yielded_by _ _ c.in-None.is c.next.ensures.steps in
    c.loop-line.invariant ∙ ap (λ ls. c.args.answers.now.items ++ map text_line ls) end.0
