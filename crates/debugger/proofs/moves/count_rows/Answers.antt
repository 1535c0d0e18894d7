use Rattle.debugger.proofs.Moving.{counted_rows}
use Rattle.debugger.proofs.moves.count_rows.Goals as goal

pub returns : goal.returns
returns c =
    counted_rows c.args.scenario.now c.args.entries.now c.split_at.result.0.now c.args.place c.rows-rows.result
    c.in_ok-made.made.items
    c.rows-rows.ensures.count c.split_at.ensures.front c.in_ok-made.ensures.count c.in_ok-made.ensures.made
