use Rattle.std.proofs.Common.{ap, ◌∙◌}
use Rattle.fleet_core.specs.Next.{next_of}
use Rattle.fleet_core.specs.Past.{past_entries}
use Rattle.fleet_core.proofs.Board.{table_enabled}
use Rattle.fleet_core.proofs.replay.Replay.is_enabled.Goals as goal

pub returns : goal.returns
returns c =
    table_enabled c.args.self.now c.self.inside.scenario.now (past_entries c.self.inside.past) c.self.inside.spent
    c.self.inside.made.items c.self.inside.posts.items c.as_slice.result.now c.args.device c.next_of.result
    c.may_pass.result c.self.view_is c.self.invariant.board c.as_slice.ensures.value
    (c.next_of.ensures ∙ ap next_of c.next_step.ensures) c.may_pass.ensures
