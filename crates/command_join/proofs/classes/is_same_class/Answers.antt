use Rattle.std.proofs.Common.{◌∙◌}
use Rattle.command_join.proofs.Alike.{decided}
use Rattle.command_join.proofs.classes.is_same_class.Goals as goal

pub returns : goal.returns
returns c =
    decided c.args.a.now c.args.b.now c.as_slice.result.now c.as_slice-2.result.now c.are_same_bytes.result
    (c.exact_layouts.ensures.class 2) c.in_ok-left.ensures.good c.in_ok-right.ensures.good
    (c.as_slice.ensures.value ∙ c.in_ok-left.ensures.bytes) (c.as_slice-2.ensures.value ∙ c.in_ok-right.ensures.bytes)
    c.are_same_bytes.ensures
