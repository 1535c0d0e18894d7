use Rattle.std.proofs.Common.{refl, sym, ◌∙◌}
use Rattle.case_play.specs.Refusals.{FaultsHold}
use Rattle.case_play.proofs.Each.{to_all}
use Rattle.case_play.proofs.refusals.are_refused.Goals as goal

pub returns : goal.returns
returns c = (
  λ t. record {
    some = sym c.has_answer.ensures ∙ c.if-not-has_answer.false;
    each = to_all (FaultsHold c.args.numbers.now c.args.fault) c.args.items.now c.loop-item.item-index
        c.loop-item.invariant c.loop-item-test.false;
  },
  λ r. refl,
)
