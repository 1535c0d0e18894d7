use Rattle.std.proofs.Common.{sym, ◌∙◌}
use Rattle.scenario_asm.proofs.Refusals.{class_refused, needs_given}
use Rattle.scenario_asm.proofs.class.add_instance.Goals as goal

pub returns-clause-refused : goal.returns-clause-refused
returns-clause-refused c = λ k e.
    c.of_class.ensures
    ∙ class_refused _ _ c.add_instance.result k c.add_instance.ensures.refuses
    (needs_given _ _ k (sym c.has_object.ensures ∙ c.if-not-has_object.false) e)
