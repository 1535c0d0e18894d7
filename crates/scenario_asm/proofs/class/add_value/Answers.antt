use Rattle.std.proofs.Common.{sym, ◌∙◌}
use Rattle.scenario_asm.proofs.ClassValues.{long_made}
use Rattle.scenario_asm.proofs.class.add_value.Goals as goal

pub returns-then-is_too_long : goal.returns-then-is_too_long
returns-then-is_too_long c =
    long_made c.args.class.now c.args.path c.args.value c.emptied.result c.add_value.result c.of_long.result
    c.add_value.new.self c.emptied.ensures
    (sym c.is_stated.ensures ∙ c.if-not-is_stated.false)
    (c.is_too_long.ensures.0 c.if-is_too_long.true)
    c.add_value.ensures.refused c.add_value.ensures.refuses c.of_long.ensures
