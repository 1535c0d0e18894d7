use Rattle.std.proofs.lemmas.Str.{is_utf8-from_IsUtf8}
use Rattle.scenario_layout.proofs.Utf8.{not_utf8}
use Rattle.scenario_layout.proofs.value.utf8.Goals as goal

pub returns-in-Ok-clause-test : goal.returns-in-Ok-clause-test
returns-in-Ok-clause-test c = (c.in-Ok.ensures.cases.0, is_utf8-from_IsUtf8 c.args.bytes.now c.in-Ok.ensures.cases.1)

pub returns-in-Err-clause-test : goal.returns-in-Err-clause-test
returns-in-Err-clause-test c = not_utf8 c.args.bytes.now c.in-Err.ensures.cases.0
