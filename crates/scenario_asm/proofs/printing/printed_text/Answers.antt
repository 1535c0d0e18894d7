use Rattle.scenario_asm.proofs.printing.printed_text.Goals as goal

pub returns-clause-scenario : goal.returns-clause-scenario
returns-clause-scenario c = record { valid = c.in_ok-put_rows.ensures.valid; built = c.in_ok-put_classes.ensures.built }
