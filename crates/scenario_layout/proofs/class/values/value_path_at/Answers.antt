use Rattle.std.proofs.Common.{sym, ◌∙◌}
use Rattle.scenario_layout.proofs.Items.{path_refused, path_fits}
use Rattle.scenario_layout.proofs.class.values.value_path_at.Goals as goal

pub returns-in-None-clause-read : goal.returns-in-None-clause-read
returns-in-None-clause-read c =
    path_refused c.args.template.now c.args.bytes.now c.in_ok-path.path c.in_ok-path.rest.now c.in_ok-path.ensures.read
    (sym c.kind_taken.ensures.kind ∙ c.in-None.is)

pub returns-in-Some-clause-read : goal.returns-in-Some-clause-read
returns-in-Some-clause-read c =
    path_fits c.args.template.now c.args.bytes.now c.in_ok-path.path c.in_ok-path.rest.now c.in-Some.kind
    c.in_ok-path.ensures.read
    (c.requires c.in_ok-path.path ∙ sym c.is_behind.ensures ∙ c.if-not-is_behind.false)
    (sym c.kind_taken.ensures.kind ∙ c.in-Some.is)

pub returns-in-Some-clause-taken : goal.returns-in-Some-clause-taken
returns-in-Some-clause-taken c = λ v. c.kind_taken.ensures.taken c.in-Some.kind v c.in-Some.is
