use Rattle.std.proofs.Common.{ap, ◌∙◌, arith}
use Rattle.std.proofs.lemmas.Result.{err_from_is_err_and}
use Rattle.scenario_layout.specs.Class.{values_in}
use Rattle.scenario_layout.proofs.Filling.{refused, value_added}
use Rattle.scenario_layout.proofs.Items.{entry_cut, entry_read, is_of_kind, within, value_made, last_value, value_bytes}
use Rattle.scenario_layout.proofs.Items.{not_both, value_stored}
use Rattle.scenario_layout.proofs.class.values.entry_at.Goals as goal

pub returns-in_err-value-clause-read : goal.returns-in_err-value-clause-read
returns-in_err-value-clause-read c =
    let p = err_from_is_err_and c.from_residual-in_err-value.result c.from_residual-in_err-value.ensures.1 in
    rw (p.1, p.2) (entry_cut c.args.template.now c.args.bytes.now c.in_ok-path.path c.in_ok-path.rest.now
    c.in_ok-path.kind c.in_err-value.field-0.0 c.in_ok-path.ensures.read c.in_ok-path.ensures.kind
    c.in_err-value.ensures.read)

pub returns-in-Err-clause-read : goal.returns-in-Err-clause-read
returns-in-Err-clause-read c =
    let bytes = value_bytes c.args.template.now c.args.bytes.now c.in_ok-path.path c.in_ok-path.rest.now
    (λ i. omega (arith, c.type_inv.bytes i)) c.in_ok-path.ensures.read in
    let free = c.in_ok-path.ensures.taken c.in_ok-value.value
    (is_of_kind c.in_ok-path.kind c.in_ok-value.value c.in_ok-path.rest.now c.in_ok-value.after.now bytes
    c.in_ok-value.ensures.read) (within c.in_ok-value.value c.in_ok-value.ensures.good) in
    rw c.refusal.ensures (refused c.in-Err.fault _ _
    (λ other. absurd (not_both c.args.template.now _ c.in_ok-path.path c.in_ok-value.value c.in-Err.fault
    c.to_path.ensures.again free (c.in-Err.ensures.refused other))))

pub returns-clause-read : goal.returns-clause-read
returns-clause-read c =
    let stored = value_stored c.args.template.now c.add_value.new.self _ c.in_ok-path.path c.in_ok-value.value
    c.to_path.ensures.again c.in_default.ensures.added in
    entry_read c.args.template.now c.add_value.new.self c.args.bytes.now c.in_ok-path.path c.in_ok-path.rest.now
    c.in_ok-path.kind c.in_ok-value.value c.in_ok-value.after.now c.in_ok-path.ensures.read
    c.in_ok-path.ensures.kind c.in_ok-value.ensures.read
    (ap values_in stored ∙ value_added c.args.template.now c.in_ok-path.path c.in_ok-value.value
    c.in_ok-path.ensures.behind)

pub returns-clause-made : goal.returns-clause-made
returns-clause-made c =
    value_made c.args.template.now c.add_value.new.self c.in_ok-path.path c.in_ok-value.value
    (value_stored c.args.template.now c.add_value.new.self _ c.in_ok-path.path c.in_ok-value.value
    c.to_path.ensures.again c.in_default.ensures.added)

pub returns-clause-last : goal.returns-clause-last
returns-clause-last c =
    let stored = value_stored c.args.template.now c.add_value.new.self _ c.in_ok-path.path c.in_ok-value.value
    c.to_path.ensures.again c.in_default.ensures.added in
    last_value c.args.template.now c.add_value.new.self c.in_ok-path.path c.in_ok-value.value
    c.in_ok-path.ensures.behind
    (ap values_in stored ∙ value_added c.args.template.now c.in_ok-path.path c.in_ok-value.value
    c.in_ok-path.ensures.behind)
