use Rattle.std.proofs.Common.{List, [], ◌∷◌, ◌++◌, codes, sym, ap, subst, ◌∙◌}
use Rattle.trace_json.specs.Entries.{entry_json, step_fields}
use Rattle.trace_json.specs.Json.{Field, fields_json}
use Rattle.trace_json.specs.Steps.{outputs_json}
use Rattle.trace_json.specs.Writing.{Has64Bits, MembersHave64Bits, tokens_of}
use Rattle.trace_json.proofs.Faults.{both_exact}
use Rattle.trace_json.proofs.Reasoned.{entry_tokens, entry_written}
use Rattle.trace_json.proofs.entries.put_entry.Goals as goal

pub returns-clause-adds : goal.returns-clause-adds
returns-clause-adds c =
    entry_written _ _ _ _ _ _ _ _ _ _ c.in_ok-begin_object.ensures.ok c.in_ok-put_step.ensures.adds
    c.in_ok-key.ensures.ok c.in_ok-put_outputs.ensures.adds
    (ap (λ os. tokens_of (outputs_json os)) c.as_slice.ensures) c.in_ok-end_object.ensures.ok
    ∙ ap (λ ts. c.args.out.now.tokens ++ ts)
    (sym (entry_tokens c.args.scenario.now c.args.number c.args.entry.now))

pub returns-clause-exact : goal.returns-clause-exact
unfolding entry_json
returns-clause-exact c =
    let outputs : List Field = (codes "outputs", outputs_json c.args.entry.now.outputs) ∷ [] in
    let exact : MembersHave64Bits (fields_json outputs) =
    (subst (λ os. Has64Bits (outputs_json os)) c.as_slice.ensures c.in_ok-put_outputs.ensures.exact, tt) in
    both_exact (step_fields c.args.scenario.now c.args.number c.args.entry.now) outputs
    c.in_ok-put_step.ensures.exact exact
