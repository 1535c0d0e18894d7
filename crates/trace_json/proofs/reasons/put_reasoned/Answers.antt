use Rattle.std.proofs.Common.{List, ◌∷◌, ◌++◌, codes, option_map, sym, ap, subst, ◌∙◌}
use Rattle.trace_json.specs.Entries.{step_fields}
use Rattle.trace_json.specs.Json.{Field, fields_json, number_json, object_json}
use Rattle.trace_json.specs.Notes.{if_there}
use Rattle.trace_json.specs.Reasons.{SaidReasons, ended_fields, reasoned_json, reasoned_outputs_json, said_of}
use Rattle.trace_json.specs.Writing.{Has64Bits, MembersHave64Bits, fields_tokens, tokens_of}
use Rattle.serde_json.specs.Data.{string}
use Rattle.trace_json.proofs.Faults.{both_exact}
use Rattle.trace_json.proofs.Reasoned.{ended_as, reasoned_tokens, reasoned_written, texts_there}
use Rattle.trace_json.proofs.reasons.put_reasoned.Goals as goal

pub returns-clause-adds : goal.returns-clause-adds
returns-clause-adds c =
    let said : SaidReasons = said_of c.args.reasons.now in
    let ruled = c.in_ok-put_number_if.ensures.adds in
    let told = c.in_ok-put_string_if.ensures.adds in
    let listed = c.in_ok-put_outputs.ensures.adds in
    reasoned_written _ _ _ _ _ _ _ _ _ _ (fields_tokens (if_there (codes "rule") (option_map number_json said.rule)))
    (fields_tokens (if_there (codes "why") (option_map string said.why))) _
    (tokens_of (reasoned_outputs_json c.args.entry.now.outputs said.sent)) _ c.in_ok-begin_object.ensures.ok
    c.in_ok-put_step.ensures.adds
    (ended_as _ _ _ _ ruled (ap (λ o. fields_tokens (if_there (codes "rule") (option_map number_json o)))
    c.widened.ensures))
    (ended_as _ _ _ _ told (ap (λ o. fields_tokens (if_there (codes "why") o))
    (sym (texts_there (λ x. x.now) c.args.reasons.now.why))))
    c.in_ok-key.ensures.ok
    (ended_as _ _ _ _ listed (ap (λ os. tokens_of (reasoned_outputs_json os said.sent)) c.as_slice.ensures))
    c.in_ok-put_ended.ensures.adds c.in_ok-end_object.ensures.ok
    ∙ ap (λ ts. c.args.out.now.tokens ++ ts)
    (sym (reasoned_tokens c.args.scenario.now c.args.number c.args.entry.now said))

pub returns-clause-exact : goal.returns-clause-exact
unfolding reasoned_json
returns-clause-exact c =
    let said : SaidReasons = said_of c.args.reasons.now in
    let rule_fields : List Field = if_there (codes "rule") (option_map number_json said.rule) in
    let rule : MembersHave64Bits (fields_json rule_fields) =
    subst (λ o. Has64Bits (object_json (if_there (codes "rule") (option_map number_json o)))) c.widened.ensures
    c.in_ok-put_number_if.ensures.exact in
    let why_fields : List Field = if_there (codes "why") (option_map string said.why) in
    let why : MembersHave64Bits (fields_json why_fields) =
    subst (λ o. Has64Bits (object_json (if_there (codes "why") o)))
    (sym (texts_there (λ x. x.now) c.args.reasons.now.why)) c.in_ok-put_string_if.ensures.exact in
    let outputs : Has64Bits (reasoned_outputs_json c.args.entry.now.outputs said.sent) =
    subst (λ os. Has64Bits (reasoned_outputs_json os said.sent)) c.as_slice.ensures
    c.in_ok-put_outputs.ensures.exact in
    let last_fields : List Field =
    (codes "outputs", reasoned_outputs_json c.args.entry.now.outputs said.sent) ∷ ended_fields said.ended in
    let last : MembersHave64Bits (fields_json last_fields) = (outputs, c.in_ok-put_ended.ensures.exact) in
    both_exact (step_fields c.args.scenario.now c.args.number c.args.entry.now) _ c.in_ok-put_step.ensures.exact
    (both_exact rule_fields _ rule (both_exact why_fields last_fields why last))
