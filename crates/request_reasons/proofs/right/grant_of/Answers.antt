use Rattle.std.proofs.Common.{FitsSigned, rules, sym, ◌∙◌}
use Rattle.std.specs.Int.{w64}
use Rattle.std.proofs.lemmas.Int.{to_z-of_z}
use Rattle.request_reasons.proofs.Grants.{own_rights}
use Rattle.request_reasons.proofs.right.grant_of.Goals as goal

pub returns-in-Some-entry_of-clause-granted : goal.returns-in-Some-entry_of-clause-granted
returns-in-Some-entry_of-clause-granted c =
    let fits : FitsSigned w64 c.in-Some-entry_of.number = search rules in
    let control = sym c.control_of.ensures ∙ c.in-Some.is in
    let entry = sym c.entry_of.ensures ∙ c.in-Some-entry_of.is in
    let given =
    c.rights-rights.ensures
    ∙ own_rights c.args.store.now c.args.server c.args.object c.args.instance c.in-Some.control
    c.in-Some-entry_of.number c.if-object-eq-ACCESS_CONTROL.false control entry in
    rw (to_z-of_z w64 c.in-Some-entry_of.number fits)
    (c.if-object-eq-ACCESS_CONTROL.false, control, entry, sym given)
