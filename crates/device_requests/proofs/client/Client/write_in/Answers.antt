-- The payload gives values that are nothing to the firmware: the rule of the limits alone is left.
use Rattle.std.proofs.Common.{◌≡◌, ◌∷◌, [], None, Some, IfOk, rules, ap, sym, subst, ◌∙◌}
use Rattle.std.specs.Result.{result_ok}
use Rattle.object_defs.specs.Lines.{first_line}
use Rattle.device_requests.specs.declared.ruling.Ruling.TheVariants.{Limit, State}
use Rattle.device_requests.specs.Answer.{Leaves}
use Rattle.device_requests.specs.Client.{Client}
use Rattle.device_requests.specs.Inside.{give, value_rules}
use Rattle.device_requests.specs.Refusals.{is_refused_now, unless_taken}
use Rattle.device_requests.specs.Write.{after_write_with_event, event_of, mode_at, values_exceed, values_given}
use Rattle.device_requests.specs.Write.{values_written, write_unless}
use Rattle.device_requests.proofs.client.Client.write_in.Goals as goal

pub returns-in-None : goal.returns-in-None
returns-in-None c =
    let client = c.args.self.now in
    let path = c.args.path in
    let mode = mode_at c.args.mode path in
    let values = c.in-Ok.values in
    let given : values_given client.catalog path c.args.payload.now c.args.format ≡ Some values =
    ap (λ (m : Client). values_given m.catalog path c.args.payload.now c.args.format) (sym c.self.view_is)
    ∙ ap result_ok (sym c.in_ok-values.ensures ∙ c.in-Ok.is) in
    let none : event_of path (Some values) ≡ None = sym c.in_ok-event.ensures.event ∙ c.in-None.is in
    subst (λ v. IfOk c.set.result (λ a. Leaves a c.set.new.self
    (give (value_rules client c.args.mode path v) client c.args.mode path v))) (sym given)
    (subst (λ e. IfOk c.set.result (λ a. Leaves a c.set.new.self
    (write_unless (first_line ((is_refused_now client.store e, State)
    ∷ (unless_taken e (values_exceed mode client.catalog client.store path values), Limit) ∷ [])) client
    (after_write_with_event mode client path (Some values) e)))) (sym none)
    (subst (λ n. IfOk c.set.result (λ a. Leaves a c.set.new.self
    (write_unless (first_line ((values_exceed n client.catalog client.store path values, Limit) ∷ [])) client
    (values_written n client.catalog client.store path values)))) c.mode_at.ensures (search rules)))
