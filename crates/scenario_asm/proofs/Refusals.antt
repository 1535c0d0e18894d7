-- What a class or a scenario refuses is refused, whatever memory there is.
use Rattle.std.proofs.Common.{◌≡◌, Bool, true, false, cond, not, [], ◌∷◌, Option, None, Some, Result, Err, option_map}
use Rattle.std.proofs.Common.{refl, ap, ◌∙◌}
use Rattle.object_defs.specs.Lines.{first_line}
use Rattle.device_template.specs.declared.fault.TemplateFault.TheVariants as fault
use Rattle.device_template.specs.declared.fault.TemplateFault.{TemplateFault}
use Rattle.scenario_image.specs.declared.fault.ScenarioFault.{ScenarioFault}
use Rattle.scenario_words.specs.declared.cause.Cause.{Cause}
use Rattle.scenario_words.specs.declared.cause.Cause.TheVariants.{Range, Duplicate}
use Rattle.scenario_asm.specs.Causes.{needs, scenario_cause, scenario_result, template_cause, template_result, unless}

pub class_refused : {X : Type 0} (o : Option TemplateFault) (x : X) (r : Result (Unit {0}) TemplateFault) (c : Cause)
    → ((f : TemplateFault) → o ≡ Some f → r ≡ Err f) → unless (option_map template_cause o) x ≡ Err c
    → template_result r ≡ Err c
class_refused None x r c refuses e = absurd cc
class_refused (Some f) x r c refuses e =
    let same : template_cause f ≡ c = cc in
    ap template_result (refuses f refl) ∙ ap (λ k. Err k) same

pub scenario_refused : {X : Type 0} (o : Option ScenarioFault) (x : X) (r : Result (Unit {0}) ScenarioFault) (c : Cause)
    → ((f : ScenarioFault) → o ≡ Some f → r ≡ Err f) → unless (option_map scenario_cause o) x ≡ Err c
    → scenario_result r ≡ Err c
scenario_refused None x r c refuses e = absurd cc
scenario_refused (Some f) x r c refuses e =
    let same : scenario_cause f ≡ c = cc in
    ap scenario_result (refuses f refl) ∙ ap (λ k. Err k) same

-- a first timeout that fits is refused only where one was stated
pub fit_cause : (b d : Bool) → first_line ((not b, fault.Range) ∷ []) ≡ None
    → first_line ((not b, Range) ∷ (d, Duplicate) ∷ []) ≡ cond d (Some Duplicate) None
fit_cause true true h = refl
fit_cause true false h = refl
fit_cause false d h = absurd cc

-- one that does not fit is refused for that
pub unfit_cause : (b d : Bool) (f : TemplateFault) → first_line ((not b, fault.Range) ∷ []) ≡ Some f
    → first_line ((not b, Range) ∷ (d, Duplicate) ∷ []) ≡ Some (template_cause f)
unfit_cause true d f h = absurd cc
unfit_cause false d f h = let same : fault.Range ≡ f = cc in ap (λ k. Some (template_cause k)) same

pub needs_given : {X : Type 0} (b : Bool) (x : Result X Cause) (c : Cause) → b ≡ true → needs b x ≡ Err c → x ≡ Err c
needs_given true x c h e = e
needs_given false x c h e = absurd cc
