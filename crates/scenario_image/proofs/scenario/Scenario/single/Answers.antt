use Rattle.std.proofs.Common.{◌≡◌, ◌∷◌, [], ◌++◌, length, sym, ap, subst, ◌∙◌, append_assoc, arith}
use Rattle.std.proofs.lemmas.List.{append-nil, nil_from_length}
use Rattle.std.proofs.lemmas.Result.{err_from_is_err_and}
use Rattle.std.specs.Vec.Iter.{into_iter_items}
use Rattle.scenario_image.specs.Scenario.{AreTaken, with_step, step_fault}
use Rattle.scenario_image.proofs.Adding.{none_if, one_more, refused_here, one_refusal, none_refused}
use Rattle.scenario_image.proofs.scenario.Scenario.single.Goals as goal

pub loop-step-preserved : goal.loop-step-preserved
loop-step-preserved c =
    let at = c.loop-step in
    let x = c.in-Some.step in
    let steps : into_iter_items at.step-iterator ≡ x ∷ into_iter_items c.next.new.self = c.in-Some.ensures.steps.0 in
    record {
      left = append_assoc at.yielded (x ∷ []) _ ∙ ap (λ ys. at.yielded ++ ys) (sym steps) ∙ at.invariant.left;
      count = (let was = at.invariant.count in let gone = c.in-Some.ensures.steps.1 in let short =
          ap length steps in omega arith);
      scenario = c.in_ok-add_step.ensures.added ∙ ap (λ s. with_step s x) at.invariant.scenario;
      taken = one_more c.args.class at.yielded x at.invariant.taken
          (ap (λ s. step_fault s x) (sym at.invariant.scenario)
          ∙ none_if (step_fault at.scenario x) (λ f e. let q = c.in_ok-add_step.ensures.refuses f e in cc));
    }

pub returns-in_err-add_step-clause-refused : goal.returns-in_err-add_step-clause-refused
returns-in_err-add_step-clause-refused c =
    let at = c.loop-step in
    let x = c.in-Some.step in
    let steps : into_iter_items at.step-iterator ≡ x ∷ into_iter_items c.next.new.self = c.in-Some.ensures.steps.0 in
    let all = ap (λ ys. at.yielded ++ ys) (sym steps) ∙ at.invariant.left
    ∙ c.into_iter-step-iterator.ensures.into_iter_gives.0 in
    let p = err_from_is_err_and c.from_residual-in_err-add_step.result c.from_residual-in_err-add_step.ensures.1 in
    rw (p.1, p.2) (λ other. refused_here c.args.class c.args.steps.items at.yielded
    (into_iter_items c.next.new.self) x c.in_err-add_step.field-0.0 all at.invariant.taken
    (ap (λ s. step_fault s x) (sym at.invariant.scenario) ∙ c.in_err-add_step.ensures.refused other))

pub returns-in_err-add_step-clause-refuses : goal.returns-in_err-add_step-clause-refuses
returns-in_err-add_step-clause-refuses c =
    let at = c.loop-step in
    let x = c.in-Some.step in
    let steps : into_iter_items at.step-iterator ≡ x ∷ into_iter_items c.next.new.self = c.in-Some.ensures.steps.0 in
    let all = ap (λ ys. at.yielded ++ ys) (sym steps) ∙ at.invariant.left
    ∙ c.into_iter-step-iterator.ensures.into_iter_gives.0 in
    let p = err_from_is_err_and c.from_residual-in_err-add_step.result c.from_residual-in_err-add_step.ensures.1 in
    λ f h. rw (p.1, p.2) (λ other. one_refusal c.args.class c.args.steps.items c.in_err-add_step.field-0.0 f
    (refused_here c.args.class c.args.steps.items at.yielded
    (into_iter_items c.next.new.self) x c.in_err-add_step.field-0.0 all at.invariant.taken
    (ap (λ s. step_fault s x) (sym at.invariant.scenario) ∙ c.in_err-add_step.ensures.refused other)) h)

pub returns-clause-refuses : goal.returns-clause-refuses
returns-clause-refuses c =
    let at = c.loop-step in
    let none = c.in-None.ensures.steps in
    let empty : into_iter_items at.step-iterator ≡ [] = nil_from_length _ (sym at.invariant.count ∙ none.0) in
    let all = sym (append-nil at.yielded) ∙ ap (λ ys. at.yielded ++ ys) (sym empty) ∙ at.invariant.left
    ∙ c.into_iter-step-iterator.ensures.into_iter_gives.0 in
    λ f h. none_refused c.args.class c.args.steps.items f
    (subst (λ ys. AreTaken c.args.class ys (length ys)) all at.invariant.taken) h
