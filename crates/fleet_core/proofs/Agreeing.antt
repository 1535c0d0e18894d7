-- Two complete runs of a scenario are the same, device by device.
use Rattle.std.proofs.Common.{◌≡◌, ℕ, zero, suc, ◌<◌, ◌≤◌, eqb, true, cond, ◌⊎◌, inl, inr, List, [], ◌∷◌, ◌++◌, map}
use Rattle.std.proofs.Common.{filter, Some, refl, sym, ap, subst, ◌∙◌, arith}
use Rattle.std.proofs.lemmas.Bool.{eq-eqb, ne_eqb, cases_eq, cases_lt, false≢true}
use Rattle.std.proofs.lemmas.List.{append-nil, map-append}
use Rattle.std.proofs.lemmas.List.Elements.{filter-append}
use Rattle.device_template.specs.Template.{Template}
use Rattle.device_machine.specs.declared.output.Output.{Output}
use Rattle.scenario_image.specs.declared.step.Step.{Step}
use Rattle.scenario_image.specs.Scenario.{Scenario}
use Rattle.scenario_image.specs.Play.{IsRowOf}
use Rattle.trace_file.specs.declared.entry.Entry.{Entry}
use Rattle.fleet_core.specs.Run.{out_at, step_at, made_by, posts_of, Fits, IsRun, IsComplete, IsSame}
use Rattle.fleet_core.specs.Next.{next_of, may_pass}
use Rattle.fleet_core.specs.Run.{outputs_by, outputs_in_row, outputs_with, is_enabled}
use Rattle.fleet_core.proofs.Posts.{run_keeps, made_same, made_other, posts_are, posted-more, pass_more, fits_enabled}
use Rattle.fleet_core.proofs.Posts.{ended_blocked}

-- a device that has made all its entries of a complete run can't go, where there are no more posts than in that run
stuck : (s : Scenario) (a b : List Entry) (d : ℕ) → IsRun s a → IsComplete s b → ((i : ℕ) → made_by i a ≤ made_by i b)
    → made_by d a ≡ made_by d b
    → is_enabled s a d ≡ true → ⊥
stuck s a b d run complete within same go =
    let posts : (g : ℕ) → posts_of s g a ≤ posts_of s g b = λ g.
    omega (
      arith,
      posts_are s g a run,
      posts_are s g b complete.run,
      posted-more g (λ i. made_by i a) (λ i. made_by i b) s.rows within,
    ) in
    let goes : is_enabled s b d ≡ true =
    subst (λ k. may_pass (λ g. posts_of s g b) (next_of (step_at s d k)) ≡ true) same
    (pass_more (λ g. posts_of s g a) (λ g. posts_of s g b) (step_at s d (made_by d a)) posts go) in
    false≢true (sym (ended_blocked s b complete d) ∙ goes)

within_push : (s : Scenario) (a b : List Entry) (e : Entry) → IsRun s a → IsComplete s b
    → ((i : ℕ) → made_by i a ≤ made_by i b) → Fits s a e
    → (d : ℕ) → (e.device ≡ d) ⊎ (e.device ≡ d → ⊥) → made_by d (a ++ e ∷ []) ≤ made_by d b
within_push s a b e run complete within fits d (inr other) = omega (arith, made_other d a e other, within d)
within_push s a b e run complete within fits d (inl own) =
    let room : (made_by d a < made_by d b) ⊎ (made_by d b ≤ made_by d a) = cases_lt (made_by d a) (made_by d b) in
    elim room [
      | inl less ↦ omega (arith, made_same d a e own, less)
      | inr all ↦ absurd (stuck s a b e.device run complete within
          (subst (λ i. made_by i a ≡ made_by i b) (sym own) (omega (arith, all, within d))) (fits_enabled s a e fits))
    ]

-- a run makes no more entries of a device than a complete run does
pub made_within : (s : Scenario) (a b : List Entry) → IsRun s a → IsComplete s b → (d : ℕ) → made_by d a ≤ made_by d b
made_within s a b run complete =
    run_keeps s (λ l. (d : ℕ) → made_by d l ≤ made_by d b) (λ d. omega arith)
    (λ l e before within fits d. within_push s l b e before complete within fits d (cases_eq e.device d)) a run

-- ---- outputs

-- what the first k steps of a device output
abbrev pub outs : Scenario → ℕ → ℕ → List (List Output)
outs s d zero = []
outs s d (suc k) = outs s d k ++ out_at s d k ∷ []

by_push : (d : ℕ) (es : List Entry) (e : Entry)
    → outputs_by d (es ++ e ∷ []) ≡ outputs_by d es ++ map (λ x. x.outputs) (cond (eqb e.device d) (e ∷ []) [])
by_push d es e =
    ap (map (λ x. x.outputs)) (filter-append (λ x. eqb x.device d) es (e ∷ []))
    ∙ map-append (λ x. x.outputs) (filter (λ x. eqb x.device d) es) (cond (eqb e.device d) (e ∷ []) [])

outs_push : (s : Scenario) (d : ℕ) (es : List Entry) (e : Entry) → Fits s es e
    → outputs_by d es ≡ outs s d (made_by d es) → (e.device ≡ d) ⊎ (e.device ≡ d → ⊥)
    → outputs_by d (es ++ e ∷ []) ≡ outs s d (made_by d (es ++ e ∷ []))
outs_push s d es e fits same (inl own) =
    let put : e.outputs ≡ out_at s d (made_by d es) =
    fits.outputs ∙ (ap (λ k. out_at s e.device k) fits.count ∙ ap (λ i. out_at s i (made_by i es)) own) in
    by_push d es e
    ∙ (ap (λ b. outputs_by d es ++ map (λ x. x.outputs) (cond b (e ∷ []) [])) (eq-eqb e.device d own)
    ∙ (ap (λ o. outputs_by d es ++ o ∷ []) put
    ∙ (ap (λ l. l ++ out_at s d (made_by d es) ∷ []) same
    ∙ ap (outs s d) (sym (made_same d es e own)))))
outs_push s d es e fits same (inr other) =
    by_push d es e
    ∙ (ap (λ b. outputs_by d es ++ map (λ x. x.outputs) (cond b (e ∷ []) [])) (ne_eqb e.device d other)
    ∙ (append-nil (outputs_by d es)
    ∙ (same ∙ ap (outs s d) (sym (made_other d es e other)))))

pub outputs_are : (s : Scenario) (d : ℕ) (es : List Entry) → IsRun s es → outputs_by d es ≡ outs s d (made_by d es)
outputs_are s d es run =
    run_keeps s (λ l. outputs_by d l ≡ outs s d (made_by d l)) refl
    (λ l e before same fits. outs_push s d l e fits same (cases_eq e.device d)) es run

-- two complete runs have as many entries of each device, and these output the same
pub same_made : (s : Scenario) (a b : List Entry) → IsComplete s a → IsComplete s b → (d : ℕ) → IsSame d a b
same_made s a b x y d =
    let made : made_by d a ≡ made_by d b = omega (arith, made_within s a b x.run y d, made_within s b a y.run x d) in
    record { made = made; outputs = outputs_are s d a x.run ∙ (ap (outs s d) made ∙ sym (outputs_are s d b y.run)) }

-- ---- devices of the same class with the same steps

pub out_of_row : (s : Scenario) (d : ℕ) (class : Template) (steps : List Step) → IsRowOf s d class steps → (k : ℕ)
    → out_at s d k ≡ outputs_with (Some class) steps k
out_of_row s d class steps row k =
    ap (λ o. outputs_in_row s o k) row.row ∙ ap (λ c. outputs_with c steps k) row.stated

outs_alike : (s t : Scenario) (d e : ℕ) (class : Template) (steps : List Step) → IsRowOf s d class steps
    → IsRowOf t e class steps → (k : ℕ) → outs s d k ≡ outs t e k
outs_alike s t d e class steps one other zero = refl
outs_alike s t d e class steps one other (suc k) =
    ap (λ l. l ++ out_at s d k ∷ []) (outs_alike s t d e class steps one other k)
    ∙ ap (λ o. outs t e k ++ o ∷ [])
    (out_of_row s d class steps one k ∙ sym (out_of_row t e class steps other k))

-- in runs of two scenarios, in which they have as many entries, they output the same
pub alike : (s t : Scenario) (a b : List Entry) (d e : ℕ) (class : Template) (steps : List Step) → IsRun s a
    → IsRun t b → IsRowOf s d class steps → IsRowOf t e class steps → made_by d a ≡ made_by e b
    → outputs_by d a ≡ outputs_by e b
alike s t a b d e class steps run other row same made =
    outputs_are s d a run
    ∙ (ap (outs s d) made
    ∙ (outs_alike s t d e class steps row same (made_by e b) ∙ sym (outputs_are t e b other)))
