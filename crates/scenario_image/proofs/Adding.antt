-- A scenario of one row, whose steps are added one after another.
use Rattle.std.proofs.Common.{◌≡◌, ℕ, zero, suc, ◌<◌, ◌⊎◌, inl, inr, List, [], ◌∷◌, ◌++◌, length, take, Option}
use Rattle.std.proofs.Common.{None, Some, slice_get, refl, sym, ap, subst, ◌∙◌, arith}
use Rattle.std.proofs.lemmas.List.{take_at, take-append-le}
use Rattle.std.proofs.lemmas.Option.{slice_get_within}
use Rattle.lemmas.proofs.Lists.{pushed_cases}
use Rattle.device_template.specs.Template.{Template}
use Rattle.scenario_image.specs.declared.step.Step.{Step}
use Rattle.scenario_image.specs.declared.fault.ScenarioFault.{ScenarioFault}
use Rattle.scenario_image.specs.Scenario.{one_row, step_fault, AreTaken, IsFirstRefusal}

-- the steps of a front stand in the whole
in_whole : {X : Type 0} (front rest : List X) (k : ℕ) → k < length front
    → slice_get (front ++ rest) k ≡ slice_get front k
in_whole [] rest k lt = absurd (omega (arith, lt))
in_whole (x ∷ front) rest zero lt = refl
in_whole (x ∷ front) rest (suc k) lt = in_whole front rest k (omega (arith, lt))

behind_front : {X : Type 0} (front rest : List X) (x : X) → slice_get (front ++ x ∷ rest) (length front) ≡ Some x
behind_front [] rest x = refl
behind_front (y ∷ front) rest x = behind_front front rest x

none_yet : (class : Template) → AreTaken class [] 0
none_yet class k step lt at = absurd (omega (arith, lt))

pub none_if : (o : Option ScenarioFault) → ((f : ScenarioFault) → o ≡ Some f → ⊥) → o ≡ None
none_if None never = refl
none_if (Some f) never = absurd (never f refl)

-- one step more is taken
pub one_more : (class : Template) (xs : List Step) (x : Step) → AreTaken class xs (length xs)
    → step_fault (one_row class xs) x ≡ None → AreTaken class (xs ++ x ∷ []) (length (xs ++ x ∷ []))
one_more class xs x taken ok k step lt at = told (pushed_cases xs x k step at)
  where
    told : (slice_get xs k ≡ Some step) ⊎ ((k ≡ length xs) × (x ≡ step))
        → step_fault (one_row class (take k (xs ++ x ∷ []))) step ≡ None
    told (inl h) =
        let below : k < length xs = slice_get_within xs k step h in
        let same : take k (xs ++ x ∷ []) ≡ take k xs = take-append-le k xs (x ∷ []) (omega (arith, below)) in
        ap (λ ys. step_fault (one_row class ys) step) same ∙ taken k step below h
    told (inr h) =
        let same : take k (xs ++ x ∷ []) ≡ xs = take_at xs (x ∷ []) k (sym h.0) in
        ap (λ ys. step_fault (one_row class ys) step) same ∙ ap (λ s. step_fault (one_row class xs) s) (sym h.1) ∙ ok

-- the first that is refused
pub refused_here : (class : Template) (steps xs rest : List Step) (x : Step) (f : ScenarioFault)
    → xs ++ x ∷ rest ≡ steps → AreTaken class xs (length xs) → step_fault (one_row class xs) x ≡ Some f
    → IsFirstRefusal class steps f
refused_here class steps xs rest x f all taken refused = subst (λ ys. IsFirstRefusal class ys f) all (record {
  place = length xs;
  step = x;
  stands = behind_front xs rest x;
  taken = λ k step lt at.
      ap (λ ys. step_fault (one_row class ys) step) (take-append-le k xs (x ∷ rest) (omega (arith, lt)))
      ∙ taken k step lt (sym (in_whole xs (x ∷ rest) k lt) ∙ at);
  refused = ap (λ ys. step_fault (one_row class ys) x) (take_at xs (x ∷ rest) (length xs) refl) ∙ refused;
})

-- where all are taken, none is refused
pub none_refused : (class : Template) (steps : List Step) (f : ScenarioFault) → AreTaken class steps (length steps)
    → IsFirstRefusal class steps f → ⊥
none_refused class steps f taken r =
    let e : None ≡ Some f =
    sym (taken r.place r.step (slice_get_within steps r.place r.step r.stands) r.stands) ∙ r.refused in
    cc

-- of two refusals that are first, neither stands before the other
not_before : (class : Template) (steps : List Step) (f g : ScenarioFault) (r : IsFirstRefusal class steps f)
    (q : IsFirstRefusal class steps g) → r.place < q.place → ⊥
not_before class steps f g r q lt =
    let e : None ≡ Some f = sym (q.taken r.place r.step lt r.stands) ∙ r.refused in
    cc

some_is : {X : Type 0} (x y : X) (o : Option X) → o ≡ Some x → o ≡ Some y → x ≡ y
some_is x y o h k = let e : Some x ≡ Some y = sym h ∙ k in cc

pub one_refusal : (class : Template) (steps : List Step) (f g : ScenarioFault) → IsFirstRefusal class steps f
    → IsFirstRefusal class steps g → f ≡ g
one_refusal class steps f g r q =
    let no : r.place < q.place → ⊥ = not_before class steps f g r q in
    let nor : q.place < r.place → ⊥ = not_before class steps g f q r in
    let same : r.place ≡ q.place = omega (arith, no, nor) in
    let step : r.step ≡ q.step =
    some_is r.step q.step (slice_get steps q.place) (ap (slice_get steps) (sym same) ∙ r.stands) q.stands in
    let there : step_fault (one_row class (take q.place steps)) q.step ≡ Some f =
    ap (λ s. step_fault (one_row class (take q.place steps)) s) (sym step)
    ∙ ap (λ k. step_fault (one_row class (take k steps)) r.step) (sym same) ∙ r.refused in
    some_is f g (step_fault (one_row class (take q.place steps)) q.step) there q.refused
