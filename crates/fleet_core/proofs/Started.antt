-- Devices that start, one row after another.
use Rattle.std.proofs.Common.{◌≡◌, ℕ, ◌+◌, ◌⊎◌, inl, inr, List, [], ◌∷◌, ◌++◌, length, None, Some, slice_get}
use Rattle.std.proofs.Common.{Result, Ok, Err, IfOk, refl, sym, ap, subst, ◌∙◌, arith, length-append}
use Rattle.lemmas.proofs.Lists.{pushed_cases}
use Rattle.device_template.specs.Template.{Template}
use Rattle.device_machine.specs.State.{Device, Shows}
use Rattle.scenario_image.specs.declared.step.Step.{Step}
use Rattle.scenario_image.specs.Scenario.{Scenario}
use Rattle.scenario_image.specs.Play.{start, IsRowOf}
use Rattle.fleet_core.specs.Board.{AreStarted}

-- the devices of the first rows
pub record AreFirst (s : Scenario) (n : ℕ) (devices : List Device) : Type 0 where
  pub count : length devices ≡ n
  pub started : AreStarted s devices

pub never : {X : Type 0} (k : ℕ) (x : X) → slice_get [] k ≡ Some x → ⊥
never k x h = let e : None ≡ Some x = h in cc

pub none_started : (s : Scenario) → AreFirst s 0 []
none_started s = record { count = refl; started = record { each = λ d x e. absurd (never d x e) } }

by_place : (s : Scenario) (n d : ℕ) (devices : List Device) (x y : Device) → length devices ≡ n
    → ((class : Template) (steps : List Step) → IsRowOf s n class steps → Shows y (start class))
    → (slice_get devices d ≡ Some x → (class : Template) (steps : List Step) → IsRowOf s d class steps
    → Shows x (start class))
    → (slice_get devices d ≡ Some x) ⊎ ((d ≡ length devices) × (y ≡ x)) → (class : Template) (steps : List Step)
    → IsRowOf s d class steps → Shows x (start class)
by_place s n d devices x y count here before (inl h) = before h
by_place s n d devices x y count here before (inr h) = λ class steps row.
    subst (λ z. Shows z (start class)) h.1 (here class steps (subst (λ i. IsRowOf s i class steps) (h.0 ∙ count) row))

-- with the device of one row more
pub more_started : (s : Scenario) (n : ℕ) (devices more : List Device) (y : Device) → AreFirst s n devices
    → more ≡ devices ++ y ∷ []
    → ((class : Template) (steps : List Step) → IsRowOf s n class steps → Shows y (start class))
    → AreFirst s (n + 1) more
more_started s n devices more y first e here = record {
  count = omega (arith, first.count, ap length e, length-append devices (y ∷ []));
  started = record {
    each =
        λ d x at. by_place s n d devices x y first.count here (first.started.each d x)
        (pushed_cases devices y d x (ap (λ l. slice_get l d) (sym e) ∙ at));
  };
}

-- ---- one device, by the class of its row

-- the class is that of the device's row, whatever its steps
abbrev pub IsClassOf : Scenario → ℕ → Template → Type 0
IsClassOf s d class = (c : Template) (steps : List Step) → IsRowOf s d c steps → class ≡ c

pub row_started : {E : Type 0} (s : Scenario) (d : ℕ) (class : Template) (r : Result Device E) → IsClassOf s d class
    → IfOk r (λ x. Shows x (start class))
    → IfOk r (λ x. (c : Template) (steps : List Step) → IsRowOf s d c steps → Shows x (start c))
row_started s d class (Ok x) is shows = λ c steps row. subst (λ t. Shows x (start t)) (is c steps row) shows
row_started s d class (Err e) is shows = tt
