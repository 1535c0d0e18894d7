-- What is held of a device before its first step, and after its last one.
use Rattle.std.proofs.Common.{◌≡◌, ℕ, ◌+◌, ◌⊎◌, inl, inr, true, false, List, [], ◌∷◌, ◌++◌, length, Option, None, Some}
use Rattle.std.proofs.Common.{slice_get, refl, sym, ap, subst, ◌∙◌, arith, length-append}
use Rattle.std.proofs.lemmas.Bool.{false_from_ne_true, false≢true}
use Rattle.lemmas.proofs.Lists.{pushed_cases}
use Rattle.device_template.specs.Template.{Template}
use Rattle.device_machine.specs.State.{Device, HaveSameMembers, Shows}
use Rattle.scenario_image.specs.declared.step.Step.{Step}
use Rattle.scenario_image.specs.Play.{start, device_showing, IsRowOf}
use Rattle.scenario_image.specs.Scenario.{Scenario}
use Rattle.fleet_core.specs.Run.{step_at}
use Rattle.fleet_core.specs.Board.{ShowsAfter, HoldsAfter, Holding, AreParked}
use Rattle.fleet_core.proofs.Started.{IsClassOf, never}

-- a device that is there
pub here_after : (s : Scenario) (d k : ℕ) (x : Device) → ShowsAfter s d k x
    → HoldsAfter s d k (record { shown = x; fresh = false; gone = false })
here_after s d k x shows = record {
  shows = shows;
  fresh = λ e. absurd (false≢true e);
  gone = λ e. absurd (false≢true e);
}

-- a device that is yet to be started has made no step, so it is at its next one once it is started
pub started : (s : Scenario) (d k : ℕ) (held : Holding) (x : Device) → HoldsAfter s d k held → held.fresh ≡ true
    → ((class : Template) (steps : List Step) → IsRowOf s d class steps → Shows x (start class)) → ShowsAfter s d k x
started s d k held x holds fresh shows = subst (λ i. ShowsAfter s d i x) (sym (holds.fresh fresh)) shows

-- before its first step there is the start of its class
pub fresh_holds : (s : Scenario) (d : ℕ) (v class : Template) → IsClassOf s d class → v ≡ class
    → HoldsAfter s d 0 (record { shown = device_showing (start v); fresh = true; gone = false })
unfolding HaveSameMembers
fresh_holds s d v class is same = record {
  shows = λ c steps row. subst (λ t. Shows (device_showing (start v)) (start t)) (same ∙ is c steps row)
      (record { ready = refl; kept = refl; recorded = λ r. ((λ h. h), (λ h. h)) });
  fresh = λ e. refl;
  gone = λ e. absurd (false≢true e);
}

-- one whose memory was let go of has no step left
pub not_gone : (s : Scenario) (d k : ℕ) (step : Step) (held : Holding) → step_at s d k ≡ Some step
    → HoldsAfter s d k held → held.gone ≡ false
not_gone s d k step held at holds =
    false_from_ne_true held.gone (λ gone. let e : None ≡ Some step = sym (holds.gone gone) ∙ at in cc)

-- where there is no next step, the memory may be let go of
pub let_go_then : (s : Scenario) (d k : ℕ) (next : Option Step) (old new : Holding) → next ≡ None
    → new.shown ≡ old.shown → new.fresh ≡ old.fresh → next ≡ step_at s d k → HoldsAfter s d k old
    → HoldsAfter s d k new
let_go_then s d k next old new end same fresh is holds = record {
  shows = subst (ShowsAfter s d k) (sym same) holds.shows;
  fresh = λ e. holds.fresh (sym fresh ∙ e);
  gone = λ e. sym is ∙ end;
}

-- ---- all devices, before their first steps

-- what is held of the devices of the first rows
pub record AreBegun (s : Scenario) (n : ℕ) (devices : List Holding) : Type 0 where
  pub count : length devices ≡ n
  pub parked : AreParked s [] devices

pub none_begun : (s : Scenario) → AreBegun s 0 []
none_begun s = record { count = refl; parked = record { each = λ d x e. absurd (never d x e) } }

begun_by : (s : Scenario) (n d : ℕ) (devices : List Holding) (x y : Holding) → length devices ≡ n
    → HoldsAfter s n 0 y → (slice_get devices d ≡ Some x → HoldsAfter s d 0 x)
    → (slice_get devices d ≡ Some x) ⊎ ((d ≡ length devices) × (y ≡ x)) → HoldsAfter s d 0 x
begun_by s n d devices x y count here before (inl h) = before h
begun_by s n d devices x y count here before (inr h) =
    subst (λ i. HoldsAfter s i 0 x) (sym (h.0 ∙ count)) (subst (HoldsAfter s n 0) h.1 here)

-- with the device of one row more
pub more_begun : (s : Scenario) (n : ℕ) (devices more : List Holding) (y : Holding) → AreBegun s n devices
    → more ≡ devices ++ y ∷ [] → HoldsAfter s n 0 y → AreBegun s (n + 1) more
more_begun s n devices more y first e here = record {
  count = omega (arith, first.count, ap length e, length-append devices (y ∷ []));
  parked = record {
    each =
        λ d x at. begun_by s n d devices x y first.count here (first.parked.each d x)
        (pushed_cases devices y d x (ap (λ l. slice_get l d) (sym e) ∙ at));
  };
}
