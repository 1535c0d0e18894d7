-- The answer to `why D`, put together from its parts.
use Rattle.std.proofs.Common.{◌≡◌, ℕ, ◌<◌, ◌≤◌, List, length, Option, Some, Result, Ok, Err, IfOk, codes, sym, subst}
use Rattle.std.proofs.Common.{arith}
use Rattle.device_machine.specs.State.{Device, Machine, Shows}
use Rattle.device_machine.specs.declared.event.Event.TheVariants.{Recv}
use Rattle.scenario_image.specs.declared.step.Step.{Step}
use Rattle.scenario_image.specs.declared.step.Step.TheVariants.{Event}
use Rattle.scenario_words.specs.Words.{ended_line}
use Rattle.debugger.specs.Session.{Session}
use Rattle.debugger.specs.Shown.{ShowsState, before_shown, step_shown}
use Rattle.debug_answers.specs.Why.{IsWhyAnswer, IsWhyLine, IsWhyOf}

-- of a device that the scenario has
pub why_there : (v : Session) (d : ℕ) (text : List ℕ) (step : Option Step) → d < length v.scenario.rows
    → step ≡ step_shown v.scenario v.entries v.place d
    → IsWhyOf step (before_shown v.scenario v.entries v.place d) text → IsWhyAnswer v d text
why_there v d text step row is why = record {
  device_there = λ _. subst (λ s. IsWhyOf s (before_shown v.scenario v.entries v.place d) text) is why;
  no_device = λ past. absurd (omega (arith, row, past));
}

-- of one that it has not
pub why_nowhere : (v : Session) (d : ℕ) (text : List ℕ) → length v.scenario.rows ≤ d
    → text ≡ ended_line (codes "no device") → IsWhyAnswer v d text
why_nowhere v d text past is = record {
  device_there = λ row. absurd (omega (arith, row, past));
  no_device = λ _. is;
}

-- a datagram arrived
pub why_arrived : {T E : Type 0}
    → (said : T → List ℕ) (v : Session) (d : ℕ) (step : Option Step) (server : ℕ) (bytes : List ℕ) (x : Device)
    (r : Result T E) → d < length v.scenario.rows → step ≡ step_shown v.scenario v.entries v.place d
    → step ≡ Some (Event (Recv server bytes)) → ShowsState (before_shown v.scenario v.entries v.place d) x
    → ((f : Machine) → Shows x f → IfOk r (λ text. IsWhyLine f server bytes (said text)))
    → IfOk r (λ text. IsWhyAnswer v d (said text))
why_arrived said v d step server bytes x (Ok text) row is came (f, before, shows) why =
    why_there v d (said text) step row is
    (subst (λ s. IsWhyOf s (before_shown v.scenario v.entries v.place d) (said text)) (sym came)
    (f, before, why f shows))
why_arrived said v d step server bytes x (Err e) row is came shown why = tt
