-- The devices before which all others are at the ends of their rows.
use Rattle.std.proofs.Common.{◌≡◌, ℕ, ◌<◌, ◌⊎◌, inl, inr, true, false, List, set, Some, slice_get}
use Rattle.std.proofs.Common.{sym, subst, ◌∙◌, arith}
use Rattle.std.proofs.lemmas.Bool.{cases_eq, false≢true, not-true}
use Rattle.lemmas.proofs.Lists.{set_elsewhere}
use Rattle.scenario_image.specs.Scenario.{Scenario}
use Rattle.trace_file.specs.declared.entry.Entry.{Entry}
use Rattle.fleet_core.specs.Waiting.{is_waiting}
use Rattle.device_stations.specs.declared.station.Station.{Station}
use Rattle.device_stations.specs.Stations.{is_end}
use Rattle.shared_trace.specs.Kept.{IsTrace}
use Rattle.device_stations.specs.Stations.{AreEnded}
use Rattle.shared_trace.proofs.Stations.{left_is}

pub none_ended : (stations : List Station) → AreEnded stations 0
none_ended stations i x less at = absurd (omega (arith, less))

pub ended_at : (stations l : List Station) (low : ℕ) → l ≡ stations → AreEnded stations low → AreEnded l low
ended_at stations l low el ended = subst (λ k. AreEnded k low) (sym el) ended

ended_by : (stations : List Station) (low d i : ℕ) (x y z : Station) → AreEnded stations low
    → slice_get stations d ≡ Some x → is_end x.next ≡ false → i < low → slice_get (set stations d y) i ≡ Some z
    → (d ≡ i) ⊎ (d ≡ i → ⊥) → is_end z.next ≡ true
ended_by stations low d i x y z ended at going less here (inl own) =
    absurd (false≢true (sym going ∙ ended d x (subst (λ j. j < low) (sym own) less) at))
ended_by stations low d i x y z ended at going less here (inr other) =
    ended i z less (sym (set_elsewhere stations d i y other) ∙ here)

-- a device with a step left is none of those, so its station may change
pub ended_set : (s : Scenario) (es : List Entry) (stations : List Station) (counts : List ℕ) (low d i : ℕ)
    (x y : Station) → IsTrace s es stations counts → slice_get stations d ≡ Some x → is_waiting s es d ≡ true
    → i ≡ d → AreEnded stations low → AreEnded (set stations i y) low
ended_set s es stations counts low d i x y t at waits from ended =
    subst (λ j. AreEnded (set stations j y) low) (sym from)
    (λ j z less here. ended_by stations low d j x y z ended at
    (not-true (is_end x.next) (sym (left_is s es stations counts d x t at) ∙ waits)) less here (cases_eq d j))
