-- Ports of which something was taken tell what they told; rows are repeated that were to be.
use Rattle.std.proofs.Common.{ℕ, ◌≡◌, ◌<◌, ◌∙◌, Bool, List, Option, ap, get_or, length, slice_get, subst, sym}
use Rattle.std.proofs.lemmas.Option.{slice_get-get_or, slice_get_within}
use Rattle.scenario_image.specs.Scenario.{Scenario}
use Rattle.fleet_link.specs.declared.slot.Slot.{Slot}
use Rattle.fleet_link.specs.Serving.{repeats_in, AreRepeated, IsFleet, IsRowServed}
use Rattle.fleet_link.specs.Timing.{AreAsked}
use Rattle.fleet_link.specs.Traffic.{Traffic}
use Rattle.fleet_wire.specs.declared.note.Note.{Note}
use Rattle.fleet_lines.specs.declared.counted.Account.{Account}
use Rattle.fleet_lines.specs.Counting.{IsAccount, PlannedWire}

pub fleet_as : (s : Scenario) (played : Bool) (before : ℕ → Option Traffic) (slots : List Slot) (now : ℕ)
    (broken : Bool) (told same : ℕ → Option Traffic) → ((e : ℕ) → same e ≡ told e)
    → IsFleet s played before slots now broken told
    → IsFleet s played before slots now broken same
fleet_as s played before slots now broken told same are h = record {
  count = h.count;
  each = λ e slot at. subst (IsRowServed s played e (before e) slot broken) (sym (are e)) (h.each e slot at);
  early = h.early;
  made = h.made;
  met = h.met;
}

-- rows that were to be repeated still are, and no others
pub repeated_as : (old new : List Slot) (repeat : Bool) → length new ≡ length old
    → ((e : ℕ) → repeats_in (slice_get new e) ≡ repeats_in (slice_get old e)) → AreRepeated old repeat
    → AreRepeated new repeat
repeated_as old new repeat same kept were e slot at =
    let within : e < length old = subst (λ n. e < n) same (slice_get_within new e slot at) in
    let was = slice_get-get_or old e slot within in
    ap repeats_in (sym at) ∙ kept e ∙ ap repeats_in was ∙ were e (get_or old e slot) was

pub asked_as : (rb ra ab told same : Option (List ℕ)) (first : Option ℕ) (now calls : ℕ) → same ≡ told
    → AreAsked rb ra ab told first now calls → AreAsked rb ra ab same first now calls
asked_as rb ra ab told same first now calls is h = subst (λ a. AreAsked rb ra ab a first now calls) (sym is) h

pub account_as : (was wire : Option PlannedWire) (told : ℕ → Option Traffic) (notes : List Note) (account : Account)
    → wire ≡ was → IsAccount wire told notes account → IsAccount was told notes account
account_as was wire told notes account same h = subst (λ w. IsAccount w told notes account) same h
