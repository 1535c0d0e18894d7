-- A move to another place.
use Rattle.std.proofs.Common.{◌≡◌, ℕ, ◌≤◌, List, length, take, refl, sym, ap, subst, ◌∙◌}
use Rattle.device_machine.specs.State.{Device}
use Rattle.scenario_image.specs.Scenario.{Scenario}
use Rattle.trace_file.specs.declared.entry.Entry.{Entry}
use Rattle.debugger.specs.declared.moves.Moved.{Moved}
use Rattle.debugger.specs.Session.{Session, Fields, IsDebugger, AreAt, AreCounted}
use Rattle.debugger.specs.Moves.{AreMoved, steps_over, steps_to}
use Rattle.debugger.proofs.Keeping.{IsInside, kept_moved}

pub to_within : {v : Session} {s : Scenario} {es : List Entry} {f : Fields} {replayed : ℕ} (to : ℕ)
    (read : List Entry) → IsInside v s es f replayed → read ≡ es → to ≤ length v.entries → to ≤ length read
to_within to read inside same within =
    subst (λ l. to ≤ length l) (sym same) (subst (λ w. to ≤ length w.entries) (sym inside.view) within)

pub same_at : (s : Scenario) (made m : List ℕ) (devices ds : List Device) → m ≡ made → ds ≡ devices
    → AreAt s made devices → AreAt s m ds
same_at s made m devices ds p q at = subst (λ l. AreAt s l ds) (sym p) (subst (AreAt s made) (sym q) at)

-- what is to be settled is what was moved
pub same_moves : (s : Scenario) (es read again : List Entry) (to : ℕ) (made m : List ℕ) (devices ds : List Device)
    (moved : List Moved) → read ≡ es → again ≡ es → m ≡ made → ds ≡ devices → AreMoved s (take to read) m ds moved
    → AreMoved s (take to again) made devices moved
same_moves s es read again to made m devices ds moved p q r t are =
    subst (λ l. AreMoved s (take to l) made devices moved) (p ∙ sym q)
    (subst (λ l. AreMoved s (take to read) l devices moved) r
    (subst (λ l. AreMoved s (take to read) m l moved) t are))

pub go_keeps : {v : Session} {s : Scenario} {es : List Entry} {f : Fields} {replayed : ℕ} (to : ℕ) (read : List Entry)
    (counts : List ℕ) (new : List Device) → IsInside v s es f replayed → to ≤ length v.entries → read ≡ es
    → AreCounted s (take to read) counts → length new ≡ length f.devices → AreAt s counts new
    → IsDebugger s es (record f { place = to; made = counts; devices = new })
go_keeps {s = s} {es = es} {f = f} to read counts new inside within p counted count at =
    kept_moved s es f to counts new inside.kept (to_within to es inside refl within)
    (subst (λ l. AreCounted s (take to l) counts) p counted) count at

pub go_steps : {v : Session} {s : Scenario} {es : List Entry} {f : Fields} {replayed : ℕ} (to steps : ℕ)
    (read : List Entry) → IsInside v s es f replayed → read ≡ es → steps ≡ steps_over s read f.place to
    → steps ≡ steps_to v to
go_steps {s = s} {f = f} to steps read inside p is =
    is ∙ (ap (λ l. steps_over s l f.place to) p ∙ ap (λ w. steps_to w to) inside.view)
