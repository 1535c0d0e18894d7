-- What a debugger keeps, at its start, at another place and with other breakpoints.
use Rattle.std.proofs.Common.{◌≡◌, ℕ, ◌+◌, ◌-◌, ◌*◌, ◌<◌, ◌≤◌, ◌↔◌, List, length, take, get_or, nat_lt, true}
use Rattle.std.proofs.Common.{false, replicate, Option, None, Some, slice_get, slice_set, refl, sym, ap, subst, ◌∙◌}
use Rattle.std.proofs.Common.{arith, slice_range}
use Rattle.std.proofs.lemmas.List.{length-replicate, length-set}
use Rattle.std.proofs.lemmas.Bool.{ltb-true, ltb-false}
use Rattle.std.proofs.lemmas.Option.{slice_get_within, slice_get_read}
use Rattle.lemmas.proofs.Lists.{take_none}
use Rattle.lwm2m_values.specs.declared.value.Value.{Value}
use Rattle.object_defs.specs.Path.{full_path}
use Rattle.object_defs.specs.declared.path.Path.{Path}
use Rattle.notifier.specs.declared.observation.Observation.{Observation}
use Rattle.device_machine.specs.State.{Device, value_in}
use Rattle.device_machine.specs.declared.output.Output.{Output}
use Rattle.scenario_image.specs.Scenario.{Scenario, IsValid}
use Rattle.trace_file.specs.declared.entry.Entry.{Entry}
use Rattle.fleet_core.specs.Run.{made_by, IsRun}
use Rattle.fleet_core.specs.Board.{AreStarted, ShowsAfter}
use Rattle.fleet_core.proofs.Taken.{shows_first}
use Rattle.debugger.specs.declared.breaks.Break.{Break}
use Rattle.debugger.specs.Copies.{AreCopied}
use Rattle.device_entries.specs.Places.{ArePlaced}
use Rattle.debugger.specs.Shown.{latest, value_shown, observations_shown, outputs_shown}
use Rattle.debugger.specs.Session.{Session, IsSession, Fields, IsDebugger, AreAt, AreCounted, most_breaks, at_place}
use Rattle.debugger.specs.Session.{with_breaks, with_replayed}
use Rattle.debugger.specs.Moves.{steps_to}
use Rattle.debugger.specs.Replayed.{devices_between, events_among, IsReplayedBack}
use Rattle.debugger.specs.Breaks.{IsTaken, AreAllTaken, IsAdded}
use Rattle.debugger.proofs.Rows.{value_is, observations_are}
use Rattle.debugger.proofs.Numbers.{free_not_all, all_taken}
use Rattle.debugger.proofs.Replaying.{few_on, replayed_back, steps_back, steps_on}

pub kept_start : (s : Scenario) (es : List Entry) (f : Fields) → f.place ≡ 0 → IsRun s es
    → AreCounted s (take 0 es) f.made → length f.devices ≡ length s.rows → AreStarted s f.devices
    → f.breaks ≡ replicate most_breaks None → AreCopied s es f.copies → length f.places ≡ length s.rows
    → ArePlaced es (length es) f.places → IsDebugger s es f
kept_start s es f first run counted count started free copied listed placed = record {
  run = run;
  within = omega (arith, first);
  slots = ap length free ∙ length-replicate {A = Option Break} most_breaks None;
  counted = subst (λ n. AreCounted s (take n es) f.made) (sym first) counted;
  count = count;
  shown = record {
    each = λ d x at.
        let within : d < length s.rows = omega (arith, slice_get_within f.devices d x at, count) in
        subst (λ k. ShowsAfter s d k x) (sym (counted.is d within ∙ ap (made_by d) (take_none es)))
        (shows_first s f.devices d x started at);
  };
  copied = copied;
  listed = listed;
  placed = placed;
}

pub kept_moved : (s : Scenario) (es : List Entry) (f : Fields) (to : ℕ) (counts : List ℕ) (new : List Device)
    → IsDebugger s es f → to ≤ length es → AreCounted s (take to es) counts → length new ≡ length f.devices
    → AreAt s counts new → IsDebugger s es (record f { place = to; made = counts; devices = new })
kept_moved s es f to counts new kept within counted count at = record {
  run = kept.run;
  within = within;
  slots = kept.slots;
  counted = counted;
  count = count ∙ kept.count;
  shown = at;
  copied = kept.copied;
  listed = kept.listed;
  placed = kept.placed;
}

pub kept_break : (s : Scenario) (es : List Entry) (f : Fields) (slot : ℕ) (point : Option Break) → IsDebugger s es f
    → IsDebugger s es (record f { breaks = slice_set f.breaks slot point })
kept_break s es f slot point kept = record {
  run = kept.run;
  within = kept.within;
  slots = length-set f.breaks slot point ∙ kept.slots;
  counted = kept.counted;
  count = kept.count;
  shown = kept.shown;
  copied = kept.copied;
  listed = kept.listed;
  placed = kept.placed;
}

-- a session of these parts
abbrev pub seen : Scenario → List Entry → ℕ → List (Option Break) → ℕ → Session
seen s es place breaks replayed =
    record { scenario = s; entries = es; place = place; breaks = breaks; replayed = replayed }

-- the state that a device of a session shows
pub shows_at : (s : Scenario) (es : List Entry) (f : Fields) (d : ℕ) (x : Device) → IsDebugger s es f
    → slice_get f.devices d ≡ Some x → ShowsAfter s d (made_by d (take f.place es)) x
shows_at s es f d x kept at =
    let within : d < length s.rows = omega (arith, slice_get_within f.devices d x at, kept.count) in
    subst (λ k. ShowsAfter s d k x) (kept.counted.is d within) (kept.shown.each d x at)

pub row_at : (s : Scenario) (es : List Entry) (f : Fields) (d : ℕ) (x : Device) → IsDebugger s es f
    → slice_get f.devices d ≡ Some x → d < length s.rows
row_at s es f d x kept at = omega (arith, slice_get_within f.devices d x at, kept.count)

pub iff_yes : {P Q : Type 0} → P → Q → P ↔ Q
iff_yes p q = ((λ _. q), (λ _. p))

pub iff_no : {P Q : Type 0} → (P → ⊥) → (Q → ⊥) → P ↔ Q
iff_no p q = ((λ h. absurd (p h)), (λ h. absurd (q h)))

-- what is kept of a session
pub record IsInside (v : Session) (s : Scenario) (es : List Entry) (f : Fields) (replayed : ℕ) : Type 0 where
  pub view : seen s es f.place f.breaks replayed ≡ v
  pub kept : IsDebugger s es f

pub inside_is : {s : Scenario} {es : List Entry} {f : Fields} (v : Session) (replayed : ℕ) → IsDebugger s es f
    → seen s es f.place f.breaks replayed ≡ v → IsInside v s es f replayed
inside_is v replayed kept view = record { view = view; kept = kept }

pub session_is : {v : Session} {s : Scenario} {es : List Entry} {f : Fields} {replayed : ℕ}
    → IsInside v s es f replayed → IsSession v
session_is inside =
    subst IsSession inside.view
    (record { run = inside.kept.run; within = inside.kept.within; slots = inside.kept.slots })

pub row_in : {v : Session} {s : Scenario} {es : List Entry} {f : Fields} {replayed : ℕ} (d : ℕ)
    → IsInside v s es f replayed → d < length f.devices → d < length v.scenario.rows
row_in d inside within = subst (λ w. d < length w.scenario.rows) inside.view (omega (arith, within, inside.kept.count))

pub row_out : {v : Session} {s : Scenario} {es : List Entry} {f : Fields} {replayed : ℕ} (d : ℕ)
    → IsInside v s es f replayed → length f.devices ≤ d → d < length v.scenario.rows → ⊥
row_out {s = s} d inside past within =
    let h : d < length s.rows = subst (λ w. d < length w.scenario.rows) (sym inside.view) within in
    omega (arith, h, past, inside.kept.count)

pub value_here : {v : Session} {s : Scenario} {es : List Entry} {f : Fields} {replayed : ℕ} (d : ℕ) (x : Device)
    (path : Path) (r : Option Value) → IsInside v s es f replayed → IsValid s → slice_get f.devices d ≡ Some x
    → r ≡ value_in x.flat.kept (full_path path) → r ≡ value_shown v.scenario v.entries v.place d path
value_here {s = s} {es = es} {f = f} d x path r inside valid at is =
    subst (λ w. r ≡ value_shown w.scenario w.entries w.place d path) inside.view
    (is ∙ value_is s d (made_by d (take f.place es)) x path valid (row_at s es f d x inside.kept at)
    (shows_at s es f d x inside.kept at))

pub observations_here : {v : Session} {s : Scenario} {es : List Entry} {f : Fields} {replayed : ℕ} (d : ℕ)
    (x : Device) (r : List Observation) → IsInside v s es f replayed → IsValid s → slice_get f.devices d ≡ Some x
    → r ≡ x.flat.kept.observations → r ≡ observations_shown v.scenario v.entries v.place d
observations_here {s = s} {es = es} {f = f} d x r inside valid at is =
    subst (λ w. r ≡ observations_shown w.scenario w.entries w.place d) inside.view
    (is ∙ observations_are s d (made_by d (take f.place es)) x valid (row_at s es f d x inside.kept at)
    (shows_at s es f d x inside.kept at))

pub outputs_here : {v : Session} {s : Scenario} {es : List Entry} {f : Fields} {replayed : ℕ} (d : ℕ)
    (r : List Output) → IsInside v s es f replayed → r ≡ latest s d (made_by d (take f.place es))
    → r ≡ outputs_shown v.scenario v.entries v.place d
outputs_here d r inside is = subst (λ w. r ≡ outputs_shown w.scenario w.entries w.place d) inside.view is

-- the same at another place
pub moved_is : {v : Session} {s : Scenario} {es : List Entry} {f : Fields} {replayed : ℕ} (to : ℕ)
    → IsInside v s es f replayed → seen s es to f.breaks replayed ≡ at_place v to
moved_is to inside = ap (λ w. at_place w to) inside.view

-- what was read of a list that is another's
pub got_at : {X : Type 0} (xs ys : List X) (i d : ℕ) (x : X) → ys ≡ xs → i ≡ d → true ≡ nat_lt i (length ys)
    → x ≡ get_or ys i x
    → slice_get xs d ≡ Some x
got_at xs ys i d x same is less read =
    subst (λ l. slice_get l d ≡ Some x) same
    (subst (λ j. slice_get ys j ≡ Some x) is (slice_get_read ys (length ys) i x refl
    (ltb-true i (length ys) (sym less)) read))

-- nothing was read past the end
pub got_none : {X : Type 0} (xs ys : List X) (i d : ℕ) → ys ≡ xs → i ≡ d → false ≡ nat_lt i (length ys) → length xs ≤ d
got_none xs ys i d same is past =
    let h : length ys ≤ i = ltb-false i (length ys) (sym past) in
    omega (arith, h, ap length same, is)

-- ---- breakpoints

pub all_is : {v : Session} {s : Scenario} {es : List Entry} {f : Fields} {replayed : ℕ} (slots : List (Option Break))
    → IsInside v s es f replayed → slots ≡ f.breaks → ((k : ℕ) → k < length slots → IsTaken slots (k + 1))
    → AreAllTaken v.breaks
all_is slots inside same each =
    subst (λ w. AreAllTaken w.breaks) inside.view
    (subst AreAllTaken same (all_taken slots (ap length same ∙ inside.kept.slots) each))

pub not_all_is : {v : Session} {s : Scenario} {es : List Entry} {f : Fields} {replayed : ℕ}
    (slots : List (Option Break)) (slot : ℕ) → IsInside v s es f replayed → slots ≡ f.breaks
    → slice_get slots slot ≡ Some None → AreAllTaken v.breaks → ⊥
not_all_is {f = f} slots slot inside same free all =
    free_not_all f.breaks slot inside.kept.slots (subst (λ l. slice_get l slot ≡ Some None) same free)
    (subst (λ w. AreAllTaken w.breaks) (sym inside.view) all)

pub added_is : {v : Session} {s : Scenario} {es : List Entry} {f : Fields} {replayed : ℕ}
    (slots : List (Option Break)) (slot : ℕ) (point : Break) → IsInside v s es f replayed → slots ≡ f.breaks
    → slice_get slots slot ≡ Some None → ((k : ℕ) → k < slot → IsTaken slots (k + 1))
    → IsAdded v (seen s es f.place (slice_set f.breaks slot (Some point)) replayed) point (slot + 1)
added_is slots slot point inside same free least = record {
  slot = slot;
  number = refl;
  free = subst (λ w. slice_get w.breaks slot ≡ Some None) inside.view
      (subst (λ l. slice_get l slot ≡ Some None) same free);
  least = λ i less. subst (λ w. IsTaken w.breaks (i + 1)) inside.view
      (subst (λ l. IsTaken l (i + 1)) same (least i less));
  is = ap (λ w. with_breaks w (slice_set w.breaks slot (Some point))) inside.view;
}

-- ---- forward and back

-- where the move was, once its steps are kept
pub moved_by : {v : Session} {s : Scenario} {es : List Entry} {f : Fields} {replayed : ℕ} (between fields : Session)
    (steps : ℕ) (by : ℕ → ℕ) → IsInside v s es f replayed → between ≡ at_place v (by f.place) → fields ≡ between
    → with_replayed fields steps ≡ with_replayed (at_place v (by v.place)) steps
moved_by {v = v} between fields steps by inside moved view =
    ap (λ w. with_replayed w steps) (view ∙ (moved ∙ ap (λ w. at_place v (by w.place)) inside.view))

-- how many steps were made
pub forward_steps : {v : Session} {s : Scenario} {es : List Entry} {f : Fields} {replayed : ℕ} (count steps : ℕ)
    → IsInside v s es f replayed → count ≤ length es - f.place → steps ≡ steps_to v (f.place + count)
    → steps ≡ events_among v.scenario (slice_range v.entries v.place (v.place + count))
forward_steps {v = v} {s = s} {es = es} {f = f} {replayed = replayed} count steps inside more made_steps =
    let within : f.place + count ≤ length es = omega (arith, more, inside.kept.within) in
    let u = seen s es f.place f.breaks replayed in
    let here : steps ≡ steps_to u (f.place + count) =
    subst (λ w. steps ≡ steps_to w (f.place + count)) (sym inside.view) made_steps in
    subst (λ w. steps ≡ events_among w.scenario (slice_range w.entries w.place (w.place + count))) inside.view
    (here ∙ steps_on u (f.place + count) inside.kept.run (omega arith) within)

pub forward_few : (v : Session) (steps count : ℕ)
    → steps ≡ events_among v.scenario (slice_range v.entries v.place (v.place + count)) → steps ≤ count
forward_few v steps count is =
    let few = few_on v.scenario v.entries v.place count in omega (arith, is, few)

-- back to the place it was told
back_to : {v : Session} {s : Scenario} {es : List Entry} {f : Fields} {replayed : ℕ} (count steps : ℕ)
    → IsInside v s es f replayed → steps ≡ steps_to v (f.place - count) → steps ≡ steps_to v (v.place - count)
back_to {v = v} count steps inside made_steps = made_steps ∙ ap (λ w. steps_to v (w.place - count)) inside.view

pub back_steps : {v : Session} {s : Scenario} {es : List Entry} {f : Fields} {replayed : ℕ} (count steps : ℕ)
    → IsInside v s es f replayed → steps ≡ steps_to v (f.place - count)
    → steps ≤ 63 * devices_between v (v.place - count) v.place
back_steps {v = v} count steps inside made_steps =
    subst (λ n. n ≤ 63 * devices_between v (v.place - count) v.place) (sym (back_to count steps inside made_steps))
    (steps_back v (v.place - count) (omega arith))

pub back_exactly : {v : Session} {s : Scenario} {es : List Entry} {f : Fields} {replayed : ℕ} (count steps : ℕ)
    → IsInside v s es f replayed → steps ≡ steps_to v (f.place - count)
    → IsReplayedBack v (v.place - count) steps
back_exactly {v = v} count steps inside made_steps =
    subst (IsReplayedBack v (v.place - count)) (sym (back_to count steps inside made_steps))
    (replayed_back v (v.place - count))
