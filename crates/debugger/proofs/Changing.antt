-- Where the value at a path changes.
use Rattle.std.proofs.Common.{◌≡◌, ℕ, ◌+◌, ◌-◌, ◌<◌, ◌≤◌, ◌↔◌, ◌⊎◌, inl, inr, Bool, true, false, IsTrue, not, List, length}
use Rattle.std.proofs.Common.{take, Option, None, Some, slice_get, sym, ap, subst, ◌∙◌, arith}
use Rattle.std.proofs.lemmas.Bool.{both_ways, cases_Bool, not-false, not-true}
use Rattle.std.proofs.lemmas.Option.{same_Some, slice_get_within, some_pair_parts}
use Rattle.lemmas.proofs.Lists.{item_at}
use Rattle.lwm2m_values.specs.declared.value.Value.{Value}
use Rattle.object_defs.specs.Path.{full_path}
use Rattle.object_defs.specs.declared.path.Path.{Path}
use Rattle.device_machine.specs.State.{Device, value_in}
use Rattle.scenario_image.specs.Scenario.{Scenario, IsValid}
use Rattle.trace_file.specs.declared.entry.Entry.{Entry}
use Rattle.fleet_core.specs.Run.{made_by, IsRun}
use Rattle.fleet_core.specs.Board.{ShowsAfter}
use Rattle.debugger.specs.declared.breaks.Break.{Break}
use Rattle.debugger.specs.declared.watches.Watch.{Watch}
use Rattle.debugger.specs.Shown.{state_of, value_of, value_shown}
use Rattle.debugger.specs.Stops.{HasChanged, Holds}
use Rattle.debugger.specs.Moves.{HasSteps}
use Rattle.debugger.specs.Searches.{AreWatched, IsChanged, IsStill, IsStillAt, IsUnchanged, IsWatched, change_in}
use Rattle.device_entries.proofs.Counting.{entry_row}
use Rattle.debugger.proofs.Marking.{change_is}
use Rattle.debugger.proofs.Rows.{value_is}
use Rattle.device_entries.proofs.Runs.{made_else, step_counts}
use Rattle.debugger.proofs.Runs.{has_steps}

-- the value after the first k steps
abbrev pub value_after : Scenario → ℕ → Path → ℕ → Option Value
value_after s d path k = value_of (state_of s d k) path

back_one : (s : Scenario) (es : List Entry) (d i : ℕ) (path : Path)
    → value_shown s es (i + 1 - 1) d path ≡ value_shown s es i d path
back_one s es d i path = let back : i + 1 - 1 ≡ i = omega arith in ap (λ n. value_shown s es n d path) back

-- the entry of another device changes nothing
same_next : (s : Scenario) (es : List Entry) (d i : ℕ) (e : Entry) (path : Path) → slice_get es i ≡ Some e
    → (e.device ≡ d → ⊥) → value_shown s es (i + 1) d path ≡ value_shown s es i d path
same_next s es d i e path at other = ap (value_after s d path) (made_else es d i e at other)

pub same_after : (s : Scenario) (es : List Entry) (d i : ℕ) (e : Entry) (path : Path) → slice_get es i ≡ Some e
    → (e.device ≡ d → ⊥) → HasChanged (λ n. value_shown s es n d path) (i + 1) → ⊥
same_after s es d i e path at other changed =
    changed (back_one s es d i path ∙ sym (same_next s es d i e path at other))

pub still_after : (s : Scenario) (es : List Entry) (devices : List Device) (d i : ℕ) (e : Entry) (path : Path)
    → slice_get es i ≡ Some e → (e.device ≡ d → ⊥) → IsStillAt s es devices i d path
    → IsStillAt s es devices (i + 1) d path
still_after s es devices d i e path at other still = λ x h. same_next s es d i e path at other ∙ still x h

-- the row has the step of an entry
pub steps_next : (s : Scenario) (es : List Entry) (d i : ℕ) (e : Entry) → IsRun s es → slice_get es i ≡ Some e
    → e.device ≡ d → HasSteps s d (e.step + 1)
steps_next s es d i e run at own = subst (HasSteps s d) (step_counts s es d i e run at own)
    (has_steps s es d (i + 1) run)

-- ---- two values that were compared

pub said_differs : (same : Bool) (a b x y : Option Value) → (IsTrue same ↔ (a ≡ b)) → a ≡ x → b ≡ y
    → not same ≡ true → x ≡ y → ⊥
said_differs same a b x y is p q so e = both_ways same (not-true same so) (is.1 (p ∙ (e ∙ sym q)))

pub said_same : (same : Bool) (a b x y : Option Value) → (IsTrue same ↔ (a ≡ b)) → a ≡ x → b ≡ y
    → not same ≡ false → x ≡ y
said_same same a b x y is p q not_so = sym p ∙ (is.0 (not-false same not_so) ∙ q)

-- ---- a copy that has made the step

watched_value : (s : Scenario) (es : List Entry) (n d : ℕ) (path : Path) (watched : List Watch) (x : Device)
    → IsValid s → d < length s.rows → AreWatched s (take n es) watched → IsWatched watched d x
    → value_in x.flat.kept (full_path path) ≡ value_shown s es n d path
watched_value s es n d path watched x valid row are is =
    let there : ShowsAfter s d (made_by d (take n es)) is.one.machine =
    subst (λ j. ShowsAfter s j (made_by j (take n es)) is.one.machine) is.own
    (are.each is.index is.one is.stands) in
    value_is s d (made_by d (take n es)) x path valid row (subst (ShowsAfter s d (made_by d (take n es))) is.is there)

-- what is known where a breakpoint of a value is asked about an entry of its device
pub record IsAsked (s : Scenario) (es : List Entry) (devices : List Device) (watched : List Watch) (d i : ℕ)
    (path : Path) : Type 0 where
  pub valid : IsValid s
  pub row : d < length s.rows
  pub count : length devices ≡ length s.rows
  pub are : AreWatched s (take (i + 1) es) watched
  pub still : IsStillAt s es devices i d path

pub is_asked : (s : Scenario) (es : List Entry) (devices : List Device) (watched : List Watch) (d i : ℕ) (e : Entry)
    (path : Path) → IsValid s → IsRun s es → slice_get es i ≡ Some e → e.device ≡ d → length devices ≡ length s.rows
    → AreWatched s (take (i + 1) es) watched → IsStillAt s es devices i d path
    → IsAsked s es devices watched d i path
is_asked s es devices watched d i e path valid run at own count are still = record {
  valid = valid;
  row = subst (λ j. j < length s.rows) own (entry_row s es i e run at);
  count = count;
  are = are;
  still = still;
}

changed_yes : (s : Scenario) (es : List Entry) (devices : List Device) (watched : List Watch) (d i : ℕ) (path : Path)
    → IsAsked s es devices watched d i path → IsChanged devices watched d path
    → HasChanged (λ n. value_shown s es n d path) (i + 1)
changed_yes s es devices watched d i path asked is = λ h.
    is.differs (sym (asked.still is.before is.stands) ∙ (sym (back_one s es d i path) ∙ (h
    ∙ sym (watched_value s es (i + 1) d path watched is.after asked.valid asked.row asked.are is.watch))))

same_here : (s : Scenario) (es : List Entry) (devices : List Device) (watched : List Watch) (d i : ℕ) (path : Path)
    (x : Device) → IsAsked s es devices watched d i path → slice_get devices d ≡ Some x → IsUnchanged x watched d path
    → value_shown s es (i + 1) d path ≡ value_in x.flat.kept (full_path path)
same_here s es devices watched d i path x asked at is =
    sym (watched_value s es (i + 1) d path watched is.after asked.valid asked.row asked.are is.watch) ∙ sym is.same

changed_by : (s : Scenario) (es : List Entry) (devices : List Device) (watched : List Watch) (d i : ℕ) (path : Path)
    (r : Bool) → IsAsked s es devices watched d i path
    → (r ≡ false → (x : Device) → slice_get devices d ≡ Some x → IsUnchanged x watched d path)
    → HasChanged (λ n. value_shown s es n d path) (i + 1) → (r ≡ true) ⊎ (r ≡ false) → r ≡ true
changed_by s es devices watched d i path r asked still changed (inl so) = so
changed_by s es devices watched d i path r asked still changed (inr not_so) =
    let found = item_at devices d (omega (arith, asked.row, asked.count)) in
    absurd (changed (back_one s es d i path ∙ (asked.still found.0 found.1
    ∙ sym (same_here s es devices watched d i path found.0 asked found.1 (still not_so found.0 found.1)))))

-- the copy says whether the value changes
pub change_said : (s : Scenario) (es : List Entry) (devices : List Device) (watched : List Watch) (d i : ℕ)
    (path : Path) (r : Bool) → IsAsked s es devices watched d i path → (r ≡ true → IsChanged devices watched d path)
    → (r ≡ false → (x : Device) → slice_get devices d ≡ Some x → IsUnchanged x watched d path)
    → IsTrue r ↔ HasChanged (λ n. value_shown s es n d path) (i + 1)
change_said s es devices watched d i path r asked changed still = (
  (λ so. changed_yes s es devices watched d i path asked (changed so)),
  (λ h. changed_by s es devices watched d i path r asked still h (cases_Bool r)),
)

pub still_said : (s : Scenario) (es : List Entry) (devices : List Device) (watched : List Watch) (d i : ℕ) (path : Path)
    (r : Bool) → IsAsked s es devices watched d i path
    → (r ≡ false → (x : Device) → slice_get devices d ≡ Some x → IsUnchanged x watched d path) → r ≡ false
    → IsStillAt s es devices (i + 1) d path
still_said s es devices watched d i path r asked still not_so = λ x at.
    same_here s es devices watched d i path x asked at (still not_so x at)

-- what is known of one device is known of it, however it is read
pub unchanged_at : (devices : List Device) (watched : List Watch) (d : ℕ) (path : Path) (x y : Device)
    → slice_get devices d ≡ Some x → slice_get devices d ≡ Some y → IsUnchanged x watched d path
    → IsUnchanged y watched d path
unchanged_at devices watched d path x y first second is =
    subst (λ z. IsUnchanged z watched d path) (same_Some x y (sym first ∙ second)) is

pub no_device : {P : Type 0} (devices : List Device) (d : ℕ) (x : Device) → length devices ≤ d
    → slice_get devices d ≡ Some x → P
no_device devices d x past at = absurd (omega (arith, past, slice_get_within devices d x at))

-- ---- the breakpoint of a value

pub still_none : (s : Scenario) (es : List Entry) (devices : List Device) (n : ℕ) (b : Break) → change_in b ≡ None
    → IsStill s es devices n b
still_none s es devices n b none = λ d path is.
    let e : ◌≡◌ {A = Option (ℕ × Path)} None (Some (d, path)) = sym none ∙ is in absurd cc

pub still_some : (s : Scenario) (es : List Entry) (devices : List Device) (n d : ℕ) (b : Break) (path : Path)
    → change_in b ≡ Some (d, path) → IsStillAt s es devices n d path → IsStill s es devices n b
still_some s es devices n d b path some still = λ j p is.
    let same = some_pair_parts d j path p (sym some ∙ is) in
    subst (λ k. IsStillAt s es devices n k p) same.0 (subst (IsStillAt s es devices n d) same.1 still)

pub holds_changed : (s : Scenario) (es : List Entry) (p d : ℕ) (b : Break) (path : Path) (r : Bool)
    → change_in b ≡ Some (d, path) → (IsTrue r ↔ HasChanged (λ n. value_shown s es n d path) p)
    → IsTrue r ↔ Holds s es b p
holds_changed s es p d b path r some is =
    subst (λ c. IsTrue r ↔ Holds s es c p) (sym (change_is b d path some)) is
