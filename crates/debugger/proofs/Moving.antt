-- The devices that a move replaces.
use Rattle.std.proofs.Common.{◌≡◌, ℕ, ◌<◌, ◌≤◌, ◌⊎◌, inl, inr, List, [], ◌∷◌, ◌++◌, length, take, set}
use Rattle.std.proofs.Common.{get_or, Option, None, Some, slice_get, slice_index, refl, sym, ap, subst, ◌∙◌, arith}
use Rattle.std.proofs.Common.{get_or-set_same, get_or-set_other}
use Rattle.std.proofs.lemmas.Bool.{cases_eq}
use Rattle.std.proofs.lemmas.List.{length-set}
use Rattle.std.proofs.lemmas.Option.{slice_get_read}
use Rattle.lemmas.proofs.Lists.{item_at, pushed_cases, item_pushed, item_before, set_gives, set_elsewhere, each_at}
use Rattle.device_machine.specs.State.{Device}
use Rattle.scenario_image.specs.Scenario.{Row, Scenario, IsGoodRow, IsValid}
use Rattle.trace_file.specs.declared.entry.Entry.{Entry}
use Rattle.fleet_core.specs.Run.{steps_in, made_by}
use Rattle.fleet_core.specs.Board.{ShowsAfter}
use Rattle.debugger.specs.Session.{AreAt, AreCounted}
use Rattle.debugger.specs.declared.moves.Moved.{Moved}
use Rattle.debugger.specs.Moves.{HasSteps, IsAmong, IsReady, IsSettled, AreMoved}

-- ---- one place after another, from the last

among_less : (now rest : List Moved) (o : Moved) (d : ℕ) → now ≡ rest ++ o ∷ [] → (o.device ≡ d → ⊥)
    → (is : IsAmong now d) → (slice_get rest is.index ≡ Some is.one) ⊎ ((is.index ≡ length rest) × (o ≡ is.one))
    → IsAmong rest d
among_less now rest o d added other is (inl h) =
    record { index = is.index; one = is.one; stands = h; own = is.own }
among_less now rest o d added other is (inr h) = absurd (other (ap (λ m. m.device) h.1 ∙ is.own))

left_still : (s : Scenario) (es : List Entry) (made : List ℕ) (now rest : List Moved) (o : Moved) (d : ℕ) (x : Device)
    → now ≡ rest ++ o ∷ [] → (o.device ≡ d → ⊥) → IsSettled s es made d x ⊎ IsAmong now d
    → IsSettled s es (set made o.device o.made) d x ⊎ IsAmong rest d
left_still s es made now rest o d x added other (inl is) =
    inl (record {
      count = get_or-set_other made o.device d o.made 0 (λ e. other (sym e)) ∙ is.count;
      shows = is.shows;
    })
left_still s es made now rest o d x added other (inr is) =
    inr (among_less now rest o d added other is
    (pushed_cases rest o is.index is.one (ap (λ l. slice_get l is.index) (sym added) ∙ is.stands)))

left_rest : (s : Scenario) (es : List Entry) (made : List ℕ) (devices : List Device) (now rest : List Moved) (o : Moved)
    (d : ℕ) (x : Device) → AreMoved s es made devices now → now ≡ rest ++ o ∷ [] → IsReady s es o
    → slice_get (set devices o.device o.machine) d ≡ Some x → (o.device ≡ d) ⊎ (o.device ≡ d → ⊥)
    → IsSettled s es (set made o.device o.made) d x ⊎ IsAmong rest d
left_rest s es made devices now rest o d x are added ready h (inl own) =
    let there : slice_get (set devices o.device o.machine) o.device ≡ Some x =
    subst (λ j. slice_get (set devices o.device o.machine) j ≡ Some x) (sym own) h in
    let same : o.machine ≡ x = set_gives devices o.device o.machine x there in
    let row : o.device < length s.rows = ready.row in
    let room : o.device < length made = omega (arith, row, are.counts) in
    inl (subst (λ j. IsSettled s es (set made o.device o.made) j x) own (record {
      count = get_or-set_same made o.device o.made 0 room ∙ ready.made;
      shows = subst (ShowsAfter s o.device (made_by o.device es)) same ready.shows;
    }))
left_rest s es made devices now rest o d x are added ready h (inr other) =
    let old : slice_get devices d ≡ Some x = sym (set_elsewhere devices o.device d o.machine other) ∙ h in
    left_still s es made now rest o d x added other (are.rest d x old)

-- the last one goes to its place
pub last_ready : (s : Scenario) (es : List Entry) (made : List ℕ) (devices : List Device) (now rest : List Moved)
    (o : Moved) → AreMoved s es made devices now → now ≡ rest ++ o ∷ [] → IsReady s es o
last_ready s es made devices now rest o are added =
    are.each (length rest) o (ap (λ l. slice_get l (length rest)) added ∙ item_pushed rest o)

-- with it in its place
pub settled_one : (s : Scenario) (es : List Entry) (row : ℕ) (made : List ℕ) (devices : List Device)
    (now rest : List Moved) (o : Moved) → AreMoved s es made devices now → now ≡ rest ++ o ∷ [] → row ≡ o.device
    → AreMoved s es (set made row o.made) (set devices row o.machine) rest
settled_one s es row made devices now rest o are added own =
    let ready = last_ready s es made devices now rest o are added in
    subst (λ (j : ℕ). AreMoved s es (set made j o.made) (set devices j o.machine) rest) (sym own)
    (record {
      counts = length-set made o.device o.made ∙ are.counts;
      count = length-set devices o.device o.machine ∙ are.count;
      each = λ i m h. are.each i m (ap (λ l. slice_get l i) added ∙ item_before rest o i m h);
      rest = λ d x h. left_rest s es made devices now rest o d x are added ready h (cases_eq o.device d);
    })

all_left : (s : Scenario) (es : List Entry) (made : List ℕ) (now : List Moved) (d : ℕ) (x : Device) → now ≡ []
    → IsSettled s es made d x ⊎ IsAmong now d → IsSettled s es made d x
all_left s es made now d x none (inl is) = is
all_left s es made now d x none (inr is) =
    let e : None ≡ Some is.one = sym (ap (λ l. slice_get l is.index) none) ∙ is.stands in absurd cc

-- with all in their places
pub settled_all : (s : Scenario) (es : List Entry) (made : List ℕ) (devices : List Device) (now : List Moved)
    → AreMoved s es made devices now → now ≡ [] → AreAt s made devices
settled_all s es made devices now are none = record {
  each = λ d x h.
      let is = all_left s es made now d x none (are.rest d x h) in
      subst (λ k. ShowsAfter s d k x) (sym is.count) is.shows;
}

pub settled_counts : (s : Scenario) (es : List Entry) (made : List ℕ) (devices : List Device) (now : List Moved)
    → AreMoved s es made devices now → now ≡ [] → AreCounted s es made
settled_counts s es made devices now are none = record {
  rows = are.counts;
  is = λ d less.
      let found = item_at devices d (omega (arith, less, are.count)) in
      (all_left s es made now d found.0 none (are.rest d found.0 found.1)).count;
}

-- ---- the steps that are made

few_in : (o : Option Row) → ((r : Row) → o ≡ Some r → length r.steps ≤ 4096) → length (steps_in o) ≤ 4096
few_in None each = omega arith
few_in (Some r) each = each r refl

-- a row has at most 4,096 steps
pub few_steps : (s : Scenario) (d k : ℕ) → IsValid s → HasSteps s d k → k ≤ 4096
few_steps s d k valid row =
    let most : length (steps_in (slice_get s.rows d)) ≤ 4096 =
    few_in (slice_get s.rows d) (λ r at. (each_at (IsGoodRow s.classes) s.rows d r valid.each at).count) in
    omega (arith, most, row)

-- the device at an index
pub device_at : (s : Scenario) (made : List ℕ) (devices : List Device) (d row : ℕ) (x : Device) → AreAt s made devices
    → d < length devices → row ≡ d → x ≡ get_or devices row x → ShowsAfter s d (slice_index made row) x
device_at s made devices d row x at within same read =
    subst (λ j. ShowsAfter s d (slice_index made j) x) (sym same)
    (at.each d x
    (slice_get_read devices (length devices) d x refl within (subst (λ j. x ≡ get_or devices j x) same read)))

pub counted_rows : (s : Scenario) (es passed : List Entry) (place rows : ℕ) (made : List ℕ) → rows ≡ length s.rows
    → passed ≡ take place es
    → length made ≡ rows → ((d : ℕ) → d < rows → slice_index made d ≡ made_by d passed)
    → AreCounted s (take place es) made
counted_rows s es passed place rows made count front len each =
    subst (λ l. AreCounted s l made) front (record { rows = len ∙ count; is = λ d h. each d (omega (arith, h, count)) })
