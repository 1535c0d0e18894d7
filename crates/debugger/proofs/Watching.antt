-- The copies of the devices whose values breakpoints watch.
use Rattle.std.proofs.Common.{◌≡◌, ℕ, ◌+◌, ◌<◌, ◌≤◌, ◌⊎◌, inl, inr, List, [], ◌∷◌, ◌++◌, length, take, set}
use Rattle.std.proofs.Common.{get_or, Option, None, Some, slice_get, refl, sym, ap, subst, ◌∙◌, arith}
use Rattle.std.proofs.lemmas.Bool.{cases_eq, cases_lt}
use Rattle.std.proofs.lemmas.Option.{same_Some, slice_get_read, slice_get_within, slice_get-get_or, some_pair_parts}
use Rattle.lemmas.proofs.Lists.{item_before, item_pushed, item_set, pushed_cases, set_elsewhere, set_gives}
use Rattle.object_defs.specs.declared.path.Path.{Path}
use Rattle.device_machine.specs.State.{Device}
use Rattle.scenario_image.specs.Scenario.{Scenario}
use Rattle.trace_file.specs.declared.entry.Entry.{Entry}
use Rattle.fleet_core.specs.Run.{made_by, IsRun}
use Rattle.fleet_core.specs.Board.{ShowsAfter}
use Rattle.debugger.specs.declared.breaks.Break.{Break}
use Rattle.debugger.specs.declared.points.Numbered.{Numbered}
use Rattle.debugger.specs.declared.watches.Watch.{Watch}
use Rattle.debugger.specs.Searches.{AreCopiesOf, AreWatched, AreWatching, HasNoWatch, HasWatch, IsWatched, IsWatching}
use Rattle.debugger.specs.Searches.{change_in}
use Rattle.device_entries.proofs.Runs.{made_else, step_before, step_counts}

-- ---- one of them

same_at : (watched : List Watch) (i k : ℕ) (v w : Watch) → slice_get watched i ≡ Some w → slice_get watched k ≡ Some v
    → k ≡ i → w ≡ v
same_at watched i k v w at h same = same_Some w v (sym at ∙ (ap (slice_get watched) (sym same) ∙ h))

none_next : (watched : List Watch) (i d k : ℕ) (v w : Watch) → HasNoWatch watched i d → slice_get watched i ≡ Some w
    → (w.device ≡ d → ⊥) → k < i + 1 → slice_get watched k ≡ Some v → v.device ≡ d → (k < i) ⊎ (i ≤ k) → ⊥
none_next watched i d k v w none at other less h own (inl low) = none k v low h own
none_next watched i d k v w none at other less h own (inr high) =
    other (ap (λ x. x.device) (same_at watched i k v w at h (omega (arith, less, high))) ∙ own)

-- nor this one
pub no_watch_next : (watched : List Watch) (i d : ℕ) (w : Watch) → HasNoWatch watched i d → i < length watched
    → w ≡ get_or watched i w → (w.device ≡ d → ⊥) → HasNoWatch watched (i + 1) d
no_watch_next watched i d w none within read other = λ k v less h own.
    none_next watched i d k v w none (slice_get_read watched (length watched) i w refl within read) other less h own
    (cases_lt k i)

pub no_watch_end : (watched : List Watch) (i d : ℕ) → HasNoWatch watched i d → length watched ≤ i
    → HasNoWatch watched (length watched) d
no_watch_end watched i d none past = λ k v less. none k v (omega (arith, less, past))

pub is_watched : (watched : List Watch) (i d : ℕ) (w : Watch) → i < length watched → w ≡ get_or watched i w
    → w.device ≡ d → IsWatched watched d w.machine
is_watched watched i d w within read own = record {
  index = i;
  one = w;
  stands = slice_get_read watched (length watched) i w refl within read;
  own = own;
  is = refl;
}

pub has_watched : (watched : List Watch) (d : ℕ) (x : Device) → IsWatched watched d x → HasWatch watched d
has_watched watched d x is = record { index = is.index; one = is.one; stands = is.stands; own = is.own }

pub no_watch : (watched : List Watch) (d : ℕ) → HasNoWatch watched (length watched) d → HasWatch watched d → ⊥
no_watch watched d none has =
    none has.index has.one (slice_get_within watched has.index has.one has.stands) has.stands has.own

-- ---- as they are made

pub no_copies : (devices : List Device) (watched : List Watch) → watched ≡ [] → AreCopiesOf devices watched
no_copies devices watched none = record {
  each = λ k w h. let e : None ≡ Some w = ap (λ l. slice_get l k) (sym none) ∙ h in absurd cc;
}

copy_at : (devices : List Device) (watched : List Watch) (y w : Watch) (k : ℕ) → AreCopiesOf devices watched
    → slice_get devices y.device ≡ Some y.machine
    → (slice_get watched k ≡ Some w) ⊎ ((k ≡ length watched) × (y ≡ w)) → slice_get devices w.device ≡ Some w.machine
copy_at devices watched y w k are here (inl h) = are.each k w h
copy_at devices watched y w k are here (inr h) =
    subst (λ v. slice_get devices v.device ≡ Some v.machine) h.1 here

pub copies_more : (devices : List Device) (watched more : List Watch) (y : Watch) → AreCopiesOf devices watched
    → slice_get devices y.device ≡ Some y.machine → more ≡ watched ++ y ∷ [] → AreCopiesOf devices more
copies_more devices watched more y are here added =
    subst (AreCopiesOf devices) (sym added)
    (record { each = λ k w h. copy_at devices watched y w k are here (pushed_cases watched y k w h) })

pub has_more : (watched more : List Watch) (y : Watch) (d : ℕ) → more ≡ watched ++ y ∷ [] → HasWatch watched d
    → HasWatch more d
has_more watched more y d added has =
    subst (λ l. HasWatch l d) (sym added) (record {
      index = has.index;
      one = has.one;
      stands = item_before watched y has.index has.one has.stands;
      own = has.own;
    })

pub has_pushed : (watched more : List Watch) (y : Watch) (d : ℕ) → more ≡ watched ++ y ∷ [] → y.device ≡ d
    → HasWatch more d
has_pushed watched more y d added own =
    subst (λ l. HasWatch l d) (sym added)
    (record { index = length watched; one = y; stands = item_pushed watched y; own = own })

pub watching_none : (watched : List Watch) (rows : ℕ) (b : Break) → change_in b ≡ None → IsWatching watched rows b
watching_none watched rows b none = λ d path is less.
    let e : ◌≡◌ {A = Option (ℕ × Path)} None (Some (d, path)) = sym none ∙ is in absurd cc

pub watching_some : (watched : List Watch) (rows : ℕ) (b : Break) (d : ℕ) (path : Path)
    → change_in b ≡ Some (d, path) → (d < rows → HasWatch watched d) → IsWatching watched rows b
watching_some watched rows b d path some has = λ i p is less.
    let same = some_pair_parts d i path p (sym some ∙ is) in
    subst (HasWatch watched) same.0 (has (omega (arith, less, same.0)))

pub watching_first : (watched : List Watch) (rows : ℕ) (points : List Numbered) → AreWatching watched rows 0 points
watching_first watched rows points = record { each = λ k p less. absurd (omega (arith, less)) }

watching_at : (watched new : List Watch) (rows i k : ℕ) (points : List Numbered) (p q : Numbered)
    → AreWatching watched rows i points → slice_get points i ≡ Some p → IsWatching new rows p.point
    → ((d : ℕ) → HasWatch watched d → HasWatch new d) → k < i + 1 → slice_get points k ≡ Some q
    → (k < i) ⊎ (i ≤ k) → IsWatching new rows q.point
watching_at watched new rows i k points p q are at own others less h (inl low) =
    λ d path is row. others d (are.each k q low h d path is row)
watching_at watched new rows i k points p q are at own others less h (inr high) =
    let here : k ≡ i = omega (arith, less, high) in
    let same : p ≡ q = same_Some p q (sym at ∙ (ap (slice_get points) (sym here) ∙ h)) in
    subst (λ x. IsWatching new rows x.point) same own

pub watching_more : (watched new : List Watch) (rows i : ℕ) (points : List Numbered) (p : Numbered)
    → AreWatching watched rows i points → i < length points → IsWatching new rows (get_or points i p).point
    → ((d : ℕ) → HasWatch watched d → HasWatch new d) → AreWatching new rows (i + 1) points
watching_more watched new rows i points p are within own others = record {
  each = λ k q less h.
      watching_at watched new rows i k points (get_or points i p) q are (slice_get-get_or points i p within) own others
      less h (cases_lt k i);
}

pub watching_end : (watched : List Watch) (rows i : ℕ) (points : List Numbered) → AreWatching watched rows i points
    → length points ≤ i → AreWatching watched rows (length points) points
watching_end watched rows i points are past =
    record { each = λ k q less. are.each k q (omega (arith, less, past)) }

-- with others that are of the same rows
pub watching_still : (watched new : List Watch) (rows count : ℕ) (points : List Numbered)
    → AreWatching watched rows count points → ((d : ℕ) → HasWatch watched d → HasWatch new d)
    → AreWatching new rows count points
watching_still watched new rows count points are others =
    record { each = λ k q less h d path is row. others d (are.each k q less h d path is row) }

-- ---- with the entry at an index

-- the first ones have made its step, if it is their row's
pub record AreStepping (s : Scenario) (es : List Entry) (index place : ℕ) (watched : List Watch) : Type 0 where
  pub passed : (k : ℕ) (w : Watch) → k < place → slice_get watched k ≡ Some w
      → ShowsAfter s w.device (made_by w.device (take (index + 1) es)) w.machine
  pub left : (k : ℕ) (w : Watch) → place ≤ k → slice_get watched k ≡ Some w
      → ShowsAfter s w.device (made_by w.device (take index es)) w.machine

pub step_first : (s : Scenario) (es : List Entry) (index : ℕ) (watched : List Watch)
    → AreWatched s (take index es) watched → AreStepping s es index 0 watched
step_first s es index watched are = record {
  passed = λ k w less. absurd (omega (arith, less));
  left = λ k w more h. are.each k w h;
}

other_at : (s : Scenario) (es : List Entry) (index place k : ℕ) (e : Entry) (watched : List Watch) (v w : Watch)
    → AreStepping s es index place watched → slice_get es index ≡ Some e → slice_get watched place ≡ Some w
    → (w.device ≡ e.device → ⊥) → k < place + 1 → slice_get watched k ≡ Some v → (k < place) ⊎ (place ≤ k)
    → ShowsAfter s v.device (made_by v.device (take (index + 1) es)) v.machine
other_at s es index place k e watched v w are at stands other less h (inl low) = are.passed k v low h
other_at s es index place k e watched v w are at stands other less h (inr high) =
    let same : w ≡ v = same_at watched place k v w stands h (omega (arith, less, high)) in
    let apart : e.device ≡ v.device → ⊥ = λ own. other (ap (λ x. x.device) same ∙ sym own) in
    subst (λ n. ShowsAfter s v.device n v.machine) (sym (made_else es v.device index e at apart))
    (are.left k v high h)

-- this one is another row's
pub step_other : (s : Scenario) (es : List Entry) (index place : ℕ) (e : Entry) (watched : List Watch) (w : Watch)
    → AreStepping s es index place watched → slice_get es index ≡ Some e → place < length watched
    → w ≡ get_or watched place w → (w.device ≡ e.device → ⊥) → AreStepping s es index (place + 1) watched
step_other s es index place e watched w are at within read other =
    let stands : slice_get watched place ≡ Some w = slice_get_read watched (length watched) place w refl within read in
    record {
      passed = λ k v less h. other_at s es index place k e watched v w are at stands other less h (cases_lt k place);
      left = λ k v more h. are.left k v (omega (arith, more)) h;
    }

own_at : (s : Scenario) (es : List Entry) (index place k : ℕ) (e : Entry) (watched : List Watch) (new v : Watch)
    → AreStepping s es index place watched → IsRun s es → slice_get es index ≡ Some e → e.device ≡ new.device
    → ShowsAfter s new.device (e.step + 1) new.machine → k < place + 1 → slice_get (set watched place new) k ≡ Some v
    → (place ≡ k) ⊎ (place ≡ k → ⊥) → ShowsAfter s v.device (made_by v.device (take (index + 1) es)) v.machine
own_at s es index place k e watched new v are run at own shows less h (inl same) =
    let there : slice_get (set watched place new) place ≡ Some v =
    subst (λ j. slice_get (set watched place new) j ≡ Some v) (sym same) h in
    let is : new ≡ v = set_gives watched place new v there in
    subst (λ w. ShowsAfter s w.device (made_by w.device (take (index + 1) es)) w.machine) is
    (subst (λ n. ShowsAfter s new.device n new.machine) (sym (step_counts s es new.device index e run at own)) shows)
own_at s es index place k e watched new v are run at own shows less h (inr other) =
    are.passed k v (omega (arith, less, other)) (sym (set_elsewhere watched place k new other) ∙ h)

-- this one has made it
pub step_own : (s : Scenario) (es : List Entry) (index place : ℕ) (e : Entry) (watched : List Watch) (new : Watch)
    → AreStepping s es index place watched → IsRun s es → slice_get es index ≡ Some e → e.device ≡ new.device
    → ShowsAfter s new.device (e.step + 1) new.machine → AreStepping s es index (place + 1) (set watched place new)
step_own s es index place e watched new are run at own shows = record {
  passed = λ k v less h. own_at s es index place k e watched new v are run at own shows less h (cases_eq place k);
  left = λ k v more h.
      let other : place ≡ k → ⊥ = λ same. omega (arith, more, same) in
      are.left k v (omega (arith, more)) (sym (set_elsewhere watched place k new other) ∙ h);
}

pub step_all : (s : Scenario) (es : List Entry) (index place : ℕ) (watched : List Watch)
    → AreStepping s es index place watched → length watched ≤ place → AreWatched s (take (index + 1) es) watched
step_all s es index place watched are past = record {
  each = λ k w h. are.passed k w (omega (arith, slice_get_within watched k w h, past)) h;
}

set_has : (watched : List Watch) (place d : ℕ) (w new : Watch) → slice_get watched place ≡ Some w
    → new.device ≡ w.device → (has : HasWatch watched d) → (place ≡ has.index) ⊎ (place ≡ has.index → ⊥)
    → HasWatch (set watched place new) d
set_has watched place d w new stands own has (inl same) =
    let is : w ≡ has.one = same_at watched place has.index has.one w stands has.stands (sym same) in
    record {
      index = place;
      one = new;
      stands = item_set watched place new (slice_get_within watched place w stands);
      own = own ∙ (ap (λ x. x.device) is ∙ has.own);
    }
set_has watched place d w new stands own has (inr other) = record {
  index = has.index;
  one = has.one;
  stands = set_elsewhere watched place has.index new other ∙ has.stands;
  own = has.own;
}

-- each row that had a copy has one
pub has_set : (watched : List Watch) (place d : ℕ) (w new : Watch) → place < length watched
    → w ≡ get_or watched place w → new.device ≡ w.device → HasWatch watched d → HasWatch (set watched place new) d
has_set watched place d w new within read own has =
    set_has watched place d w new (slice_get_read watched (length watched) place w refl within read) own has
    (cases_eq place has.index)

-- the copy at a place is one, however it is read
pub read_twice : (watched : List Watch) (place : ℕ) (v w : Watch) → place < length watched
    → v ≡ get_or watched place v → w ≡ get_or watched place w → v ≡ w
read_twice watched place v w within first second =
    same_Some v w (sym (slice_get_read watched (length watched) place v refl within first)
    ∙ slice_get_read watched (length watched) place w refl within second)

-- what its step asks of it
pub step_shows : (s : Scenario) (es : List Entry) (index place : ℕ) (e : Entry) (watched : List Watch) (w : Watch)
    → AreStepping s es index place watched → IsRun s es → slice_get es index ≡ Some e → place < length watched
    → w ≡ get_or watched place w → e.device ≡ w.device → ShowsAfter s w.device e.step w.machine
step_shows s es index place e watched w are run at within read own =
    subst (λ n. ShowsAfter s w.device n w.machine) (sym (step_before s es w.device index e run at own))
    (are.left place w (omega arith) (slice_get_read watched (length watched) place w refl within read))

pub same_has : (a b : List Watch) (d : ℕ) → a ≡ b → HasWatch a d → HasWatch b d
same_has a b d same has = subst (λ l. HasWatch l d) same has
