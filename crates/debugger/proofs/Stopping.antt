-- The first stop by the breakpoints that there are.
use Rattle.std.proofs.Common.{◌≡◌, ℕ, ◌+◌, ◌-◌, ◌<◌, ◌≤◌, ◌⊎◌, inl, inr, List, length, take, get_or, Option, Some, slice_get, refl}
use Rattle.std.proofs.Common.{sym, ap, subst, ◌∙◌, arith}
use Rattle.std.proofs.lemmas.Bool.{cases_eq, cases_lt}
use Rattle.std.proofs.lemmas.Option.{same_Some, slice_get_within, slice_get-get_or}
use Rattle.device_machine.specs.State.{Device}
use Rattle.scenario_image.specs.Scenario.{Scenario, IsValid}
use Rattle.trace_file.specs.declared.entry.Entry.{Entry}
use Rattle.fleet_core.specs.Run.{made_by}
use Rattle.debugger.specs.declared.breaks.Break.{Break as Point}
use Rattle.debugger.specs.declared.breaks.Stop.{Stop}
use Rattle.debugger.specs.declared.breaks.Stop.TheVariants.{Break, End}
use Rattle.debugger.specs.declared.points.Numbered.{Numbered}
use Rattle.debugger.specs.declared.watches.Watch.{Watch}
use Rattle.debugger.specs.Session.{Session, Fields, IsDebugger, at_place}
use Rattle.debugger.specs.Stops.{Holds, IsNextStop}
use Rattle.debugger.specs.Searches.{AreCopiesOf, AreNowhere, AreSet, AreSilent, AreStill, AreWatched, AreWatching}
use Rattle.debugger.specs.Searches.{IsHeld, IsListed, IsStill, IsStopBy}
use Rattle.debugger.proofs.Keeping.{IsInside, seen, row_at, shows_at}
use Rattle.debugger.proofs.Marking.{nowhere_next, nowhere_start}
use Rattle.debugger.proofs.Rows.{value_is}

-- ---- after one entry

point_at : (points : List Numbered) (i k : ℕ) (p q : Numbered) → slice_get points i ≡ Some p
    → slice_get points k ≡ Some q → k ≡ i → p ≡ q
point_at points i k p q at h same = same_Some p q (sym at ∙ (ap (slice_get points) (sym same) ∙ h))

silent_at : (s : Scenario) (es : List Entry) (n i k : ℕ) (points : List Numbered) (p q : Numbered)
    → AreSilent s es n i points → slice_get points i ≡ Some p → (Holds s es p.point n → ⊥) → k < i + 1
    → slice_get points k ≡ Some q → (k < i) ⊎ (i ≤ k) → Holds s es q.point n → ⊥
silent_at s es n i k points p q silent at here less h (inl low) holds = silent k q low h holds
silent_at s es n i k points p q silent at here less h (inr high) holds =
    let same : p ≡ q = point_at points i k p q at h (omega (arith, less, high)) in
    here (subst (λ x. Holds s es x.point n) (sym same) holds)

-- one more does not hold
pub silent_next : (s : Scenario) (es : List Entry) (n i : ℕ) (points : List Numbered) (d : Numbered)
    → AreSilent s es n i points → i < length points → (Holds s es (get_or points i d).point n → ⊥)
    → AreSilent s es n (i + 1) points
silent_next s es n i points d silent within here = λ k q less h holds.
    silent_at s es n i k points (get_or points i d) q silent (slice_get-get_or points i d within) here less h
    (cases_lt k i) holds

-- this one is the first that does
pub held_at : (s : Scenario) (es : List Entry) (n i : ℕ) (points : List Numbered) (d : Numbered)
    → AreSilent s es n i points → i < length points → Holds s es (get_or points i d).point n
    → IsHeld s es points n (get_or points i d).number
held_at s es n i points d silent within holds = record {
  index = i;
  one = get_or points i d;
  stands = slice_get-get_or points i d within;
  number = refl;
  holds = holds;
  silent = silent;
}

pub silent_end : (s : Scenario) (es : List Entry) (n i : ℕ) (points : List Numbered) → AreSilent s es n i points
    → length points ≤ i → AreSilent s es n (length points) points
silent_end s es n i points silent past = λ k q less. silent k q (omega (arith, less, past))

-- the values that the first of these watch are still the same
abbrev pub FirstStill : Scenario → List Entry → List Device → ℕ → ℕ → List Numbered → Type 0
FirstStill s es devices n count points =
    (k : ℕ) (q : Numbered) → k < count → slice_get points k ≡ Some q → IsStill s es devices n q.point

still_at : (s : Scenario) (es : List Entry) (devices : List Device) (n i k : ℕ) (points : List Numbered)
    (p q : Numbered) → FirstStill s es devices n i points → slice_get points i ≡ Some p
    → IsStill s es devices n p.point → k < i + 1 → slice_get points k ≡ Some q → (k < i) ⊎ (i ≤ k)
    → IsStill s es devices n q.point
still_at s es devices n i k points p q still at here less h (inl low) = still k q low h
still_at s es devices n i k points p q still at here less h (inr high) =
    let same : p ≡ q = point_at points i k p q at h (omega (arith, less, high)) in
    subst (λ x. IsStill s es devices n x.point) same here

pub still_next : (s : Scenario) (es : List Entry) (devices : List Device) (n i : ℕ) (points : List Numbered)
    (d : Numbered) → FirstStill s es devices n i points → i < length points
    → IsStill s es devices n (get_or points i d).point → FirstStill s es devices n (i + 1) points
still_next s es devices n i points d still within here = λ k q less h.
    still_at s es devices n i k points (get_or points i d) q still (slice_get-get_or points i d within) here less h
    (cases_lt k i)

pub still_end : (s : Scenario) (es : List Entry) (devices : List Device) (n i : ℕ) (points : List Numbered)
    → FirstStill s es devices n i points → length points ≤ i → AreStill s es devices n points
still_end s es devices n i points still past =
    record { each = λ k q h. still k q (omega (arith, slice_get_within points k q h, past)) h }

-- ---- along the run

pub none_yet : (s : Scenario) (es : List Entry) (points : List Numbered) (from : ℕ) → AreNowhere s es points from from
none_yet s es points from = λ k q h. nowhere_start (Holds s es q.point) from

pub none_next : (s : Scenario) (es : List Entry) (points : List Numbered) (from i : ℕ)
    → AreNowhere s es points from i → AreSilent s es (i + 1) (length points) points
    → AreNowhere s es points from (i + 1)
none_next s es points from i before silent = λ k q h.
    nowhere_next (Holds s es q.point) from i (before k q h) (silent k q (slice_get_within points k q h) h)

pub none_back : (s : Scenario) (es : List Entry) (points : List Numbered) (from i : ℕ)
    → AreNowhere s es points from i → AreNowhere s es points from (i + 1 - 1)
none_back s es points from i before =
    let back : i ≡ i + 1 - 1 = omega arith in subst (AreNowhere s es points from) back before

pub none_at_end : (s : Scenario) (es : List Entry) (points : List Numbered) (from i n : ℕ)
    → AreNowhere s es points from i → i ≡ n → AreNowhere s es points from n
none_at_end s es points from i n before end = subst (AreNowhere s es points from) end before

-- ---- as the numbers of the breakpoints say

least_at : (s : Scenario) (es : List Entry) (breaks : List (Option Point)) (points : List Numbered) (p id slot i : ℕ)
    (b : Point) → AreSet breaks (length breaks) points → (held : IsHeld s es points p id)
    → held.one.number ≡ slot + 1 → (listed : IsListed points i b) → i < slot
    → (listed.index < held.index) ⊎ (held.index ≤ listed.index)
    → (held.index ≡ listed.index) ⊎ (held.index ≡ listed.index → ⊥) → Holds s es b p → ⊥
least_at s es breaks points p id slot i b are held number listed less (inl low) which holds =
    held.silent listed.index listed.one low listed.stands
    (subst (λ x. Holds s es x p) (sym listed.point) holds)
least_at s es breaks points p id slot i b are held number listed less (inr high) (inl same) holds =
    let one : held.one ≡ listed.one =
    point_at points held.index listed.index held.one listed.one held.stands listed.stands (sym same) in
    absurd (omega (arith, less, number, listed.number, ap (λ x. x.number) one))
least_at s es breaks points p id slot i b are held number listed less (inr high) (inr other) holds =
    let later : held.one.number < listed.one.number =
    are.rise held.index listed.index held.one listed.one (omega (arith, high, other)) held.stands listed.stands in
    absurd (omega (arith, less, number, listed.number, later))

quiet_at : (s : Scenario) (es : List Entry) (breaks : List (Option Point)) (points : List Numbered) (from to q slot : ℕ)
    (b : Point) → AreSet breaks (length breaks) points → AreNowhere s es points from to → from < q → q ≤ to
    → slice_get breaks slot ≡ Some (Some b) → Holds s es b q → ⊥
quiet_at s es breaks points from to q slot b are none after within h holds =
    let listed = are.all slot b (slice_get_within breaks slot (Some b) h) h in
    none listed.index listed.one listed.stands q after within (subst (λ x. Holds s es x q) (sym listed.point) holds)

next_is : (s : Scenario) (es : List Entry) (place replayed : ℕ) (breaks : List (Option Point)) (points : List Numbered)
    (stop : Stop) (p : ℕ) → AreSet breaks (length breaks) points → IsStopBy s es points place stop p
    → IsNextStop (seen s es place breaks replayed) stop p
next_is s es place replayed breaks points (Break id) p are is =
    let set = are.each is.held.index is.held.one is.held.stands in
    record {
      slot = set.slot;
      point = is.held.one.point;
      number = is.held.number ∙ set.number;
      stands = set.stands;
      later = is.later;
      within = is.within;
      holds = is.held.holds;
      first = λ q after less i b h.
          let later : place < p = is.later in
          quiet_at s es breaks points place (p - 1) q i b are is.before after (omega (arith, less, later)) h;
      least = λ i b less h.
          let listed = are.all i b (slice_get_within breaks i (Some b) h) h in
          least_at s es breaks points p id set.slot i b are is.held set.number listed less
          (cases_lt listed.index is.held.index) (cases_eq is.held.index listed.index);
    }
next_is s es place replayed breaks points End p are is = record {
  last = is.last;
  none = λ q after within i b h.
      quiet_at s es breaks points place p q i b are is.before after (omega (arith, within, is.last)) h;
}

pub stop_is : {v : Session} {s : Scenario} {es : List Entry} {f : Fields} {replayed : ℕ} (read : List Entry)
    (slots : List (Option Point)) (points ps : List Numbered) (stop : Stop) (p : ℕ) → IsInside v s es f replayed
    → read ≡ es → slots ≡ f.breaks → ps ≡ points → AreSet slots (length slots) points
    → IsStopBy s read ps f.place stop p → IsNextStop v stop p
stop_is {s = s} {es = es} {f = f} {replayed = replayed} read slots points ps stop p inside a b c are is =
    subst (λ w. IsNextStop w stop p) inside.view
    (next_is s es f.place replayed f.breaks points stop p (subst (λ l. AreSet l (length l) points) b are)
    (subst (λ l. IsStopBy s l points f.place stop p) a (subst (λ l. IsStopBy s read l f.place stop p) c is)))

place_by : (s : Scenario) (es : List Entry) (points : List Numbered) (place : ℕ) (stop : Stop) (p : ℕ)
    → IsStopBy s es points place stop p → p ≤ length es
place_by s es points place (Break id) p is = is.within
place_by s es points place End p is = omega (arith, is.last)

pub stop_within : {v : Session} {s : Scenario} {es : List Entry} {f : Fields} {replayed : ℕ} (read : List Entry)
    (points : List Numbered) (stop : Stop) (p : ℕ) → IsInside v s es f replayed → read ≡ es
    → IsStopBy s read points f.place stop p → p ≤ length v.entries
stop_within {s = s} {f = f} read points stop p inside a is =
    subst (λ w. p ≤ length w.entries) inside.view
    (subst (λ l. p ≤ length l) a (place_by s read points f.place stop p is))

-- ---- where it begins

watched_at : (s : Scenario) (es : List Entry) (f : Fields) (watched : List Watch) → IsDebugger s es f
    → AreCopiesOf f.devices watched → AreWatched s (take f.place es) watched
watched_at s es f watched kept are =
    record { each = λ k w h. shows_at s es f w.device w.machine kept (are.each k w h) }

pub watched_start : {s : Scenario} {es : List Entry} {f : Fields} (read : List Entry) (ds : List Device)
    (watched : List Watch) → IsDebugger s es f → read ≡ es → ds ≡ f.devices → AreCopiesOf ds watched
    → AreWatched s (take f.place read) watched
watched_start {s = s} {es = es} {f = f} read ds watched kept a b are =
    subst (λ l. AreWatched s (take f.place l) watched) (sym a)
    (watched_at s es f watched kept (subst (λ l. AreCopiesOf l watched) b are))

pub same_watching : (watched : List Watch) (a b : List Device) (p q : List Numbered) → a ≡ b → p ≡ q
    → AreWatching watched (length a) (length p) p → AreWatching watched (length b) (length q) q
same_watching watched a b p q same points are =
    subst (λ l. AreWatching watched (length b) (length l) l) points
    (subst (λ l. AreWatching watched (length l) (length p) p) same are)

still_here : (s : Scenario) (es : List Entry) (f : Fields) (points : List Numbered) → IsDebugger s es f → IsValid s
    → AreStill s es f.devices f.place points
still_here s es f points kept valid = record {
  each = λ k q h d path is x at.
      sym (value_is s d (made_by d (take f.place es)) x path valid (row_at s es f d x kept at)
      (shows_at s es f d x kept at));
}

pub still_start : {s : Scenario} {es : List Entry} {f : Fields} (read : List Entry) (ds : List Device)
    (points : List Numbered) → IsDebugger s es f → IsValid s → read ≡ es → ds ≡ f.devices
    → AreStill s read ds f.place points
still_start {s = s} {es = es} {f = f} read ds points kept valid a b =
    subst (λ l. AreStill s l ds f.place points) (sym a) (subst (λ l. AreStill s es l f.place points) (sym b)
    (still_here s es f points kept valid))

-- ---- after the move to the stop

pub stop_moved : (v new : Session) (stop : Stop) (p : ℕ) → IsNextStop v stop p → new ≡ at_place v p
    → IsNextStop v stop new.place
stop_moved v new stop p is moved =
    let same : p ≡ new.place = sym (ap (λ w. w.place) moved) in subst (IsNextStop v stop) same is

pub moved_there : (v new : Session) (p : ℕ) → new ≡ at_place v p → new ≡ at_place v new.place
moved_there v new p moved =
    let same : p ≡ new.place = sym (ap (λ w. w.place) moved) in moved ∙ ap (at_place v) same
