-- What a worker and those above it leave together.
use Rattle.std.proofs.Common.{◌≡◌, ℕ, zero, suc, ◌+◌, ◌-◌, ◌<◌, ◌≤◌, Bool, eqb, cond, true, false, List, [], ◌∷◌, ◌++◌}
use Rattle.std.proofs.Common.{Some, min}
use Rattle.std.proofs.Common.{refl, sym, ap, subst, ◌∙◌, append-nil, arith}
use Rattle.std.specs.Prelude.{nat_lt, length, take, drop, ◌||◌}
use Rattle.std.specs.List.{AllByRecursion}
use Rattle.std.proofs.lemmas.Bool.{eq-eqb, ne_eqb, false≢true}
use Rattle.std.proofs.lemmas.List.{append_cancel_left, length-map}
use mathlib.Core.Logic.{dite}
use native.Mathlib.Decide.{dec_lt}
use Rattle.std.proofs.Math.Bool.{or-true, or-false}
use Rattle.lemmas.proofs.Tests.{or_first, or_second}
use Rattle.scenario_image.specs.Scenario.{Scenario}
use Rattle.trace_file.specs.declared.entry.Entry.{Entry}
use Rattle.fleet_core.specs.Run.{Fits, IsRun, IsComplete}
use Rattle.fleet_core.proofs.Along.{along-right}
use Rattle.fleet_core.proofs.Posts.{run_left}
use Rattle.ticket_lock.specs.declared.rule.TheConstants.{NUMBERS}
use Rattle.ticket_lock.specs.declared.logged.Share.{Share}
use Rattle.ticket_lock.specs.Log.{Begins}
use Rattle.ticket_lock.specs.Log as log
use Rattle.ticket_lock.specs.Lock.{HasNumber}
use Rattle.ticket_lock.specs.Names.{work_or, IsFaithful}
use Rattle.ticket_lock.specs.Changes.{lower_part, upper_part, joined_view, longer_of}
use Rattle.ticket_lock.proofs.Logs.{begins_both, every_one, length-each}
use Rattle.ticket_lock.proofs.Neighbours.{shares_below}
use Rattle.shared_trace.specs.declared.work.OpenWork.{OpenWork}
use Rattle.shared_trace.specs.Trace.{no_work, trace_log}
use Rattle.worker_visits.specs.declared.ends.LoopEnd.{LoopEnd}
use Rattle.worker_visits.specs.declared.ends.LoopEnd.TheVariants.{Done, Stalled, Stopped, Memory, Spent}
use Rattle.worker_visits.specs.Blocks.{own_entries, HasPut}
use Rattle.worker_visits.specs.Knowing.{PassView, IsByOne, Follows, IsDone, IsStalled, EndsAs, has_stopped}
use Rattle.fleet_workers.specs.Crew.{IsByCrew, CrewFollows, CrewEndsAs, HavePut, joint_end, is_any_stopped, HasWorked}
use Rattle.fleet_workers.specs.Crew.{HaveWorked}
use Rattle.worker_visits.proofs.Blocks.{own-append, put_longer}

-- ---- one worker

alone_follows : (v w : PassView) → Follows v w → CrewFollows 1 v w
alone_follows v w f = record {
  low = f.low;
  count = f.count;
  subject = f.subject;
  added = f.added;
  front = f.front;
  workers = every_one (IsByOne v) (IsByCrew 1 v)
      (λ e by. (by.0, by.1, λ has. let low = by.2 has in omega (arith, low))) f.added f.workers;
  run = f.run;
}

alone_puts : (came : ℕ → ℕ → Type 0) (s : Scenario) (low batch : ℕ) (old new : List Entry)
    → HasPut came s low batch old new → HavePut came s low 1 batch old new
alone_puts came s low batch old new put = λ w least most.
    let same : low ≡ w = omega (arith, least, most) in subst (λ n. HasPut came s n batch old new) same put

-- ---- own entries

-- of entries under other numbers none is the worker's
none_own : (w : ℕ) (es : List Entry) → AllByRecursion (λ e. e.worker ≡ w → ⊥) es → own_entries w es ≡ []
none_own w [] h = refl
none_own w (e ∷ es) h =
    ap (λ t. cond t (e ∷ own_entries w es) (own_entries w es)) (ne_eqb e.worker w h.0) ∙ none_own w es h.1

-- where a log has grown and the worker's own entries have not, none of what was added is the worker's
none_added : (w : ℕ) (old added : List Entry) → own_entries w (old ++ added) ≡ own_entries w old
    → own_entries w added ≡ []
none_added w old added same =
    append_cancel_left (own_entries w old) (own_entries w added) []
    (sym (own-append w old added) ∙ (same ∙ sym (append-nil (own_entries w old))))

-- the other way round
same_own : (w : ℕ) (old added new : List Entry) → new ≡ old ++ added → own_entries w added ≡ []
    → own_entries w new ≡ own_entries w old
same_own w old added new grown none =
    ap (own_entries w) grown
    ∙ (own-append w old added ∙ (ap (λ l. own_entries w old ++ l) none ∙ append-nil (own_entries w old)))

none_after : (w : ℕ) (e : Entry) (es : List Entry) → own_entries w (e ∷ es) ≡ [] → own_entries w es ≡ []
none_after w e es =
    elim (eqb e.worker w) as (λ t. cond t (e ∷ own_entries w es) (own_entries w es) ≡ [] → own_entries w es ≡ []) [
      | true ↦ λ h. cc
      | false ↦ λ h. h
    ]

own_here : (e : Entry) (es : List Entry) → own_entries e.worker (e ∷ es) ≡ e ∷ own_entries e.worker es
own_here e es =
    ap (λ t. cond t (e ∷ own_entries e.worker es) (own_entries e.worker es)) (eq-eqb e.worker e.worker refl)

-- ---- what is added

abbrev IsNumbered : Entry → Type 0
IsNumbered e = (1 ≤ e.worker) × (e.worker < NUMBERS + 1)

-- entries under numbers of the lock, and none under a number of the pass but its n lowest
by_crew : (n : ℕ) (v : PassView) (es : List Entry) → AllByRecursion IsNumbered es
    → ((w : ℕ) → HasNumber v w → v.low + n ≤ w → own_entries w es ≡ []) → AllByRecursion (IsByCrew n v) es
by_crew n v [] within none = tt
by_crew n v (e ∷ es) within none = (
  (
    within.0.0,
    within.0.1,
    λ has. dite (dec_lt e.worker (v.low + n)) (λ lt. lt)
        (λ ge. let here : e ∷ own_entries e.worker es ≡ [] =
        sym (own_here e es) ∙ none e.worker has (omega arith) in cc),
  ),
  by_crew n v es within.1 (λ w has out. none_after w e es (none w has out)),
)

-- what was added to a log, if these were its entries before
abbrev Adds : (Entry → Type 0) → List Entry → List Entry → Type 0
Adds P old new = (added : List Entry) → new ≡ old ++ added → AllByRecursion P added

adds : (P : Entry → Type 0) (old added new : List Entry) → new ≡ old ++ added → AllByRecursion P added
    → Adds P old new
adds P old added new grown all more is =
    subst (AllByRecursion P) (append_cancel_left old added more (sym grown ∙ is)) all

either : (P : List Entry → Type 0) (a b : List Entry) → P a → P b → P (longer_of a b)
either P a b p q = elim (nat_lt (length a) (length b)) as (λ t. P (cond t b a)) [ true ↦ q | false ↦ p ]

-- ---- together: `one` and `two` are the two parts of the pass v, from which a and b came, which were joined as `all`

joint_follows : (m : ℕ) (v one two a b all : PassView) → 1 < m → 1 < v.count → one ≡ lower_part v → two ≡ upper_part v
    → Follows one a → CrewFollows (m - 1) two b → all ≡ record (joined_view a b) { end = all.end }
    → Begins a.front all.front × Begins b.front all.front
    → ((w : ℕ) → HasNumber b w → own_entries w all.front ≡ own_entries w b.front) → CrewFollows m v all
joint_follows m v one two a b all more many is_one is_two fa fb glued fronts own =
    let front1 : one.front ≡ v.front = ap (λ u. u.front) is_one in
    let front2 : two.front ≡ v.front = ap (λ u. u.front) is_two in
    let low1 : a.low ≡ v.low = fa.low ∙ ap (λ u. u.low) is_one in
    let low2 : b.low ≡ v.low + 1 = fb.low ∙ ap (λ u. u.low) is_two in
    let low_two : two.low ≡ v.low + 1 = ap (λ u. u.low) is_two in
    let count1 : a.count ≡ 1 = fa.count ∙ ap (λ u. u.count) is_one in
    let count2 : b.count ≡ v.count - 1 = fb.count ∙ ap (λ u. u.count) is_two in
    let count_two : two.count ≡ v.count - 1 = ap (λ u. u.count) is_two in
    let count : all.count ≡ a.count + b.count = ap (λ u. u.count) glued in
    let grown1 : a.front ≡ v.front ++ fa.added = fa.front ∙ ap (λ l. l ++ fa.added) front1 in
    let grown2 : b.front ≡ v.front ++ fb.added = fb.front ∙ ap (λ l. l ++ fb.added) front2 in
    let begins : Begins v.front all.front = begins_both v.front a.front all.front (fa.added, grown1) fronts.0 in
    let long : longer_of a.front b.front ≡ all.front = sym (ap (λ u. u.front) glued) in
    let first : min a.low b.low ≡ a.low = omega (arith, low1, low2) in
    record {
      low = ap (λ u. u.low) glued ∙ (first ∙ low1);
      count = omega (arith, count, count1, count2, many);
      subject = ap (λ u. u.subject) glued ∙ (fa.subject ∙ ap (λ u. u.subject) is_one);
      added = begins.0;
      front = begins.1;
      workers = by_crew m v begins.0
          (subst (Adds IsNumbered v.front) long
          (either (Adds IsNumbered v.front) a.front b.front
          (adds IsNumbered v.front fa.added a.front grown1
          (every_one (IsByOne one) IsNumbered (λ e by. (by.0, by.1)) fa.added fa.workers))
          (adds IsNumbered v.front fb.added b.front grown2
          (every_one (IsByCrew (m - 1) two) IsNumbered (λ e by. (by.0, by.1)) fb.added fb.workers)))
          begins.0 begins.1)
          (λ w has out.
          let none : own_entries w fb.added ≡ [] =
          none_own w fb.added
          (every_one (IsByCrew (m - 1) two) (λ e. e.worker ≡ w → ⊥)
          (λ e by is.
          let below = by.2 (omega (arith, low_two, is, out, more), omega (arith, low_two, count_two, is, has.1, many))
          in
          omega (arith, low_two, is, out, more, below)) fb.added fb.workers) in
          let kept : own_entries w all.front ≡ own_entries w b.front =
          own w (omega (arith, low2, out, more), omega (arith, low2, count2, has.1, many)) in
          none_added w v.front begins.0
          (ap (own_entries w) (sym begins.1) ∙ (kept ∙ same_own w v.front fb.added b.front grown2 none)));
      run = λ s subject run. subst (IsRun s) long
          (either (IsRun s) a.front b.front
          (fa.run s (ap (λ u. u.subject) is_one ∙ subject) (subst (IsRun s) (sym front1) run))
          (fb.run s (ap (λ u. u.subject) is_two ∙ subject) (subst (IsRun s) (sym front2) run)));
    }

joint_puts : (came : ℕ → ℕ → Type 0) (s : Scenario) (batch m : ℕ) (v one two a b all : PassView) → 1 < m → m ≤ v.count
    → one ≡ lower_part v
    → two ≡ upper_part v → Follows one a → CrewFollows (m - 1) two b → HasPut came s one.low batch one.front a.front
    → HavePut came s two.low (m - 1) batch two.front b.front → Begins a.front all.front × Begins b.front all.front
    → ((w : ℕ) → HasNumber a w → own_entries w all.front ≡ own_entries w a.front)
    → ((w : ℕ) → HasNumber b w → own_entries w all.front ≡ own_entries w b.front)
    → HavePut came s v.low m batch v.front all.front
joint_puts came s batch m v one two a b all more numbers is_one is_two fa fb pa pb fronts first second = λ w least most.
    let front1 : one.front ≡ v.front = ap (λ u. u.front) is_one in
    let front2 : two.front ≡ v.front = ap (λ u. u.front) is_two in
    let low_one : one.low ≡ v.low = ap (λ u. u.low) is_one in
    let low_two : two.low ≡ v.low + 1 = ap (λ u. u.low) is_two in
    let low1 : a.low ≡ one.low = fa.low in
    let low2 : b.low ≡ two.low = fb.low in
    let count1 : a.count ≡ 1 = fa.count ∙ ap (λ u. u.count) is_one in
    let count2 : b.count ≡ v.count - 1 = fb.count ∙ ap (λ u. u.count) is_two in
    dite (dec_lt w (v.low + 1))
    (λ lt.
    let same : one.low ≡ w = omega (arith, low_one, least, lt) in
    put_longer came s w batch v.front a.front all.front
    (subst (λ l. HasPut came s w batch l a.front) front1 (subst (λ n. HasPut came s n batch one.front a.front) same pa))
    fronts.0
    (first w (omega (arith, low1, same), omega (arith, low1, same, count1))))
    (λ ge.
    put_longer came s w batch v.front b.front all.front
    (subst (λ l. HasPut came s w batch l b.front) front2
    (pb w (omega (arith, low_two, ge)) (omega (arith, low_two, ge, most, more)))) fronts.1
    (second w (omega (arith, low2, low_two, ge), omega (arith, low2, low_two, count2, ge, most, numbers, more))))

-- ---- how they end

-- nothing can follow a complete run
nothing_more : (s : Scenario) (es after : List Entry) → IsComplete s es → IsRun s (es ++ after) → after ≡ []
nothing_more s es [] complete run = refl
nothing_more s es (e ∷ after) complete run =
    absurd (complete.ended e (along-right (Fits s) [] es (e ∷ after) run.along).0)

pub complete_whole : (s : Scenario) (front es : List Entry) → IsComplete s front → Begins front es → IsRun s es
    → front ≡ es
complete_whole s front es complete begins run =
    let none : begins.0 ≡ [] = nothing_more s front begins.0 complete (subst (IsRun s) begins.1 run) in
    sym (begins.1 ∙ (ap (λ l. front ++ l) none ∙ append-nil front))

-- of the parts of a pass one has seen a complete run: that is all of the run
pub record Parts (v one two a b all : PassView) : Type 0 where
  pub one_front : one.front ≡ v.front
  pub two_front : two.front ≡ v.front
  pub one_subject : one.subject ≡ v.subject
  pub two_subject : two.subject ≡ v.subject
  pub one_run : (s : Scenario) → one.subject ≡ Some s → IsRun s one.front → IsRun s a.front
  pub two_run : (s : Scenario) → two.subject ≡ Some s → IsRun s two.front → IsRun s b.front
  pub a_begins : Begins v.front a.front
  pub b_begins : Begins v.front b.front
  pub a_front : Begins a.front all.front
  pub b_front : Begins b.front all.front
  pub long : longer_of a.front b.front ≡ all.front
  pub subject : all.subject ≡ v.subject
  pub a_subject : a.subject ≡ v.subject
  pub b_subject : b.subject ≡ v.subject
  pub end : (joined_view a b).end ≡ true → all.end ≡ true

pub parts_of : (n : ℕ) (v one two a b all : PassView) → one ≡ lower_part v → two ≡ upper_part v → Follows one a
    → CrewFollows n two b
    → all ≡ record (joined_view a b) { end = all.end } → Begins a.front all.front × Begins b.front all.front
    → ((joined_view a b).end ≡ true → all.end ≡ true) → Parts v one two a b all
parts_of n v one two a b all is_one is_two fa fb glued fronts end = record {
  one_front = ap (λ u. u.front) is_one;
  two_front = ap (λ u. u.front) is_two;
  one_subject = ap (λ u. u.subject) is_one;
  two_subject = ap (λ u. u.subject) is_two;
  one_run = fa.run;
  two_run = fb.run;
  a_begins = (fa.added, fa.front ∙ ap (λ l. l ++ fa.added) (ap (λ u. u.front) is_one));
  b_begins = (fb.added, fb.front ∙ ap (λ l. l ++ fb.added) (ap (λ u. u.front) is_two));
  a_front = fronts.0;
  b_front = fronts.1;
  long = sym (ap (λ u. u.front) glued);
  subject = ap (λ u. u.subject) glued ∙ (fa.subject ∙ ap (λ u. u.subject) is_one);
  a_subject = fa.subject ∙ ap (λ u. u.subject) is_one;
  b_subject = fb.subject ∙ ap (λ u. u.subject) is_two;
  end = end;
}

-- the log of the whole is a run where the pass had seen one
whole_run : (s : Scenario) (v one two a b all : PassView) → Parts v one two a b all → v.subject ≡ Some s
    → IsRun s v.front
    → IsRun s all.front
whole_run s v one two a b all p subject run = subst (IsRun s) p.long
    (either (IsRun s) a.front b.front
    (p.one_run s (p.one_subject ∙ subject) (subst (IsRun s) (sym p.one_front) run))
    (p.two_run s (p.two_subject ∙ subject) (subst (IsRun s) (sym p.two_front) run)))

whole_of : (s : Scenario) (v one two a b all : PassView) (front : List Entry) → Parts v one two a b all
    → v.subject ≡ Some s → IsComplete s front → Begins v.front front → Begins front all.front → front ≡ all.front
whole_of s v one two a b all front p subject complete began begins =
    complete_whole s front all.front complete begins
    (whole_run s v one two a b all p subject
    (run_left s v.front began.0 (subst (IsRun s) began.1 complete.run)))

done_all : (v one two a b all : PassView) → Parts v one two a b all → EndsAs a Done → EndsAs all Done
done_all v one two a b all p ends s subject =
    let about : v.subject ≡ Some s = sym p.subject ∙ subject in
    let done = ends s (p.a_subject ∙ about) in
    subst (IsDone s) (whole_of s v one two a b all a.front p about done.complete p.a_begins p.a_front) done

stalled_all : (v one two a b all : PassView) → Parts v one two a b all → EndsAs a Stalled → EndsAs all Stalled
stalled_all v one two a b all p ends s subject =
    let about : v.subject ≡ Some s = sym p.subject ∙ subject in
    let stalled = ends s (p.a_subject ∙ about) in
    subst (IsStalled s) (whole_of s v one two a b all a.front p about stalled.complete p.a_begins p.a_front) stalled

first_spent : (v one two a b all : PassView) → Parts v one two a b all → a.end ≡ true → EndsAs all Spent
first_spent v one two a b all p end = p.end (ap (λ t. t || b.end) end)

other_spent : (v one two a b all : PassView) → Parts v one two a b all → b.end ≡ true → EndsAs all Spent
other_spent v one two a b all p end = p.end (ap (λ t. a.end || t) end ∙ or-true a.end)

-- ---- who stopped the trace

-- of the first number alone
any_one : (xs : List (Share Entry OpenWork)) → is_any_stopped 1 xs ≡ (work_or xs no_work).stopped
any_one [] = refl
any_one (x ∷ xs) = or-false x.work.stopped

-- of one number, and those after it
any_joined : (k : ℕ) (xs ys : List (Share Entry OpenWork)) → length xs ≡ 1
    → is_any_stopped (suc k) (xs ++ ys) ≡ ((work_or xs no_work).stopped || is_any_stopped k ys)
any_joined k [] ys one = absurd (omega (arith, one))
any_joined k (x ∷ []) ys one = refl
any_joined k (x ∷ y ∷ xs) ys one = absurd (omega (arith, one))

any_none : (k : ℕ) → is_any_stopped k [] ≡ false
any_none zero = refl
any_none (suc k) = refl

any_split : (k : ℕ) (xs : List (Share Entry OpenWork))
    → is_any_stopped (suc k) xs ≡ ((work_or (take 1 xs) no_work).stopped || is_any_stopped k (drop 1 xs))
any_split k [] = sym (any_none k)
any_split k (x ∷ xs) = refl

-- a pass has as many shares as numbers
one_share : (v : PassView) → IsFaithful trace_log v → v.count ≡ 1 → length v.shares ≡ 1
one_share v faithful one =
    sym (length-map v.shares (λ s. s.own))
    ∙ (ap length faithful ∙ (length-each (λ w. log.entries_of_worker trace_log w v.front) v.low v.count ∙ one))

-- after the join: the flag of the first, and those of the others
stopped_all : (m : ℕ) (a b all : PassView) → 1 < m → a.low < b.low → IsFaithful trace_log a → a.count ≡ 1
    → all ≡ record (joined_view a b) { end = all.end }
    → is_any_stopped m all.shares ≡ (has_stopped a || is_any_stopped (m - 1) b.shares)
stopped_all m a b all more below faithful one glued =
    let next : m ≡ suc (m - 1) = omega (arith, more) in
    ap (λ n. is_any_stopped n all.shares) next
    ∙ (ap (λ u. is_any_stopped (suc (m - 1)) u.shares) glued
    ∙ (ap (is_any_stopped (suc (m - 1))) (shares_below a b below)
    ∙ any_joined (m - 1) a.shares b.shares (one_share a faithful one)))

stopped_parts : (m : ℕ) (v one two : PassView) → 1 < m → one ≡ lower_part v → two ≡ upper_part v
    → is_any_stopped m v.shares ≡ (has_stopped one || is_any_stopped (m - 1) two.shares)
stopped_parts m v one two more is_one is_two =
    let next : m ≡ suc (m - 1) = omega (arith, more) in
    ap (λ n. is_any_stopped n v.shares) next
    ∙ (any_split (m - 1) v.shares
    ∙ (ap (λ u. has_stopped u || is_any_stopped (m - 1) (drop 1 v.shares)) (sym is_one)
    ∙ ap (λ u. has_stopped one || is_any_stopped (m - 1) u.shares) (sym is_two)))

-- none of the parts had seen the end where the whole has not
ends_not : (b c : Bool) → (b ≡ true → c ≡ true) → c ≡ false → b ≡ false
ends_not true c up not = absurd (false≢true (sym not ∙ up refl))
ends_not false c up not = refl

-- ---- how they end together

module _ (m : ℕ) (v one two a b all : PassView) (p : Parts v one two a b all)
    (stops : is_any_stopped m all.shares ≡ (has_stopped a || is_any_stopped (m - 1) b.shares)) where
  first_out : EndsAs a Memory → CrewEndsAs m all Memory
  first_out out not =
      let before : a.end ≡ false =
      or_first a.end b.end (ends_not (a.end || b.end) all.end p.end not) in
      stops ∙ ap (λ t. t || is_any_stopped (m - 1) b.shares) (out before)

  others_out : CrewEndsAs (m - 1) b Memory → CrewEndsAs m all Memory
  others_out out not =
      let before : b.end ≡ false =
      or_second a.end b.end (ends_not (a.end || b.end) all.end p.end not) in
      stops ∙ (ap (λ t. has_stopped a || t) (out before) ∙ or-true (has_stopped a))

  joint_ends : (first others : LoopEnd) → EndsAs a first → CrewEndsAs (m - 1) b others
      → CrewEndsAs m all (joint_end first others)
  joint_ends Memory others ea eb = first_out ea
  joint_ends Stopped Memory ea eb = others_out eb
  joint_ends Stopped Stopped ea eb = tt
  joint_ends Stopped Spent ea eb = tt
  joint_ends Stopped Done ea eb = tt
  joint_ends Stopped Stalled ea eb = tt
  joint_ends Spent Memory ea eb = others_out eb
  joint_ends Spent Stopped ea eb = tt
  joint_ends Spent Spent ea eb = first_spent v one two a b all p ea
  joint_ends Spent Done ea eb = first_spent v one two a b all p ea
  joint_ends Spent Stalled ea eb = first_spent v one two a b all p ea
  joint_ends Done Memory ea eb = others_out eb
  joint_ends Done Stopped ea eb = tt
  joint_ends Done Spent ea eb = other_spent v one two a b all p eb
  joint_ends Done Done ea eb = done_all v one two a b all p ea
  joint_ends Done Stalled ea eb = done_all v one two a b all p ea
  joint_ends Stalled Memory ea eb = others_out eb
  joint_ends Stalled Stopped ea eb = tt
  joint_ends Stalled Spent ea eb = other_spent v one two a b all p eb
  joint_ends Stalled Done ea eb = stalled_all v one two a b all p ea
  joint_ends Stalled Stalled ea eb = stalled_all v one two a b all p ea

-- where their joint end is not Memory, neither part ends with Memory
first_has : (first others : LoopEnd) → (joint_end first others ≡ Memory → ⊥) → first ≡ Memory → ⊥
first_has first others not is = not (ap (λ e. joint_end e others) is)

others_have : (first others : LoopEnd) → (joint_end first others ≡ Memory → ⊥) → others ≡ Memory → ⊥
others_have Memory others not is = not refl
others_have Stopped others not is = not (ap (joint_end Stopped) is)
others_have Spent others not is = not (ap (joint_end Spent) is)
others_have Done others not is = not (ap (joint_end Done) is)
others_have Stalled others not is = not (ap (joint_end Stalled) is)

-- ---- all of it

alone_ends : (w : PassView) (end : LoopEnd) → EndsAs w end → CrewEndsAs 1 w end
alone_ends w Done ends = ends
alone_ends w Stalled ends = ends
alone_ends w Stopped ends = tt
alone_ends w Memory ends = λ not. any_one w.shares ∙ ends not
alone_ends w Spent ends = ends

pub alone_worked : (came : ℕ → ℕ → Type 0) (s : Scenario) (batch : ℕ) (v w : PassView) (end : LoopEnd)
    → HasWorked came s batch v w end → HaveWorked came s batch 1 v w end
alone_worked came s batch v w end h = record {
  follows = alone_follows v w h.follows;
  blocks = alone_puts came s v.low batch v.front w.front h.blocks;
  ends = alone_ends w end h.ends;
  going = λ not. any_one w.shares ∙ (h.going not ∙ sym (any_one v.shares));
}

pub joint_worked : (came : ℕ → ℕ → Type 0) (s : Scenario) (batch m : ℕ) (v one two a b all : PassView)
    (first others : LoopEnd) → 1 < m → m ≤ v.count → 1 < v.count → one ≡ lower_part v → two ≡ upper_part v
    → HasWorked came s batch one a first → HaveWorked came s batch (m - 1) two b others → IsFaithful trace_log a
    → all ≡ record (joined_view a b) { end = all.end } → ((joined_view a b).end ≡ true → all.end ≡ true)
    → Begins a.front all.front × Begins b.front all.front
    → ((w : ℕ) → HasNumber a w → own_entries w all.front ≡ own_entries w a.front)
    → ((w : ℕ) → HasNumber b w → own_entries w all.front ≡ own_entries w b.front)
    → HaveWorked came s batch m v all (joint_end first others)
joint_worked came s batch m v one two a b all first others more numbers many is_one is_two wa wb faithful glued end
    fronts own1 own2 =
    let count1 : a.count ≡ 1 = wa.follows.count ∙ ap (λ u. u.count) is_one in
    let low1 : a.low ≡ v.low = wa.follows.low ∙ ap (λ u. u.low) is_one in
    let low2 : b.low ≡ v.low + 1 = wb.follows.low ∙ ap (λ u. u.low) is_two in
    let stops = stopped_all m a b all more (omega (arith, low1, low2)) faithful count1 glued in
    let p = parts_of (m - 1) v one two a b all is_one is_two wa.follows wb.follows glued fronts end in
    record {
      follows = joint_follows m v one two a b all more many is_one is_two wa.follows wb.follows glued fronts own2;
      blocks = joint_puts came s batch m v one two a b all more numbers is_one is_two wa.follows wb.follows wa.blocks
          wb.blocks fronts own1 own2;
      ends = joint_ends m v one two a b all p stops first others wa.ends wb.ends;
      going = λ not. stops
          ∙ (ap (λ t. t || is_any_stopped (m - 1) b.shares) (wa.going (first_has first others not))
          ∙ (ap (λ t. has_stopped one || t) (wb.going (others_have first others not))
          ∙ sym (stopped_parts m v one two more is_one is_two)));
    }
