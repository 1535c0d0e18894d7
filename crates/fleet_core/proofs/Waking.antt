-- Devices that wait for posts, and those that may be able to step.
use Rattle.std.proofs.Common.{◌≡◌, ℕ, ◌+◌, ◌<◌, ◌≤◌, ◌⊎◌, inl, inr, false, List, [], ◌∷◌, length, get_or}
use Rattle.std.proofs.Common.{slice_set, Option, None, Some, All, Contains, IsPermutation, IfNone, IfSome, refl, sym, ap}
use Rattle.std.proofs.Common.{subst, ◌∙◌, arith, get_or-set_same, get_or-set_other}
use Rattle.std.proofs.lemmas.Bool.{cases_eq, cases_lt}
use Rattle.std.proofs.lemmas.List.{length-set}
use Rattle.std.proofs.lemmas.List.Elements.{All-cons, All-contains}
use Rattle.std.proofs.lemmas.List.Sorted.{Contains-permutation, length_permutation}
use Rattle.scenario_image.specs.declared.step.Step.{Step}
use Rattle.scenario_image.specs.declared.step.Step.TheVariants.{Post, Need}
use Rattle.scenario_image.specs.Scenario.{Scenario}
use Rattle.trace_file.specs.declared.entry.Entry.{Entry}
use Rattle.fleet_core.specs.declared.roster.Roster.{Roster}
use Rattle.fleet_core.specs.Run.{step_at, made_by, is_enabled}
use Rattle.fleet_core.specs.Roster.{IsListedFor, ListedBy, IsQueued, TakesLowest, Takes, IsBlocked, IsKnown}
use Rattle.fleet_core.specs.Roster.{IsOnTurn, HasWoken, TurnAfter}
use Rattle.fleet_core.proofs.Posts.{past_rows}
use Rattle.fleet_core.proofs.Board.{get_or_any}
use Rattle.fleet_core.proofs.Queueing.{added_here, added_kept, taken_or, none_there}

-- the device waits for this many posts
abbrev Waits : ℕ → ℕ → List (ℕ × ℕ) → Type 0
Waits n d l = Contains l (n, d)

-- ---- devices move into the queue

-- those that waited still wait, or are in the queue, which has those that it had
pub record HaveMoved (old now : List (ℕ × ℕ)) (before woken : List ℕ) : Type 0 where
  pub either : (d n : ℕ) → Contains old (n, d) → Contains woken d ⊎ Contains now (n, d)
  pub kept : (d : ℕ) → Contains before d → Contains woken d

pub none_moved : (old : List (ℕ × ℕ)) (before : List ℕ) → HaveMoved old old before before
none_moved old before = record { either = λ d n h. inr h; kept = λ d h. h }

moved_one : (now rest : List (ℕ × ℕ)) (woken more : List ℕ) (x m d n : ℕ) → IsPermutation now ((m, x) ∷ rest)
    → IsPermutation (x ∷ woken) more → Contains woken d ⊎ Contains now (n, d) → Contains more d ⊎ Contains rest (n, d)
moved_one now rest woken more x m d n taken added (inl h) = inl (added_kept woken more x d added h)
moved_one now rest woken more x m d n taken added (inr h) =
    elim (taken_or now rest (m, x) (n, d) taken h) [
      | inl is ↦ inl (subst (Contains more) (ap (λ (w : ℕ × ℕ). w.1) is) (added_here woken more x added))
      | inr there ↦ inr there
    ]

pub one_moved : (old now rest : List (ℕ × ℕ)) (before woken more : List ℕ) (x : ℕ) → HaveMoved old now before woken
    → (n : ℕ) × IsPermutation now ((n, x) ∷ rest) → IsPermutation (x ∷ woken) more → HaveMoved old rest before more
one_moved old now rest before woken more x so_far taken added = record {
  either = λ d n h. moved_one now rest woken more x taken.0 d n taken.1 added (so_far.either d n h);
  kept = λ d h. added_kept woken more x d added (so_far.kept d h);
}

left_waiting : (now : List (ℕ × ℕ)) (woken : List ℕ) (posts d n : ℕ) → All (λ (w : ℕ × ℕ). posts < w.0) now
    → Contains woken d ⊎ Contains now (n, d) → Contains woken d ⊎ (Contains now (n, d) × (posts < n))
left_waiting now woken posts d n unmet (inl h) = inl h
left_waiting now woken posts d n unmet (inr h) = inr (h, All-contains (λ (w : ℕ × ℕ). posts < w.0) now (n, d) unmet h)

-- those that are left wait for more posts
pub all_moved : (old now rest : List (ℕ × ℕ)) (before woken : List ℕ) (posts : ℕ) → HaveMoved old now before woken
    → rest ≡ now → All (λ (w : ℕ × ℕ). posts < w.0) rest → (d n : ℕ) → Contains old (n, d)
    → Contains woken d ⊎ (Contains rest (n, d) × (posts < n))
all_moved old now rest before woken posts moved same unmet d n h =
    left_waiting rest woken posts d n unmet
    (subst (λ (l : List (ℕ × ℕ)). Contains woken d ⊎ Contains l (n, d)) (sym same) (moved.either d n h))

-- one taken out is one less
pub one_fewer : (now rest : List (ℕ × ℕ)) (x : ℕ) → (n : ℕ) × IsPermutation now ((n, x) ∷ rest)
    → length rest < length now
one_fewer now rest x taken = omega (arith, length_permutation now ((taken.0, x) ∷ rest) taken.1)

-- ---- a device waits

-- the waiters of a group, as an index reads them
read_at : (waiting : List (List (ℕ × ℕ))) (w : List (ℕ × ℕ)) (g : ℕ) → g < length waiting → w ≡ get_or waiting g w
    → get_or waiting g [] ≡ w
read_at waiting w g within is = get_or_any waiting g [] w within ∙ sym is

pub listed_here : (waiting : List (List (ℕ × ℕ))) (w x : List (ℕ × ℕ)) (g d n : ℕ) → g < length waiting
    → IsPermutation ((n, d) ∷ w) x → IsListedFor (slice_set waiting g x) g d n
listed_here waiting w x g d n within added =
    subst (Waits n d) (sym (get_or-set_same waiting g x [] within)) (added_here w x (n, d) added)

kept_at : (waiting : List (List (ℕ × ℕ))) (w x : List (ℕ × ℕ)) (g d n h e m : ℕ) → g < length waiting
    → w ≡ get_or waiting g w → IsPermutation ((n, d) ∷ w) x → IsListedFor waiting h e m → (g ≡ h) ⊎ (g ≡ h → ⊥)
    → IsListedFor (slice_set waiting g x) h e m
kept_at waiting w x g d n h e m within is added listed (inl same) =
    let before : Contains w (m, e) =
    subst (Waits m e) (ap (λ i. get_or waiting i []) (sym same) ∙ read_at waiting w g within is) listed in
    subst (λ i. IsListedFor (slice_set waiting g x) i e m) same
    (subst (Waits m e) (sym (get_or-set_same waiting g x [] within))
    (added_kept w x (n, d) (m, e) added before))
kept_at waiting w x g d n h e m within is added listed (inr other) =
    subst (Waits m e) (sym (get_or-set_other waiting g h x [] (λ q. other (sym q)))) listed

-- the others still wait
pub listed_kept : (waiting : List (List (ℕ × ℕ))) (w x : List (ℕ × ℕ)) (g d n : ℕ) → g < length waiting
    → w ≡ get_or waiting g w → IsPermutation ((n, d) ∷ w) x → (h e m : ℕ) → IsListedFor waiting h e m
    → IsListedFor (slice_set waiting g x) h e m
listed_kept waiting w x g d n within is added h e m listed =
    kept_at waiting w x g d n h e m within is added listed (cases_eq g h)

-- the device's next step is this need
pub listed_by : (waiting : List (List (ℕ × ℕ))) (o : Option Step) (w x : List (ℕ × ℕ)) (i g d n : ℕ)
    → o ≡ Some (Need g n) → i ≡ g → i < length waiting → IsPermutation ((n, d) ∷ w) x
    → ListedBy (slice_set waiting i x) d o
listed_by waiting o w x i g d n next same within added =
    subst (ListedBy (slice_set waiting i x) d) (sym next)
    (subst (λ h. IsListedFor (slice_set waiting i x) h d n) same (listed_here waiting w x i d n within added))

-- with so few posts, each waits for more
pub too_few : (waiting : List (List (ℕ × ℕ))) (w : List (ℕ × ℕ)) (g posts : ℕ) → g < length waiting
    → w ≡ get_or waiting g w → All (λ (v : ℕ × ℕ). posts < v.0) w → (d n : ℕ) → IsListedFor waiting g d n → posts < n
too_few waiting w g posts within is unmet d n listed =
    All-contains (λ (v : ℕ × ℕ). posts < v.0) w (n, d) unmet
    (subst (Waits n d) (read_at waiting w g within is) listed)

-- after a post to the group, of which there still are too few, it is the same device's turn
pub stays_on : (r : Roster) (o : Option Step) (w : List (ℕ × ℕ)) (i g n low : ℕ) (posts : ℕ → ℕ) → o ≡ Some (Post g)
    → i ≡ g → n ≡ posts g → i < length r.waiting.items → w ≡ get_or r.waiting.items i w
    → All (λ (v : ℕ × ℕ). n < v.0) w → TurnAfter r r o posts low low
stays_on r o w i g n low posts step same count within is unmet =
    subst (λ x. TurnAfter r r x posts low low) (sym step)
    (inl (
      refl,
      refl,
      λ d m listed.
          subst (λ k. k < m) count
          (too_few r.waiting.items w i n within is unmet d m
          (subst (λ h. IsListedFor r.waiting.items h d m) (sym same) listed)),
    ))

-- ---- the lowest of the queue

popped_at : (old : Roster) (woken : List ℕ) (x e : ℕ) → IsPermutation old.woken (x ∷ woken) → All (λ f. x ≤ f) woken
    → ((d : ℕ) → old.fresh ≤ d → d < old.end → (f : ℕ) × (f < d) × Contains old.woken f)
    → Contains woken e ⊎ ((old.fresh ≤ e) × (e < old.end)) → x ≤ e
popped_at old woken x e rest lowest above (inl h) = All-contains (λ f. x ≤ f) woken e lowest h
popped_at old woken x e rest lowest above (inr h) =
    let below = above e h.0 h.1 in
    let first : x ≤ below.0 =
    All-contains (λ f. x ≤ f) (x ∷ woken) below.0 (All-cons (λ f. x ≤ f) x woken (omega arith) lowest)
    (Contains-permutation old.woken (x ∷ woken) below.0 rest below.2) in
    omega (arith, first, below.1)

popped_others : (old : Roster) (woken : List ℕ) (x e : ℕ) → IsPermutation old.woken (x ∷ woken) → (e ≡ x → ⊥)
    → IsQueued old e → Contains woken e ⊎ ((old.fresh ≤ e) × (e < old.end))
popped_others old woken x e rest other (inl h) =
    elim (taken_or old.woken woken x e rest h) [ inl is ↦ absurd (other (sym is)) | inr there ↦ inl there ]
popped_others old woken x e rest other (inr h) = inr h

popped_none : (old : Roster) (d : ℕ) → old.woken ≡ []
    → ((d : ℕ) → old.fresh ≤ d → d < old.end → (f : ℕ) × (f < d) × Contains old.woken f) → IsQueued old d → ⊥
popped_none old d none above (inl h) = none_there old.woken d none h
popped_none old d none above (inr h) =
    let below = above d h.0 h.1 in none_there old.woken below.0 none below.2

-- the lowest of the woken ones, where each that had no turn yet is above one of them
pub takes_woken : (old new : Roster) (r : Option ℕ) → new.waiting ≡ old.waiting → new.fresh ≡ old.fresh
    → new.end ≡ old.end → IfSome r (λ x. IsPermutation old.woken (x ∷ new.woken))
    → IfSome r (λ x. All (λ f. x ≤ f) new.woken) → IfNone r (old.woken ≡ [])
    → ((d : ℕ) → old.fresh ≤ d → d < old.end → (f : ℕ) × (f < d) × Contains old.woken f) → Takes old new r
takes_woken old new None waiting fresh end rest lowest none above = λ d h. popped_none old d none above h
takes_woken old new (Some x) waiting fresh end rest lowest none above =
    let same : (e : ℕ) → IsQueued new e → Contains new.woken e ⊎ ((old.fresh ≤ e) × (e < old.end)) = λ e h.
    subst (λ i. Contains new.woken e ⊎ ((i ≤ e) × (e < old.end))) fresh
    (subst (λ i. Contains new.woken e ⊎ ((new.fresh ≤ e) × (e < i))) end h) in
    record {
      waiting = waiting;
      lowest = λ e h. popped_at old new.woken x e rest lowest above (same e h);
      others = λ e other h.
          subst (λ i. Contains new.woken e ⊎ ((i ≤ e) × (e < new.end))) (sym fresh)
          (subst (λ i. Contains new.woken e ⊎ ((old.fresh ≤ e) × (e < i))) (sym end)
          (popped_others old new.woken x e rest other h));
      smaller = omega (arith, length_permutation old.woken (x ∷ new.woken) rest, fresh, end);
    }

fresh_at : (old new : Roster) (e : ℕ) → new.fresh ≡ old.fresh + 1 → new.woken ≡ old.woken
    → All (λ f. old.fresh ≤ f) old.woken → IsQueued new e → old.fresh ≤ e
fresh_at old new e next woken lowest (inl h) =
    All-contains (λ f. old.fresh ≤ f) old.woken e lowest (subst (λ l. Contains l e) woken h)
fresh_at old new e next woken lowest (inr h) = let later : new.fresh ≤ e = h.0 in omega (arith, next, later)

fresh_others : (old new : Roster) (e : ℕ) → new.fresh ≡ old.fresh + 1 → new.end ≡ old.end → new.woken ≡ old.woken
    → (e ≡ old.fresh → ⊥) → IsQueued old e → IsQueued new e
fresh_others old new e next end woken other (inl h) = inl (subst (λ l. Contains l e) (sym woken) h)
fresh_others old new e next end woken other (inr h) =
    let later : old.fresh ≤ e = h.0 in
    let within : e < old.end = h.1 in
    inr (omega (arith, next, later, other), omega (arith, end, within))

-- the first of those that had no turn yet, where no woken one is lower
pub takes_fresh : (old new : Roster) → new.waiting ≡ old.waiting → new.fresh ≡ old.fresh + 1 → new.end ≡ old.end
    → new.woken ≡ old.woken → old.fresh < old.end → All (λ f. old.fresh ≤ f) old.woken
    → TakesLowest old new old.fresh
takes_fresh old new waiting next end woken left lowest = record {
  waiting = waiting;
  lowest = λ e h. fresh_at old new e next woken lowest h;
  others = λ e other h. fresh_others old new e next end woken other h;
  smaller = omega (arith, next, end, left, ap length woken);
}

-- ---- a post wakes those that wait for its group

kept_queued : (old mid new : Roster) (low next d : ℕ) (joined : List ℕ) → TakesLowest mid new next
    → mid.fresh ≡ old.fresh → mid.end ≡ old.end → ((e : ℕ) → Contains old.woken e → Contains joined e)
    → IsPermutation (low ∷ joined) mid.woken → (d ≡ next → ⊥) → IsQueued old d → IsQueued new d
kept_queued old mid new low next d joined taken fresh end kept added other (inl h) =
    taken.others d other (inl (added_kept joined mid.woken low d added (kept d h)))
kept_queued old mid new low next d joined taken fresh end kept added other (inr h) =
    let later : old.fresh ≤ d = h.0 in
    let within : d < old.end = h.1 in
    taken.others d other (inr (omega (arith, fresh, later), omega (arith, end, within)))

-- a device that waited for posts to the group
met_or_not : (old mid new : Roster) (g posts low next d n : ℕ) (w x : List (ℕ × ℕ)) (joined : List ℕ)
    → TakesLowest mid new next → mid.waiting.items ≡ slice_set old.waiting.items g x → g < length old.waiting.items
    → IsPermutation (low ∷ joined) mid.woken → (d ≡ next → ⊥)
    → Contains joined d ⊎ (Contains x (n, d) × (posts < n))
    → IsQueued new d ⊎ (IsListedFor new.waiting.items g d n × (posts < n))
met_or_not old mid new g posts low next d n w x joined taken set within added other (inl h) =
    inl (taken.others d other (inl (added_kept joined mid.woken low d added h)))
met_or_not old mid new g posts low next d n w x joined taken set within added other (inr h) =
    let now : x ≡ get_or new.waiting.items g [] =
    sym (get_or-set_same old.waiting.items g x [] within)
    ∙ (ap (λ l. get_or l g []) (sym set) ∙ ap (λ v. get_or v.items g []) (sym taken.waiting)) in
    inr (subst (Waits n d) now h.0, h.1)

pub has_woken : (old mid new : Roster) (g posts low next : ℕ) (w x : List (ℕ × ℕ)) (joined : List ℕ)
    → TakesLowest mid new next → mid.waiting.items ≡ slice_set old.waiting.items g x → mid.fresh ≡ old.fresh
    → mid.end ≡ old.end → g < length old.waiting.items → w ≡ get_or old.waiting.items g w
    → ((d n : ℕ) → Contains w (n, d) → Contains joined d ⊎ (Contains x (n, d) × (posts < n)))
    → ((d : ℕ) → Contains old.woken d → Contains joined d) → IsPermutation (low ∷ joined) mid.woken
    → HasWoken old new g posts low next
has_woken old mid new g posts low next w x joined taken set fresh end within is woken kept added = record {
  groups = ap (λ v. length v.items) taken.waiting ∙ (ap length set ∙ length-set old.waiting.items g x);
  lowest = taken.lowest;
  last = λ other. taken.others low other (inl (added_here joined mid.woken low added));
  kept = λ d other h. kept_queued old mid new low next d joined taken fresh end kept added other h;
  woken = λ d n other listed.
      met_or_not old mid new g posts low next d n w x joined taken set within added other
      (woken d n (subst (Waits n d) (read_at old.waiting.items w g within is) listed));
  listed = λ h d n other listed.
      subst (Waits n d)
      (sym (ap (λ v. get_or v.items h []) taken.waiting
      ∙ (ap (λ l. get_or l h []) set ∙ get_or-set_other old.waiting.items g h x [] (λ q. other (sym q))))) listed;
}

-- ---- a device that cannot step is passed

-- each device is in the queue or blocked
pub record AreKnown (s : Scenario) (es : List Entry) (r : Roster) : Type 0 where
  pub groups : length r.waiting.items ≡ 256
  pub known : (d : ℕ) → d < length s.rows → IsKnown s es r d

still_known : (s : Scenario) (es : List Entry) (old new : Roster) (d : ℕ) → new.fresh ≡ old.fresh
    → new.end ≡ old.end → new.woken ≡ old.woken
    → ((g e n : ℕ) → IsListedFor old.waiting.items g e n → IsListedFor new.waiting.items g e n) → IsKnown s es old d
    → IsKnown s es new d
still_known s es old new d fresh end woken kept (inl (inl h)) = inl (inl (subst (λ l. Contains l d) (sym woken) h))
still_known s es old new d fresh end woken kept (inl (inr h)) =
    let later : old.fresh ≤ d = h.0 in
    let within : d < old.end = h.1 in
    inl (inr (omega (arith, fresh, later), omega (arith, end, within)))
still_known s es old new d fresh end woken kept (inr blocked) =
    inr (record { stands = blocked.stands; listed = λ g n at. kept g d n (blocked.listed g n at) })

known_then : (s : Scenario) (es : List Entry) (old new : Roster) (low d : ℕ) (o : Option Step)
    → is_enabled s es low ≡ false → IsOnTurn s es old low → o ≡ step_at s low (made_by low es)
    → new.fresh ≡ old.fresh → new.end ≡ old.end → new.woken ≡ old.woken
    → ((g e n : ℕ) → IsListedFor old.waiting.items g e n → IsListedFor new.waiting.items g e n)
    → ListedBy new.waiting.items low o → d < length s.rows → (d ≡ low) ⊎ (d ≡ low → ⊥) → IsKnown s es new d
known_then s es old new low d o blocked turn at fresh end woken kept listed within (inl own) =
    subst (IsKnown s es new) (sym own)
    (inr (record {
      stands = blocked;
      listed = λ g n is. subst (ListedBy new.waiting.items low) (at ∙ is) listed;
    }))
known_then s es old new low d o blocked turn at fresh end woken kept listed within (inr other) =
    still_known s es old new d fresh end woken kept (turn.others d within other)

pub passed : (s : Scenario) (es : List Entry) (old new : Roster) (low : ℕ) (o : Option Step)
    → is_enabled s es low ≡ false → IsOnTurn s es old low → o ≡ step_at s low (made_by low es)
    → new.fresh ≡ old.fresh → new.end ≡ old.end → new.woken ≡ old.woken → length new.waiting.items ≡ 256
    → ((g e n : ℕ) → IsListedFor old.waiting.items g e n → IsListedFor new.waiting.items g e n)
    → ListedBy new.waiting.items low o → AreKnown s es new
passed s es old new low o blocked turn at fresh end woken groups kept listed = record {
  groups = groups;
  known = λ d within.
      known_then s es old new low d o blocked turn at fresh end woken kept listed within (cases_eq d low);
}

known_ends : (s : Scenario) (es : List Entry) (old new : Roster) (d : ℕ) → AreKnown s es old → Takes old new None
    → (d < length s.rows) ⊎ (length s.rows ≤ d) → is_enabled s es d ≡ false
known_ends s es old new d known none (inr past) = past_rows s es d past
known_ends s es old new d known none (inl within) =
    elim (known.known d within) [ inl h ↦ absurd (none d h) | inr blocked ↦ blocked.stands ]

-- where the queue is empty, no device can step
pub none_next : (s : Scenario) (es : List Entry) (old new : Roster) → AreKnown s es old → Takes old new None → (d : ℕ)
    → is_enabled s es d ≡ false
none_next s es old new known none d = known_ends s es old new d known none (cases_lt d (length s.rows))

next_known : (s : Scenario) (es : List Entry) (old new : Roster) (next d : ℕ) → TakesLowest old new next
    → (d ≡ next → ⊥) → IsKnown s es old d → IsKnown s es new d
next_known s es old new next d taken other (inl h) = inl (taken.others d other h)
next_known s es old new next d taken other (inr blocked) =
    inr (subst (λ v. IsBlocked s es v.items d) (sym taken.waiting) blocked)

-- else it is the turn of its lowest
pub one_next : (s : Scenario) (es : List Entry) (old new : Roster) (next : ℕ) → AreKnown s es old
    → TakesLowest old new next → IsOnTurn s es new next
one_next s es old new next known taken = record {
  groups = ap (λ v. length v.items) taken.waiting ∙ known.groups;
  lowest = taken.lowest;
  others = λ d within other. next_known s es old new next d taken other (known.known d within);
}

-- before the first step
pub first_turn : (s : Scenario) (es : List Entry) (r : Roster) → length r.waiting.items ≡ 256 → r.fresh ≡ 1
    → r.end ≡ length s.rows → IsOnTurn s es r 0
first_turn s es r groups fresh end = record {
  groups = groups;
  lowest = λ d h. omega arith;
  others = λ d within other. inl (inr (omega (arith, fresh, other), omega (arith, end, within)));
}
