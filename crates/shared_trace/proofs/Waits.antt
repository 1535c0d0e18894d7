-- The devices that wait for posts, group by group.
use Rattle.std.proofs.Common.{◌≡◌, ℕ, ◌+◌, ◌<◌, ◌≤◌, nat_lt, true, ◌⊎◌, inl, inr, List, [], ◌∷◌, length, get_or, slice_set, Contains}
use Rattle.std.proofs.Common.{IsPermutation, Some, slice_get, All, refl, sym, ap, subst, ◌∙◌, arith}
use Rattle.std.proofs.Common.{get_or-set_same, get_or-set_other}
use Rattle.std.proofs.lemmas.Bool.{cases_eq, cases_lt, false≢true}
use Rattle.std.proofs.lemmas.List.{length-set}
use Rattle.std.proofs.lemmas.List.Elements.{All-contains}
use Rattle.std.proofs.lemmas.List.Sorted.{length_permutation}
use Rattle.std.proofs.lemmas.Option.{slice_get_read, slice_get_within}
use Rattle.std.specs.declared.cmp.Reverse.{Reverse}
use Rattle.fleet_core.specs.Queue.{pairs_of}
use Rattle.fleet_core.specs.declared.next.Next.{Next}
use Rattle.fleet_core.specs.declared.next.Next.TheVariants.{End, Free, Waits}
use Rattle.fleet_core.proofs.Board.{get_or_any}
use Rattle.fleet_core.proofs.Queueing.{added_here, added_kept, taken_or}
use Rattle.shared_trace.specs.Roster.{CandidatesModel, WaitersModel, IsCandidate, IsListedFor, no_waiters}
use Rattle.shared_trace.specs.Kept.{IsListedAt, KeepsLists}
use Rattle.device_stations.proofs.Scans.{same_some}

-- ---- devices that are woken

-- each that waited for no more than these posts was woken or still waits; the others still wait; and the candidates are
-- candidates still
pub record HaveMoved (old now : List (ℕ × ℕ)) (before after : CandidatesModel) (posts : ℕ) : Type 0 where
  pub either : (d n : ℕ) → Contains old (n, d) → n ≤ posts → Contains now (n, d) ⊎ IsCandidate after d
  pub waiting : (d n : ℕ) → Contains old (n, d) → posts < n → Contains now (n, d)
  pub kept : (d : ℕ) → IsCandidate before d → IsCandidate after d

moved_one : (now rest : List (ℕ × ℕ)) (after more : CandidatesModel) (x m d n : ℕ) → IsPermutation now ((m, x) ∷ rest)
    → IsCandidate more x → ((e : ℕ) → IsCandidate after e → IsCandidate more e)
    → Contains now (n, d) ⊎ IsCandidate after d → Contains rest (n, d) ⊎ IsCandidate more d
moved_one now rest after more x m d n taken added kept (inl h) =
    elim (taken_or now rest (m, x) (n, d) taken h) [
      | inl is ↦ inr (subst (IsCandidate more) (ap (λ (w : ℕ × ℕ). w.1) is) added)
      | inr there ↦ inl there
    ]
moved_one now rest after more x m d n taken added kept (inr h) = inr (kept d h)

left_one : (now rest : List (ℕ × ℕ)) (posts x m d n : ℕ) → IsPermutation now ((m, x) ∷ rest) → m ≤ posts → posts < n
    → Contains now (n, d) → Contains rest (n, d)
left_one now rest posts x m d n taken few more h =
    elim (taken_or now rest (m, x) (n, d) taken h) [
      | inl is ↦ absurd (omega (arith, ap (λ (w : ℕ × ℕ). w.0) is, few, more))
      | inr there ↦ there
    ]

pub one_moved : (old now rest : List (ℕ × ℕ)) (before after more : CandidatesModel) (posts x : ℕ)
    → HaveMoved old now before after posts → (n : ℕ) × (n ≤ posts) × IsPermutation now ((n, x) ∷ rest)
    → IsCandidate more x → ((e : ℕ) → IsCandidate after e → IsCandidate more e) → HaveMoved old rest before more posts
one_moved old now rest before after more posts x so_far taken added kept = record {
  either = λ d n h le. moved_one now rest after more x taken.0 d n taken.2 added kept (so_far.either d n h le);
  waiting = λ d n h less. left_one now rest posts x taken.0 d n taken.2 taken.1 less (so_far.waiting d n h less);
  kept = λ d h. kept d (so_far.kept d h);
}

-- where the others wait for more, all of those were woken
pub all_woken : (old now rest : List (ℕ × ℕ)) (before after : CandidatesModel) (posts : ℕ)
    → HaveMoved old now before after posts → rest ≡ now → All (λ (w : ℕ × ℕ). posts < w.0) rest → (d n : ℕ)
    → Contains old (n, d) → n ≤ posts → IsCandidate after d
all_woken old now rest before after posts moved same unmet d n h le =
    elim (moved.either d n h le) [
      | inl there ↦ absurd (let more : posts < n =
          All-contains (λ (w : ℕ × ℕ). posts < w.0) rest (n, d) unmet
          (subst (λ (l : List (ℕ × ℕ)). Contains l (n, d)) (sym same) there) in
          omega (arith, more, le))
      | inr woken ↦ woken
    ]

pub one_less : (now rest : List (ℕ × ℕ)) (posts x : ℕ) → (n : ℕ) × (n ≤ posts) × IsPermutation now ((n, x) ∷ rest)
    → length rest < length now
one_less now rest posts x taken = omega (arith, length_permutation now ((taken.0, x) ∷ rest) taken.2)

-- ---- the waiters of one group are changed

module _ (waiting : List WaitersModel) (w x : WaitersModel) (g : ℕ) (within : g < length waiting)
    (is : w ≡ get_or waiting g w) where
  -- as an index reads them
  pub read_here : get_or waiting g no_waiters ≡ w
  read_here = get_or_any waiting g no_waiters w within ∙ sym is

  pub changed_here : get_or (slice_set waiting g x) g no_waiters ≡ x
  changed_here = get_or-set_same waiting g x no_waiters within

  after_by : (h d n : ℕ) → (g ≡ h → Contains w.pairs (n, d) → Contains x.pairs (n, d)) → IsListedFor waiting h d n
      → (g ≡ h) ⊎ (g ≡ h → ⊥) → IsListedFor (slice_set waiting g x) h d n
  after_by h d n kept listed (inl same) =
      let before : Contains w.pairs (n, d) =
      subst (λ (v : WaitersModel). Contains v.pairs (n, d))
      (ap (λ i. get_or waiting i no_waiters) (sym same) ∙ read_here) listed in
      subst (λ i. IsListedFor (slice_set waiting g x) i d n) same
      (subst (λ (v : WaitersModel). Contains v.pairs (n, d)) (sym changed_here) (kept same before))
  after_by h d n kept listed (inr other) =
      subst (λ (v : WaitersModel). Contains v.pairs (n, d))
      (sym (get_or-set_other waiting g h x no_waiters (λ q. other (sym q)))) listed

  pub listed_after : (h d n : ℕ) → (g ≡ h → Contains w.pairs (n, d) → Contains x.pairs (n, d))
      → IsListedFor waiting h d n → IsListedFor (slice_set waiting g x) h d n
  listed_after h d n kept listed = after_by h d n kept listed (cases_eq g h)

  pub keeps_lists : ((d n : ℕ) → Contains w.pairs (n, d) → Contains x.pairs (n, d))
      → KeepsLists waiting (slice_set waiting g x)
  keeps_lists kept = record {
    groups = length-set waiting g x;
    lists = λ h d n listed. listed_after h d n (λ same has. kept d n has) listed;
  }

  -- the same, where so many waited, and the others are as before
  pub keeps_same : x.pairs ≡ w.pairs → KeepsLists waiting (slice_set waiting g x)
  keeps_same same =
      keeps_lists (λ d n has. subst (λ (l : List (ℕ × ℕ)). Contains l (n, d)) (sym same) has)

  pub keeps_added : (d n : ℕ) → IsPermutation ((n, d) ∷ w.pairs) x.pairs → KeepsLists waiting (slice_set waiting g x)
  keeps_added d n added = keeps_lists (λ e m has. added_kept w.pairs x.pairs (n, d) (m, e) added has)

  pub listed_here : (next : Next) (h d n : ℕ) → next ≡ Waits h n → g ≡ h → IsPermutation ((n, d) ∷ w.pairs) x.pairs
      → IsListedAt (slice_set waiting g x) d next
  listed_here next h d n at same added =
      subst (IsListedAt (slice_set waiting g x) d) (sym at)
      (subst (λ i. i < length (slice_set waiting g x) → IsListedFor (slice_set waiting g x) i d n) same
      (λ less. subst (λ (v : WaitersModel). Contains v.pairs (n, d)) (sym changed_here)
      (added_here w.pairs x.pairs (n, d) added)))

-- ---- what stays listed

pub still_listed : (old new : List WaitersModel) (d : ℕ) (next : Next) → KeepsLists old new → IsListedAt old d next
    → IsListedAt new d next
still_listed old new d End kept h = tt
still_listed old new d Free kept h = tt
still_listed old new d (Waits g n) kept h = λ less. kept.lists g d n (h (omega (arith, less, kept.groups)))

-- ---- one station after another

scan_by : {X : Type 0} (P : ℕ → X → Type 0) (xs : List X) (n : ℕ) (y : X) → slice_get xs n ≡ Some y → P n y
    → ((i : ℕ) (x : X) → i < n → slice_get xs i ≡ Some x → P i x) → (i : ℕ) (x : X) → i < n + 1
    → slice_get xs i ≡ Some x → (i < n) ⊎ (n ≤ i) → P i x
scan_by P xs n y here own before i x less at (inl lt) = before i x lt at
scan_by P xs n y here own before i x less at (inr ge) =
    let same : n ≡ i = omega (arith, less, ge) in
    let read : y ≡ x = same_some (slice_get xs i) y x (subst (λ j. slice_get xs j ≡ Some y) same here) at in
    subst (P i) read (subst (λ j. P j y) same own)

-- what holds of the elements before a place, and of the one at it, holds before the next place
pub scan_next : {X : Type 0} (P : ℕ → X → Type 0) (xs : List X) (n : ℕ) (y : X) → n < length xs → y ≡ get_or xs n y
    → P n y → ((i : ℕ) (x : X) → i < n → slice_get xs i ≡ Some x → P i x) → (i : ℕ) (x : X) → i < n + 1
    → slice_get xs i ≡ Some x → P i x
scan_next P xs n y within read own before i x less at =
    scan_by P xs n y (slice_get_read xs (length xs) n y refl within read) own before i x less at (cases_lt i n)

-- ---- the first of a heap

-- as a list has it
pub first_pair : (x : Reverse (ℕ × ℕ)) (xs : List (Reverse (ℕ × ℕ))) → true ≡ nat_lt 0 (length xs) → x ≡ get_or xs 0 x
    → slice_get (pairs_of xs) 0 ≡ Some x.0
first_pair x [] some is = absurd (false≢true (sym some))
first_pair x (y ∷ ys) some is = ap (λ (r : Reverse (ℕ × ℕ)). Some r.0) (sym is)

-- it waits for no more than these posts
pub first_few : (x : Reverse (ℕ × ℕ)) (xs : List (Reverse (ℕ × ℕ))) (posts : ℕ) → x ≡ get_or xs 0 x
    → (n : ℕ) × (d : ℕ) × (slice_get (pairs_of xs) 0 ≡ Some (n, d)) × (n ≤ posts) → x.0.0 ≤ posts
first_few x [] posts is first =
    absurd (omega (arith, slice_get_within (pairs_of []) 0 (first.0, first.1) first.2))
first_few x (y ∷ ys) posts is first =
    let e : Some y.0 ≡ Some (first.0, first.1) = first.2 in
    let f : y.0 ≡ (first.0, first.1) = cc in
    omega (arith, ap (λ (r : Reverse (ℕ × ℕ)). r.0.0) is, ap (λ (w : ℕ × ℕ). w.0) f, first.3)
