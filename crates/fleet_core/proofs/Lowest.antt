-- The serial run, entry by entry.
use Rattle.std.proofs.Common.{◌≡◌, ℕ, zero, suc, ◌+◌, ◌*◌, ◌-◌, ◌<◌, ◌≤◌, nat_le, not, true, false, ◌⊎◌, inl, inr, List}
use Rattle.std.proofs.Common.{[], ◌∷◌, ◌++◌, length, Option, None, Some, refl, sym, ap, subst, ◌∙◌, arith}
use Rattle.std.proofs.lemmas.Bool.{cases_eq, cases_lt, leb-true, ne_eqb, false_from_ne_true, false≢true}
use Rattle.std.proofs.lemmas.Option.{slice_get_within}
use Rattle.scenario_image.specs.declared.step.Step.{Step}
use Rattle.scenario_image.specs.declared.step.Step.TheVariants.{Event, Post, Need}
use Rattle.scenario_image.specs.Scenario.{Row, Scenario}
use Rattle.trace_file.specs.declared.entry.Entry.{Entry}
use Rattle.fleet_core.specs.declared.roster.Roster.{Roster}
use Rattle.fleet_core.specs.Along.{Along}
use Rattle.fleet_core.specs.Next.{next_of, may_pass}
use Rattle.fleet_core.specs.Run.{step_in, step_at, made_by, is_post, posts_of, is_enabled, entry_of}
use Rattle.fleet_core.specs.Run.{Fits, IsLowest, IsSerial}
use Rattle.fleet_core.specs.Board.{FleetModel, with_entry}
use Rattle.fleet_core.specs.Roster.{IsListedFor, IsQueued, IsBlocked, IsKnown, IsOnTurn, HasWoken, IsPosted}
use Rattle.fleet_core.specs.Roster.{TurnAfter}
use Rattle.fleet_core.proofs.Along.{along-append, along_weaker}
use Rattle.fleet_core.proofs.Posts.{one, made_same, made_other, posts-push, fits_enabled, enabled_fits, blocked_ended}
use Rattle.fleet_core.proofs.Posts.{pass_same, past_rows}
use Rattle.fleet_core.proofs.Valid.{one_within}

-- ---- a step of another device

-- a step that is no post to the group that another device waits for lets that device not go
quiet : (s : Scenario) (es : List Entry) (e : Entry) (d : ℕ)
    → ((g n : ℕ) → step_at s d (made_by d es) ≡ Some (Need g n) → is_post g (step_at s e.device e.step) ≡ false)
    → (e.device ≡ d → ⊥)
    → is_enabled s es d ≡ false → is_enabled s (es ++ e ∷ []) d ≡ false
quiet s es e d none other was =
    let posts : (g n : ℕ) → step_at s d (made_by d es) ≡ Some (Need g n)
    → posts_of s g (es ++ e ∷ []) ≡ posts_of s g es = λ g n h.
    posts-push s g es e ∙ (ap (λ b. posts_of s g es + one b) (none g n h) ∙ omega arith) in
    ap (λ k. may_pass (λ g. posts_of s g (es ++ e ∷ [])) (next_of (step_at s d k))) (made_other d es e other)
    ∙ (pass_same (λ g. posts_of s g (es ++ e ∷ [])) (λ g. posts_of s g es) (step_at s d (made_by d es)) posts ∙ was)

keeps : (s : Scenario) (es : List Entry) (e : Entry) (was more : List (List (ℕ × ℕ))) (d : ℕ) → IsBlocked s es was d
    → (e.device ≡ d → ⊥)
    → ((g n : ℕ) → step_at s d (made_by d es) ≡ Some (Need g n) → is_post g (step_at s e.device e.step) ≡ false)
    → ((g n : ℕ) → step_at s d (made_by d es) ≡ Some (Need g n) → IsListedFor more g d n)
    → IsBlocked s (es ++ e ∷ []) more d
keeps s es e was more d blocked other none listed =
    record {
      stands = quiet s es e d none other blocked.stands;
      listed = λ g n at. listed g n (sym (ap (step_at s d) (made_other d es e other)) ∙ at);
    }

-- nor does a post to that group, where there still are too few
unmet : (s : Scenario) (es : List Entry) (e : Entry) (more : List (List (ℕ × ℕ))) (d g n : ℕ)
    → step_at s d (made_by d es) ≡ Some (Need g n) → (e.device ≡ d → ⊥) → posts_of s g (es ++ e ∷ []) < n
    → IsListedFor more g d n → IsBlocked s (es ++ e ∷ []) more d
unmet s es e more d g n at other few listed =
    let now : step_at s d (made_by d (es ++ e ∷ [])) ≡ Some (Need g n) =
    ap (step_at s d) (made_other d es e other) ∙ at in
    record {
      stands = false_from_ne_true (is_enabled s (es ++ e ∷ []) d)
          (λ go.
          let met : nat_le n (posts_of s g (es ++ e ∷ [])) ≡ true =
          sym (ap (λ o. may_pass (λ h. posts_of s h (es ++ e ∷ [])) (next_of o)) now) ∙ go in
          omega (arith, leb-true n (posts_of s g (es ++ e ∷ [])) met, few));
      listed = λ h m is.
          let same : Some (Need g n) ≡ Some (Need h m) = sym now ∙ is in
          let group : g ≡ h = cc in
          let count : n ≡ m = cc in
          subst (λ i. IsListedFor more i d m) group (subst (λ k. IsListedFor more g d k) count listed);
    }

-- a device that waits for posts to a group, after a post
after_post : (s : Scenario) (es : List Entry) (e : Entry) (was more : List (List (ℕ × ℕ))) (Q : Type 0) (d g h n : ℕ)
    → step_at s e.device e.step ≡ Some (Post g) → step_at s d (made_by d es) ≡ Some (Need h n)
    → (e.device ≡ d → ⊥) → IsBlocked s es was d
    → ((m : ℕ) → IsListedFor was g d m → Q ⊎ (IsListedFor more g d m × (posts_of s g (es ++ e ∷ []) < m)))
    → ((i m : ℕ) → (g ≡ i → ⊥) → IsListedFor was i d m → IsListedFor more i d m)
    → (g ≡ h) ⊎ (g ≡ h → ⊥) → Q ⊎ IsBlocked s (es ++ e ∷ []) more d
after_post s es e was more Q d g h n post at other blocked own others (inl same) =
    let here : step_at s d (made_by d es) ≡ Some (Need g n) =
    subst (λ i. step_at s d (made_by d es) ≡ Some (Need i n)) (sym same) at in
    elim (own n (blocked.listed g n here)) [
      | inl q ↦ inl q
      | inr l ↦ inr (unmet s es e more d g n here other l.1 l.0)
    ]
after_post s es e was more Q d g h n post at other blocked own others (inr apart) =
    let away : (i m : ℕ) → step_at s d (made_by d es) ≡ Some (Need i m) → g ≡ i → ⊥ = λ i m is q.
    (let e2 : Some (Need h n) ≡ Some (Need i m) = sym at ∙ is in
    let group : h ≡ i = cc in
    apart (q ∙ sym group)) in
    inr (keeps s es e was more d blocked other (λ i m is. ap (is_post i) post ∙ ne_eqb g i (away i m is))
    (λ i m is. others i m (away i m is) (blocked.listed i m is)))

-- a device that is blocked, after a post
posted_by : (s : Scenario) (es : List Entry) (e : Entry) (was more : List (List (ℕ × ℕ))) (Q : Type 0) (d g : ℕ)
    (o : Option Step) → step_at s e.device e.step ≡ Some (Post g) → step_at s d (made_by d es) ≡ o
    → (e.device ≡ d → ⊥) → IsBlocked s es was d
    → ((m : ℕ) → IsListedFor was g d m → Q ⊎ (IsListedFor more g d m × (posts_of s g (es ++ e ∷ []) < m)))
    → ((i m : ℕ) → (g ≡ i → ⊥) → IsListedFor was i d m → IsListedFor more i d m)
    → Q ⊎ IsBlocked s (es ++ e ∷ []) more d
posted_by s es e was more Q d g None post at other blocked own others =
    inr (keeps s es e was more d blocked other
    (λ i m is. let e2 : None ≡ Some (Need i m) = sym at ∙ is in absurd cc)
    (λ i m is. let e2 : None ≡ Some (Need i m) = sym at ∙ is in absurd cc))
posted_by s es e was more Q d g (Some (Event event)) post at other blocked own others =
    inr (keeps s es e was more d blocked other
    (λ i m is. let e2 : Some (Event event) ≡ Some (Need i m) = sym at ∙ is in absurd cc)
    (λ i m is. let e2 : Some (Event event) ≡ Some (Need i m) = sym at ∙ is in absurd cc))
posted_by s es e was more Q d g (Some (Post group)) post at other blocked own others =
    inr (keeps s es e was more d blocked other
    (λ i m is. let e2 : Some (Post group) ≡ Some (Need i m) = sym at ∙ is in absurd cc)
    (λ i m is. let e2 : Some (Post group) ≡ Some (Need i m) = sym at ∙ is in absurd cc))
posted_by s es e was more Q d g (Some (Need group count)) post at other blocked own others =
    after_post s es e was more Q d g group count post at other blocked own others (cases_eq g group)

-- ---- whose turn it is

-- after a step that is no post the device goes on
quiet_known : (s : Scenario) (es : List Entry) (e : Entry) (r : Roster) (d : ℕ)
    → ((g : ℕ) → is_post g (step_at s e.device e.step) ≡ false) → (d ≡ e.device → ⊥) → IsKnown s es r d
    → IsKnown s (es ++ e ∷ []) r d
quiet_known s es e r d none other (inl h) = inl h
quiet_known s es e r d none other (inr blocked) =
    inr (keeps s es e r.waiting.items r.waiting.items d blocked (λ h. other (sym h)) (λ g n at. none g) blocked.listed)

-- it has the turn again
goes_again : (s : Scenario) (es : List Entry) (e : Entry) (old new : Roster) (next : ℕ)
    → ((g : ℕ) → is_post g (step_at s e.device e.step) ≡ false) → IsOnTurn s es old e.device
    → (new ≡ old) × (next ≡ e.device) → IsOnTurn s (es ++ e ∷ []) new next
goes_again s es e old new next none turn same =
    subst (λ r. IsOnTurn s (es ++ e ∷ []) r next) (sym same.0)
    (subst (IsOnTurn s (es ++ e ∷ []) old) (sym same.1)
    (record {
      groups = turn.groups;
      lowest = turn.lowest;
      others = λ d within other. quiet_known s es e old d none other (turn.others d within other);
    }))

-- after a post too, where there are too few for each device that waits
few_known : (s : Scenario) (es : List Entry) (e : Entry) (r : Roster) (d g : ℕ)
    → step_at s e.device e.step ≡ Some (Post g)
    → ((i n : ℕ) → IsListedFor r.waiting.items g i n → posts_of s g (es ++ e ∷ []) < n) → (d ≡ e.device → ⊥)
    → IsKnown s es r d → IsKnown s (es ++ e ∷ []) r d
few_known s es e r d g post few other (inl h) = inl h
few_known s es e r d g post few other (inr blocked) =
    posted_by s es e r.waiting.items r.waiting.items (IsQueued r d) d g (step_at s d (made_by d es)) post refl
    (λ h. other (sym h)) blocked (λ m listed. inr (listed, few d m listed)) (λ i m apart listed. listed)

goes_few : (s : Scenario) (es : List Entry) (e : Entry) (old new : Roster) (g next : ℕ)
    → step_at s e.device e.step ≡ Some (Post g) → IsOnTurn s es old e.device
    → (new ≡ old) × (next ≡ e.device)
    × ((d n : ℕ) → IsListedFor old.waiting.items g d n → posts_of s g (es ++ e ∷ []) < n)
    → IsOnTurn s (es ++ e ∷ []) new next
goes_few s es e old new g next post turn same =
    subst (λ r. IsOnTurn s (es ++ e ∷ []) r next) (sym same.0)
    (subst (IsOnTurn s (es ++ e ∷ []) old) (sym same.1)
    (record {
      groups = turn.groups;
      lowest = turn.lowest;
      others = λ d within other. few_known s es e old d g post same.2 other (turn.others d within other);
    }))

-- else the lowest of those that it woke is next
woken_from : (s : Scenario) (es : List Entry) (e : Entry) (old new : Roster) (d g next : ℕ)
    → step_at s e.device e.step ≡ Some (Post g) → HasWoken old new g (posts_of s g (es ++ e ∷ [])) e.device next
    → (d ≡ next → ⊥) → (d ≡ e.device → ⊥) → IsKnown s es old d → IsKnown s (es ++ e ∷ []) new d
woken_from s es e old new d g next post woken ne other (inl h) = inl (woken.kept d ne h)
woken_from s es e old new d g next post woken ne other (inr blocked) =
    posted_by s es e old.waiting.items new.waiting.items (IsQueued new d) d g (step_at s d (made_by d es)) post refl
    (λ h. other (sym h)) blocked (λ m listed. woken.woken d m ne listed)
    (λ i m apart listed. woken.listed i d m apart listed)

woken_known : (s : Scenario) (es : List Entry) (e : Entry) (old new : Roster) (d g next : ℕ)
    → step_at s e.device e.step ≡ Some (Post g) → IsOnTurn s es old e.device
    → HasWoken old new g (posts_of s g (es ++ e ∷ [])) e.device next
    → d < length s.rows → (d ≡ next → ⊥) → (d ≡ e.device) ⊎ (d ≡ e.device → ⊥) → IsKnown s (es ++ e ∷ []) new d
woken_known s es e old new d g next post turn woken within ne (inl own) =
    inl (subst (IsQueued new) (sym own) (woken.last (λ q. ne (own ∙ q))))
woken_known s es e old new d g next post turn woken within ne (inr other) =
    woken_from s es e old new d g next post woken ne other (turn.others d within other)

goes_woken : (s : Scenario) (es : List Entry) (e : Entry) (old new : Roster) (g next : ℕ)
    → step_at s e.device e.step ≡ Some (Post g) → IsOnTurn s es old e.device
    → HasWoken old new g (posts_of s g (es ++ e ∷ [])) e.device next
    → IsOnTurn s (es ++ e ∷ []) new next
goes_woken s es e old new g next post turn woken = record {
  groups = woken.groups ∙ turn.groups;
  lowest = woken.lowest;
  others = λ d within ne.
      woken_known s es e old new d g next post turn woken within ne (cases_eq d e.device);
}

goes_posted : (s : Scenario) (es : List Entry) (e : Entry) (old new : Roster) (g next : ℕ)
    → step_at s e.device e.step ≡ Some (Post g) → IsOnTurn s es old e.device
    → IsPosted old new g (posts_of s g (es ++ e ∷ [])) e.device next → IsOnTurn s (es ++ e ∷ []) new next
goes_posted s es e old new g next post turn (inl few) = goes_few s es e old new g next post turn few
goes_posted s es e old new g next post turn (inr woken) = goes_woken s es e old new g next post turn woken

-- the device has made a step
turn_goes : (s : Scenario) (es : List Entry) (e : Entry) (old new : Roster) (next : ℕ) (o : Option Step)
    → step_at s e.device e.step ≡ o → IsOnTurn s es old e.device
    → TurnAfter old new o (λ g. posts_of s g (es ++ e ∷ [])) e.device next → IsOnTurn s (es ++ e ∷ []) new next
turn_goes s es e old new next None at turn same =
    goes_again s es e old new next (λ g. ap (is_post g) at) turn same
turn_goes s es e old new next (Some (Event event)) at turn same =
    goes_again s es e old new next (λ g. ap (is_post g) at) turn same
turn_goes s es e old new next (Some (Post group)) at turn after = goes_posted s es e old new group next at turn after
turn_goes s es e old new next (Some (Need group count)) at turn same =
    goes_again s es e old new next (λ g. ap (is_post g) at) turn same

-- ---- the invariant

-- the entries so far are always the lowest, and it is the turn of this device
pub record IsOnWay (s : Scenario) (low : ℕ) (r : Roster) (v : FleetModel) : Type 0 where
  pub scenario : v.scenario ≡ s
  pub ready : v.spent ≡ false
  pub along : Along (IsLowest s) [] v.entries
  pub turn : IsOnTurn s v.entries r low

pub sets_out : (s : Scenario) (r : Roster) (v : FleetModel)
    → v ≡ record { scenario = s; entries = []; spent = false } → IsOnTurn s [] r 0 → IsOnWay s 0 r v
sets_out s r v is turn = subst (λ w. IsOnWay s 0 r w) (sym is)
    (record { scenario = refl; ready = refl; along = tt; turn = turn })

not_lower : (s : Scenario) (es : List Entry) (r : Roster) (low : ℕ) (other : Entry) → Fits s es other
    → other.device < low → IsOnTurn s es r low → IsKnown s es r other.device → ⊥
not_lower s es r low other fits less turn (inl h) = omega (arith, turn.lowest other.device h, less)
not_lower s es r low other fits less turn (inr blocked) =
    false≢true (sym blocked.stands ∙ fits_enabled s es other fits)

lowest_in : (s : Scenario) (es : List Entry) (r : Roster) (low : ℕ) (other : Entry) → IsOnTurn s es r low
    → Fits s es other → other.device < low → (other.device < length s.rows) ⊎ (length s.rows ≤ other.device) → ⊥
lowest_in s es r low other turn fits less (inl within) =
    not_lower s es r low other fits less turn (turn.others other.device within (λ q. omega (arith, q, less)))
lowest_in s es r low other turn fits less (inr past) =
    false≢true (sym (past_rows s es other.device past) ∙ fits_enabled s es other fits)

lowest : (s : Scenario) (es : List Entry) (r : Roster) (low : ℕ) (other : Entry) → IsOnTurn s es r low
    → Fits s es other → (other.device < low) ⊎ (low ≤ other.device) → low ≤ other.device
lowest s es r low other turn fits (inl less) =
    absurd (lowest_in s es r low other turn fits less (cases_lt other.device (length s.rows)))
lowest s es r low other turn fits (inr h) = h

-- the device whose turn it is goes
pub goes_on : (s : Scenario) (low next : ℕ) (old r : Roster) (v new : FleetModel) (o : Option Step)
    → IsOnWay s low old v → true ≡ is_enabled v.scenario v.entries low
    → o ≡ step_at v.scenario low (made_by low v.entries) → new ≡ with_entry v 0 low
    → TurnAfter old r o (λ g. posts_of new.scenario g new.entries) low next → IsOnWay s next r new
goes_on s low next old r v new o way can at is after =
    let go : is_enabled s v.entries low ≡ true = ap (λ t. is_enabled t v.entries low) (sym way.scenario) ∙ sym can in
    let step : step_at s low (made_by low v.entries) ≡ o =
    sym (at ∙ ap (λ t. step_at t low (made_by low v.entries)) way.scenario) in
    let more : new ≡ record { scenario = s; entries = v.entries ++ entry_of s 0 low v.entries ∷ []; spent = false } =
    is ∙ ap (λ t. record { scenario = t; entries = v.entries ++ entry_of t 0 low v.entries ∷ []; spent = false })
    way.scenario in
    let then : TurnAfter old r o (λ g. posts_of s g (v.entries ++ entry_of s 0 low v.entries ∷ [])) low next =
    subst (λ w. TurnAfter old r o (λ g. posts_of w.scenario g w.entries) low next) more after in
    subst (λ w. IsOnWay s next r w) (sym more)
    (record {
      scenario = refl;
      ready = refl;
      along = along-append (IsLowest s) [] v.entries (entry_of s 0 low v.entries ∷ []) way.along (
        (record {
          fits = enabled_fits s v.entries 0 low go;
          worker = refl;
          lowest = λ other fits. lowest s v.entries old low other way.turn fits (cases_lt other.device low);
        }),
        tt,
      );
      turn = turn_goes s v.entries (entry_of s 0 low v.entries) old r next o step way.turn then;
    })

-- the device whose turn it is can't go, and it is the turn of another
pub passes_on : (s : Scenario) (low next : ℕ) (old r : Roster) (v : FleetModel) → IsOnWay s low old v
    → IsOnTurn v.scenario v.entries r next → IsOnWay s next r v
passes_on s low next old r v way turn =
    record {
      scenario = way.scenario;
      ready = way.ready;
      along = way.along;
      turn = subst (λ t. IsOnTurn t v.entries r next) way.scenario turn;
    }

-- no device can go
pub arrives : (s : Scenario) (low : ℕ) (r : Roster) (v : FleetModel) → IsOnWay s low r v
    → ((d : ℕ) → is_enabled v.scenario v.entries d ≡ false) → IsSerial s v.entries
arrives s low r v way none =
    record {
      complete = record {
        run = record { along = along_weaker (IsLowest s) (Fits s) (λ b e h. h.fits) [] v.entries way.along };
        ended = blocked_ended s v.entries (subst (λ t. (d : ℕ) → is_enabled t v.entries d ≡ false) way.scenario none);
      };
      along = way.along;
    }

-- ---- the steps that are left

-- of each row d after its first m d steps
abbrev pub left : (ℕ → ℕ) → List Row → ℕ
left m [] = 0
left m (r ∷ rs) = (length r.steps - m 0) + left (λ d. m (suc d)) rs

left-same : (m n : ℕ → ℕ) (rs : List Row) → ((d : ℕ) → n d ≡ m d) → left n rs ≡ left m rs
left-same m n [] h = refl
left-same m n (r ∷ rs) h = omega (arith, h 0, left-same (λ d. m (suc d)) (λ d. n (suc d)) rs (λ d. h (suc d)))

pub left-next : (m n : ℕ → ℕ) (rs : List Row) (d : ℕ) (step : Step) → step_in rs d (m d) ≡ Some step → n d ≡ suc (m d)
    → ((i : ℕ) → (d ≡ i → ⊥) → n i ≡ m i) → left m rs ≡ suc (left n rs)
left-next m n [] d step at here others = let e : None ≡ Some step = at in absurd cc
left-next m n (r ∷ rs) zero step at here others =
    let e : left (λ d. n (suc d)) rs ≡ left (λ d. m (suc d)) rs =
    left-same (λ d. m (suc d)) (λ d. n (suc d)) rs (λ d. others (suc d) (λ h. omega (arith, h))) in
    omega (arith, e, here, slice_get_within r.steps (m 0) step at)
left-next m n (r ∷ rs) (suc d) step at here others =
    let e : n 0 ≡ m 0 = others 0 (λ h. omega (arith, h)) in
    let f = left-next (λ d. m (suc d)) (λ d. n (suc d)) rs d step at here
    (λ i h. others (suc i) (λ q. h (omega (arith, q)))) in
    omega (arith, e, f)

-- how far the serial run is from its end: the steps that are left, and whether one can be made in this turn
abbrev pub distance : Scenario → ℕ → FleetModel → ℕ
distance s low v =
    2 * left (λ d. made_by d v.entries) s.rows + one (not (is_enabled v.scenario v.entries low))

-- a turn of a device that can go comes after one of a device that can't
pub goes_along : (s : Scenario) (low next : ℕ) (v new : FleetModel) → new ≡ v
    → is_enabled v.scenario v.entries low ≡ false → is_enabled new.scenario new.entries next ≡ true
    → distance s next new < distance s low v
goes_along s low next v new same blocked can =
    subst (λ w. is_enabled w.scenario w.entries next ≡ true → distance s next w < distance s low v) (sym same)
    (λ go. omega (arith, ap (λ b. one (not b)) blocked, ap (λ b. one (not b)) go)) can

pub goes_down : (s : Scenario) (low next : ℕ) (v new : FleetModel) → v.scenario ≡ s
    → true ≡ is_enabled v.scenario v.entries low → new ≡ with_entry v 0 low
    → distance s next new < distance s low v
goes_down s low next v new scenario can is =
    let go : is_enabled s v.entries low ≡ true = ap (λ t. is_enabled t v.entries low) (sym scenario) ∙ sym can in
    let fits = enabled_fits s v.entries 0 low go in
    let more : new.entries ≡ v.entries ++ entry_of s 0 low v.entries ∷ [] =
    ap (λ w. w.entries) is ∙ ap (λ t. v.entries ++ entry_of t 0 low v.entries ∷ []) scenario in
    let down : left (λ d. made_by d v.entries) s.rows ≡ suc (left (λ d. made_by d new.entries) s.rows) =
    left-next (λ d. made_by d v.entries) (λ d. made_by d new.entries) s.rows low fits.step fits.stands
    (ap (made_by low) more ∙ made_same low v.entries (entry_of s 0 low v.entries) refl)
    (λ i h. ap (made_by i) more ∙ made_other i v.entries (entry_of s 0 low v.entries) h) in
    omega (arith, down, one_within (not (is_enabled new.scenario new.entries next)))
