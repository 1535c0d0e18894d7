-- Rows that go on, and needs that are passed.
use Rattle.std.proofs.Common.{◌≡◌, ◌⊎◌, inl, inr, ℕ, ◌+◌, ◌-◌, ◌^◌, ◌<◌, ◌≤◌, min, Bool, true, false, List}
use Rattle.std.proofs.Common.{None, Some, slice_get, refl, sym, ap, subst, ◌∙◌, arith}
use Rattle.std.proofs.lemmas.Bool.{cases_eq, eq-eqb}
use Rattle.std.proofs.lemmas.Map.Keys.{any_passes_from_place}
use Rattle.std.proofs.lemmas.Option.{slice_get_within}
use Rattle.std.specs.List.{list_any, slice_set}
use Rattle.lemmas.proofs.Lists.{item_set, set_elsewhere}
use Rattle.fleet_link.specs.declared.row.PlayedRow.{PlayedRow}
use Rattle.fleet_link.specs.declared.row.RowState.{RowState}
use Rattle.fleet_link.specs.declared.row.RowState.TheVariants.{Waits}
use Rattle.fleet_link.specs.declared.slot.Slot.{Slot}
use Rattle.fleet_link.specs.Playing.{happened_count, is_waiting, is_waiting_for, row_state, CanPass, IsPassed}
use Rattle.fleet_link.specs.Serving.{all_posts, place_in, repeats_in, share_in, ArePassed, HaveGoneOn}
use Rattle.fleet_link.proofs.Fleets.{all_still}
use Rattle.fleet_link.proofs.Passing.{passed_count}

-- ---- rows and recordings that go on

pub gone_same : (slots : List Slot) → HaveGoneOn slots slots
gone_same slots = record { further = λ e. omega arith; repeats = λ e. refl; shares = λ e. refl }

pub gone_as : (before after : List Slot) → after ≡ before → HaveGoneOn before after
gone_as before after same = subst (HaveGoneOn before) (sym same) (gone_same before)

pub gone_both : (before between after : List Slot) → HaveGoneOn before between → HaveGoneOn between after
    → HaveGoneOn before after
gone_both before between after h k =
    record {
      further = λ e. let a = h.further e in let b = k.further e in omega (arith, a, b);
      repeats = λ e. k.repeats e ∙ h.repeats e;
      shares = λ e. k.shares e ∙ h.shares e;
    }

-- one device has gone on
pub gone_set : (slots : List Slot) (place : ℕ) (slot new : Slot) → slice_get slots place ≡ Some slot
    → happened_count slot.row ≤ happened_count new.row → new.row.repeated ≡ slot.row.repeated
    → new.recording.share ≡ slot.recording.share → HaveGoneOn slots (slice_set slots place new)
gone_set slots place slot new at le repeated share =
    record {
      further = λ e. further e (cases_eq place e);
      repeats = λ e. repeats e (cases_eq place e);
      shares = λ e. shares e (cases_eq place e);
    }
  where
    here : slice_get (slice_set slots place new) place ≡ Some new
    here = item_set slots place new (slice_get_within slots place slot at)

    further : (e : ℕ) → (place ≡ e) ⊎ (place ≡ e → ⊥)
        → place_in (slice_get slots e) ≤ place_in (slice_get (slice_set slots place new) e)
    further e (inl same) =
        subst (λ i. place_in (slice_get slots i) ≤ place_in (slice_get (slice_set slots place new) i)) same
        (omega (arith, le, ap place_in at, ap place_in here))
    further e (inr other) = omega (arith, ap place_in (set_elsewhere slots place e new other))

    repeats : (e : ℕ) → (place ≡ e) ⊎ (place ≡ e → ⊥)
        → repeats_in (slice_get (slice_set slots place new) e) ≡ repeats_in (slice_get slots e)
    repeats e (inl same) =
        subst (λ i. repeats_in (slice_get (slice_set slots place new) i) ≡ repeats_in (slice_get slots i)) same
        (ap repeats_in here ∙ repeated ∙ sym (ap repeats_in at))
    repeats e (inr other) = ap repeats_in (set_elsewhere slots place e new other)

    shares : (e : ℕ) → (place ≡ e) ⊎ (place ≡ e → ⊥)
        → share_in (slice_get (slice_set slots place new) e) ≡ share_in (slice_get slots e)
    shares e (inl same) =
        subst (λ i. share_in (slice_get (slice_set slots place new) i) ≡ share_in (slice_get slots i)) same
        (ap share_in here ∙ share ∙ sym (ap share_in at))
    shares e (inr other) = ap share_in (set_elsewhere slots place e new other)

-- ---- no row waits

none_waits : (test : RowState → Bool) (slots : List Slot) (e : ℕ) (slot : Slot) (any : Bool)
    → any ≡ list_any (λ (x : Slot). test (row_state x.row)) slots → any ≡ false → slice_get slots e ≡ Some slot
    → test (row_state slot.row) ≡ true → ⊥
none_waits test slots e slot any is none at waits =
    let some : list_any (λ (x : Slot). test (row_state x.row)) slots ≡ true =
    any_passes_from_place (λ (x : Slot). test (row_state x.row)) slots e slot at waits in
    let k : false ≡ true = sym none ∙ is ∙ some in
    cc

pub none_can : (slots : List Slot) (e group posts now : ℕ) (slot : Slot) (any : Bool)
    → any ≡ list_any (λ (x : Slot). is_waiting (row_state x.row)) slots → any ≡ false
    → slice_get slots e ≡ Some slot → CanPass group posts now slot.row → ⊥
none_can slots e group posts now slot any is none at can =
    none_waits is_waiting slots e slot any is none at (ap is_waiting can.waits)

pub none_can_for : (slots : List Slot) (e group posts now : ℕ) (slot : Slot) (any : Bool)
    → any ≡ list_any (λ (x : Slot). is_waiting_for group (row_state x.row)) slots → any ≡ false
    → slice_get slots e ≡ Some slot → CanPass group posts now slot.row → ⊥
none_can_for slots e group posts now slot any is none at can =
    none_waits (is_waiting_for group) slots e slot any is none at
    (ap (is_waiting_for group) can.waits ∙ eq-eqb group group refl)

-- ---- needs of one group

-- what came of the need of one device
pub record IsTried (group posts now : ℕ) (old new : Slot) : Type 0 where
  pub passed : (new.row ≡ old.row) ⊎ ((old.end ≡ None) × IsPassed group posts now old.row new.row)
  pub kept : new.row ≡ old.row → new ≡ old
  pub left : (count second : ℕ) → new.row ≡ old.row → old.end ≡ None → row_state old.row ≡ Waits group count
      → old.row.second ≡ Some second → second ≤ now → now < second + 2 ^ 32 → posts < count
  pub share : new.recording.share ≡ old.recording.share

-- the needs of the first devices have been tried
pub record AreTried (group posts now : ℕ) (first slots : List Slot) (n : ℕ) : Type 0 where
  pub passed : (e : ℕ) (slot : Slot) → e < n → slice_get first e ≡ Some slot → slot.end ≡ None → (all : ℕ)
      → posts ≡ min all (2 ^ 64 - 1) → CanPass group all now slot.row
      → happened_count slot.row < place_in (slice_get slots e)
  pub same : (e : ℕ) (slot : Slot) → slice_get first e ≡ Some slot
      → (slice_get slots e ≡ Some slot) ⊎ (happened_count slot.row < place_in (slice_get slots e))
  pub untouched : (e : ℕ) → n ≤ e → slice_get slots e ≡ slice_get first e
  pub posts_are : (other : ℕ) → min (all_posts first other) (2 ^ 64 - 1) ≤ min (all_posts slots other) (2 ^ 64 - 1)
  pub went : HaveGoneOn first slots

pub none_tried : (group posts now : ℕ) (slots : List Slot) → AreTried group posts now slots slots 0
none_tried group posts now slots =
    record {
      passed = λ e slot l. absurd (omega (arith, l));
      same = λ e slot at. inl at;
      untouched = λ e le. refl;
      posts_are = λ other. omega arith;
      went = gone_same slots;
    }

pub one_tried : (group posts now : ℕ) (first slots : List Slot) (n : ℕ) (old new : Slot)
    → AreTried group posts now first slots n → slice_get slots n ≡ Some old → IsTried group posts now old new
    → AreTried group posts now first (slice_set slots n new) (n + 1)
one_tried group posts now first slots n old new h at tried =
    record {
      passed = λ e slot l got on all is can. passed e slot l got on all is can (cases_eq n e);
      same = λ e slot got. same e slot got (cases_eq n e);
      untouched = λ e le.
          set_elsewhere slots n e new (λ k. absurd (omega (arith, k, le))) ∙ h.untouched e (omega (arith, le));
      posts_are = λ other.
          let a = h.posts_are other in
          let b = all_still slots n group posts now other old new at tried.passed in
          omega (arith, a, b);
      went = gone_both first slots (slice_set slots n new) h.went (gone_set slots n old new at (later tried.passed)
          (repeated tried.passed) tried.share);
    }
  where
    later : (new.row ≡ old.row) ⊎ ((old.end ≡ None) × IsPassed group posts now old.row new.row)
        → happened_count old.row ≤ happened_count new.row
    later (inl row) = omega (arith, ap happened_count row)
    later (inr (on, p)) = omega (arith, passed_count group posts now old.row new.row p)

    repeated : (new.row ≡ old.row) ⊎ ((old.end ≡ None) × IsPassed group posts now old.row new.row)
        → new.row.repeated ≡ old.row.repeated
    repeated (inl row) = ap (λ (r : PlayedRow). r.repeated) row
    repeated (inr (on, p)) = p.advanced.repeated

    here : slice_get (slice_set slots n new) n ≡ Some new
    here = item_set slots n new (slice_get_within slots n old at)

    -- it is the device at this place
    is_old : (slot : Slot) → slice_get first n ≡ Some slot → old ≡ slot
    is_old slot got = let e : Some old ≡ Some slot = sym at ∙ h.untouched n (omega arith) ∙ got in cc

    grown : (slot : Slot) → old ≡ slot → happened_count slot.row < happened_count new.row
        → happened_count slot.row < place_in (slice_get (slice_set slots n new) n)
    grown slot is l = omega (arith, l, ap place_in here)

    passed_here : (slot : Slot) → old ≡ slot → slot.end ≡ None → (all : ℕ) → posts ≡ min all (2 ^ 64 - 1)
        → CanPass group all now slot.row
        → (new.row ≡ old.row) ⊎ ((old.end ≡ None) × IsPassed group posts now old.row new.row)
        → happened_count slot.row < happened_count new.row
    passed_here slot is on all posts_is can (inl row) =
        let few : posts < can.count =
        tried.left can.count can.second row (ap (λ (s : Slot). s.end) is ∙ on)
        (ap (λ (s : Slot). row_state s.row) is ∙ can.waits)
        (ap (λ (s : Slot). s.row.second) is ∙ can.second_is) can.came can.lately in
        absurd (omega (arith, few, posts_is, can.met, can.few))
    passed_here slot is on all posts_is can (inr (going, p)) =
        omega (
          arith,
          passed_count group posts now old.row new.row p,
          ap (λ (s : Slot). happened_count s.row) is,
        )

    passed : (e : ℕ) (slot : Slot) → e < n + 1 → slice_get first e ≡ Some slot → slot.end ≡ None → (all : ℕ)
        → posts ≡ min all (2 ^ 64 - 1) → CanPass group all now slot.row → (n ≡ e) ⊎ (n ≡ e → ⊥)
        → happened_count slot.row < place_in (slice_get (slice_set slots n new) e)
    passed e slot l got on all posts_is can (inl place) =
        let is = is_old slot (ap (slice_get first) place ∙ got) in
        subst (λ i. happened_count slot.row < place_in (slice_get (slice_set slots n new) i)) place
        (grown slot is (passed_here slot is on all posts_is can tried.passed))
    passed e slot l got on all posts_is can (inr other) =
        let before : e < n = omega (arith, l, other) in
        let so = h.passed e slot before got on all posts_is can in
        omega (arith, so, ap place_in (set_elsewhere slots n e new other))

    same_here : (slot : Slot) → old ≡ slot
        → (new.row ≡ old.row) ⊎ ((old.end ≡ None) × IsPassed group posts now old.row new.row)
        → (slice_get (slice_set slots n new) n ≡ Some slot)
        ⊎ (happened_count slot.row < place_in (slice_get (slice_set slots n new) n))
    same_here slot is (inl row) = inl (here ∙ ap (λ (s : Slot). Some s) (tried.kept row ∙ is))
    same_here slot is (inr (going, p)) =
        inr (grown slot is (omega (
          arith,
          passed_count group posts now old.row new.row p,
          ap (λ (s : Slot). happened_count s.row) is,
        )))

    same_there : (e : ℕ) (slot : Slot) → (n ≡ e → ⊥)
        → (slice_get slots e ≡ Some slot) ⊎ (happened_count slot.row < place_in (slice_get slots e))
        → (slice_get (slice_set slots n new) e ≡ Some slot)
        ⊎ (happened_count slot.row < place_in (slice_get (slice_set slots n new) e))
    same_there e slot other (inl so) = inl (set_elsewhere slots n e new other ∙ so)
    same_there e slot other (inr so) = inr (omega (arith, so, ap place_in (set_elsewhere slots n e new other)))

    same : (e : ℕ) (slot : Slot) → slice_get first e ≡ Some slot → (n ≡ e) ⊎ (n ≡ e → ⊥)
        → (slice_get (slice_set slots n new) e ≡ Some slot)
        ⊎ (happened_count slot.row < place_in (slice_get (slice_set slots n new) e))
    same e slot got (inl place) =
        subst (λ i. (slice_get (slice_set slots n new) i ≡ Some slot)
        ⊎ (happened_count slot.row < place_in (slice_get (slice_set slots n new) i))) place
        (same_here slot (is_old slot (ap (slice_get first) place ∙ got)) tried.passed)
    same e slot got (inr other) = same_there e slot other (h.same e slot got)

-- ---- needs of all groups

-- those of the first groups were passed whose posts stand
pub record AreGroupsPassed (now : ℕ) (first slots : List Slot) (n : ℕ) : Type 0 where
  pub passed : (e group : ℕ) (slot : Slot) → group < n → slice_get first e ≡ Some slot → slot.end ≡ None
      → CanPass group (all_posts first group) now slot.row → happened_count slot.row < place_in (slice_get slots e)
  pub same : (e : ℕ) (slot : Slot) → slice_get first e ≡ Some slot
      → (slice_get slots e ≡ Some slot) ⊎ (happened_count slot.row < place_in (slice_get slots e))
  pub posts_are : (other : ℕ) → min (all_posts first other) (2 ^ 64 - 1) ≤ min (all_posts slots other) (2 ^ 64 - 1)
  pub went : HaveGoneOn first slots

pub none_group : (now : ℕ) (slots : List Slot) → AreGroupsPassed now slots slots 0
none_group now slots =
    record {
      passed = λ e group slot l. absurd (omega (arith, l));
      same = λ e slot at. inl at;
      posts_are = λ other. omega arith;
      went = gone_same slots;
    }

more_posts : (group few many now : ℕ) (row : PlayedRow) → min few (2 ^ 64 - 1) ≤ min many (2 ^ 64 - 1)
    → CanPass group few now row → CanPass group many now row
more_posts group few many now row le can =
    record {
      group_is = can.group_is;
      count = can.count;
      few = can.few;
      waits = can.waits;
      met = omega (arith, le, can.met, can.few);
      second = can.second;
      second_is = can.second_is;
      came = can.came;
      lately = can.lately;
    }

pub one_group : (now : ℕ) (first slots more : List Slot) (n : ℕ) → AreGroupsPassed now first slots n
    → ((e : ℕ) (slot : Slot) → slice_get slots e ≡ Some slot → slot.end ≡ None
    → CanPass n (all_posts slots n) now slot.row → happened_count slot.row < place_in (slice_get more e))
    → ((e : ℕ) (slot : Slot) → slice_get slots e ≡ Some slot
    → (slice_get more e ≡ Some slot) ⊎ (happened_count slot.row < place_in (slice_get more e)))
    → ((other : ℕ) → min (all_posts slots other) (2 ^ 64 - 1) ≤ min (all_posts more other) (2 ^ 64 - 1))
    → HaveGoneOn slots more
    → AreGroupsPassed now first more (n + 1)
one_group now first slots more n h passes sames posts went =
    record {
      passed = λ e group slot l got on can. passed e group slot l got on can (cases_eq n group);
      same = λ e slot got. same e slot (h.same e slot got);
      posts_are = λ other.
          let a = h.posts_are other in
          let b = posts other in
          omega (arith, a, b);
      went = gone_both first slots more h.went went;
    }
  where
    same : (e : ℕ) (slot : Slot)
        → (slice_get slots e ≡ Some slot) ⊎ (happened_count slot.row < place_in (slice_get slots e))
        → (slice_get more e ≡ Some slot) ⊎ (happened_count slot.row < place_in (slice_get more e))
    same e slot (inl so) = sames e slot so
    same e slot (inr so) = let further = went.further e in inr (omega (arith, so, further))

    this_group : (e : ℕ) (slot : Slot) → slot.end ≡ None → CanPass n (all_posts first n) now slot.row
        → (slice_get slots e ≡ Some slot) ⊎ (happened_count slot.row < place_in (slice_get slots e))
        → happened_count slot.row < place_in (slice_get more e)
    this_group e slot on can (inl so) =
        passes e slot so on
        (more_posts n (all_posts first n) (all_posts slots n) now slot.row (h.posts_are n) can)
    this_group e slot on can (inr so) = let further = went.further e in omega (arith, so, further)

    passed : (e group : ℕ) (slot : Slot) → group < n + 1 → slice_get first e ≡ Some slot → slot.end ≡ None
        → CanPass group (all_posts first group) now slot.row → (n ≡ group) ⊎ (n ≡ group → ⊥)
        → happened_count slot.row < place_in (slice_get more e)
    passed e group slot l got on can (inl name) =
        this_group e slot on (subst (λ g. CanPass g (all_posts first g) now slot.row) (sym name) can)
        (h.same e slot got)
    passed e group slot l got on can (inr other) =
        let before : group < n = omega (arith, l, other) in
        let so = h.passed e group slot before got on can in
        let further = went.further e in
        omega (arith, so, further)

-- the same, where the second of the session is known by two names
pub one_group_at : (now at : ℕ) (first slots more : List Slot) (n : ℕ) → at ≡ now → AreGroupsPassed now first slots n
    → ((e : ℕ) (slot : Slot) → slice_get slots e ≡ Some slot → slot.end ≡ None
    → CanPass n (all_posts slots n) at slot.row → happened_count slot.row < place_in (slice_get more e))
    → ((e : ℕ) (slot : Slot) → slice_get slots e ≡ Some slot
    → (slice_get more e ≡ Some slot) ⊎ (happened_count slot.row < place_in (slice_get more e)))
    → ((other : ℕ) → min (all_posts slots other) (2 ^ 64 - 1) ≤ min (all_posts more other) (2 ^ 64 - 1))
    → HaveGoneOn slots more
    → AreGroupsPassed now first more (n + 1)
one_group_at now at first slots more n is h passes sames posts went =
    subst (λ m. AreGroupsPassed m first more (n + 1)) is
    (one_group at first slots more n (subst (λ m. AreGroupsPassed m first slots n) (sym is) h) passes sames posts went)

pub all_groups : (now : ℕ) (first slots : List Slot) (n : ℕ) → AreGroupsPassed now first slots n → 256 ≤ n
    → ArePassed first slots now
all_groups now first slots n h all e group slot got on can =
    h.passed e group slot (omega (arith, all, can.group_is)) got on can

-- the rows have gone on then
pub passed_on : (now : ℕ) (before between after : List Slot) → ArePassed before between now → HaveGoneOn between after
    → ArePassed before after now
passed_on now before between after h went e group slot got on can =
    let so = h e group slot got on can in
    let further = went.further e in
    omega (arith, so, further)
