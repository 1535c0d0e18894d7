-- When it is settled whether datagrams can be laid beside lines.
use Rattle.std.proofs.Common.{◌≡◌, ℕ, zero, suc, ◌+◌, ◌<◌, ◌≤◌, Bool, true, false, ◌||◌, List, [], ◌∷◌, ◌++◌, ◌⊎◌}
use Rattle.std.proofs.Common.{◌↔◌, IsTrue, not, inl, inr, Option, None, Some, length, take, drop, get_or, refl, sym, ap, ◌∙◌, subst, arith}
use Rattle.std.specs.Prelude.{nat_lt, slice_get}
use Rattle.std.specs.List.{AllByRecursion, list_any}
use Rattle.std.proofs.lemmas.Bool.Decides.{nat_tests}
use Rattle.std.proofs.lemmas.Bool.{ltb-true, lt-ltb}
use Rattle.expectations.specs.declared.arrival.Arrival.{Arrival}
use Rattle.expectations.specs.declared.expectation.Expectation.{Expectation}
use Rattle.expectations.specs.declared.expectation.Expected.{Expected}
use Rattle.expectations.specs.declared.expectation.Expected.TheVariants.{Message, Silence}
use Rattle.expectations.specs.declared.verdict.Verdict.{Verdict}
use Rattle.expectations.specs.declared.verdict.Verdict.TheVariants.{Met, Missed}
use Rattle.expectations.specs.declared.what.What.{What}
use Rattle.expectations.specs.Inside.{after, is_open_at, is_within, limits_of, may_be_silent, may_come, may_come_at, start}
use Rattle.expectations.specs.Laying.{AreMet, CanBeLaid, IsLaid, IsMissedAt, IsSent, IsSilent, IsWithin, More}
use Rattle.expectations.specs.Settling.{IsOpen, IsSettled, MayCome, SettledVerdictsStay}
use Rattle.expectations.proofs.Laid.{earlier_than_all, fewer, later_change_nothing, met_is_not_missed}
use Rattle.expectations.proofs.Places.{AtSome, Here, by_within, line_count, line_reached, line_reaches, start_count}
use Rattle.expectations.proofs.Places.{started, starts, within_by}

-- ---- what arrives later

-- one of both lists is one of the first, or one of the second
cut_before : (ds later skipped : List Arrival) (a : Arrival) (others : List Arrival) (P : Arrival → Type 0)
    → ds ++ later ≡ skipped ++ a ∷ others → AllByRecursion P later
    → ((o : List Arrival) × (ds ≡ skipped ++ a ∷ o) × (others ≡ o ++ later)) ⊎ P a
cut_before [] [] [] a others P e late = cc
cut_before [] [] (z ∷ zs) a others P e late = cc
cut_before [] (l ∷ later) [] a others P e late =
    let same : l ≡ a = cc in
    inr (subst P same late.0)
cut_before [] (l ∷ later) (z ∷ zs) a others P e late =
    let behind : later ≡ zs ++ a ∷ others = cc in
    elim (cut_before [] later zs a others P behind late.1) [
      | inl found ↦ let none : [] ≡ zs ++ a ∷ found.0 = found.1 in absurd (no_such zs a found.0 none)
      | inr is ↦ inr is
    ]
  where
    no_such : (zs : List Arrival) (b : Arrival) (os : List Arrival) → [] ≡ zs ++ b ∷ os → ⊥
    no_such [] b os h = cc
    no_such (y ∷ ys) b os h = cc
cut_before (d ∷ ds) later [] a others P e late =
    let same : d ≡ a = cc in
    let behind : ds ++ later ≡ others = cc in
    inl (ds, ap (λ x. x ∷ ds) same, sym behind)
cut_before (d ∷ ds) later (z ∷ zs) a others P e late =
    let same : d ≡ z = cc in
    let behind : ds ++ later ≡ zs ++ a ∷ others = cc in
    elim (cut_before ds later zs a others P behind late) [
      | inl found ↦ inl (found.0, ap (λ x. x ∷ ds) same ∙ ap (λ l. z ∷ l) found.1, found.2)
      | inr is ↦ inr is
    ]

first_of_both : (P : Arrival → Type 0) (xs ys : List Arrival) → AllByRecursion P (xs ++ ys) → AllByRecursion P xs
first_of_both P [] ys h = tt
first_of_both P (x ∷ xs) ys h = (h.0, first_of_both P xs ys h.1)

-- nothing that arrived up to a second arrived after it
none_so_far : (n end : ℕ) (ds : List Arrival) → end < n → AllByRecursion (λ a. n ≤ a.second) ds
    → AllByRecursion (λ a. a.second ≤ end) ds → ds ≡ []
none_so_far n end [] order h k = refl
none_so_far n end (a ∷ ds) order h k = absurd (omega (arith, order, h.0, k.0))

within_earlier : (within : Option ℕ) (since second end : ℕ) → end ≤ second → IsWithin within since second
    → IsWithin within since end
within_earlier None since second end order h = tt
within_earlier (Some n) since second end order h = omega (arith, order, h)

parts : (P : Arrival → Type 0) (xs : List Arrival) (a : Arrival) (ys all : List Arrival) → all ≡ xs ++ a ∷ ys
    → AllByRecursion P all → AllByRecursion P ys
parts P [] a ys [] e h = cc
parts P [] a ys (b ∷ all) e h =
    let behind : all ≡ ys = cc in
    subst (AllByRecursion P) behind h.1
parts P (x ∷ xs) a ys [] e h = cc
parts P (x ∷ xs) a ys (b ∷ all) e h =
    let behind : all ≡ xs ++ a ∷ ys = cc in
    parts P xs a ys all behind h.1

decide : (n m : ℕ) (t : Bool) → nat_lt n m ≡ t → (n < m) ⊎ (m ≤ n)
decide n m true h = inl (grind (arith, nat_tests))
decide n m false h = inr (grind (arith, nat_tests))

-- what can be laid with what arrives later is laid already, or some line is open
laid_or_open_here : (end new_end : ℕ) (later : List Arrival) → AllByRecursion (λ a. end ≤ a.second) later
    → (e : Expected) (all laid yet : More)
    → ((bs : List Arrival) (s : ℕ) → AllByRecursion (λ a. a.second ≤ end) bs → all (bs ++ later) s
    → laid bs s ⊎ yet bs s)
    → (ds : List Arrival) (s : ℕ) → AllByRecursion (λ a. a.second ≤ end) ds → IsLaid new_end e all (ds ++ later) s
    → IsLaid end e laid ds s ⊎ (MayCome end e ds s ⊎ IsLaid end e yet ds s)
laid_or_open_here end new_end later late (Message server w within) all laid yet go ds s early h =
    elim (cut_before ds later h.skipped h.arrival h.others (λ a. end ≤ a.second) h.cut late) [
      | inl found ↦
          let rest : all (found.0 ++ later) h.arrival.second =
          subst (λ l. all l h.arrival.second) found.2 h.rest in
          let behind = parts (λ a. a.second ≤ end) h.skipped h.arrival found.0 ds found.1 early in
          elim (go found.0 h.arrival.second behind rest) [
            | inl is ↦ inl (record {
              skipped = h.skipped;
              arrival = h.arrival;
              others = found.0;
              cut = found.1;
              expected = h.expected;
              in_time = h.in_time;
              rest = is;
            })
            | inr is ↦ inr (inr (record {
              skipped = h.skipped;
              arrival = h.arrival;
              others = found.0;
              cut = found.1;
              expected = h.expected;
              in_time = h.in_time;
              rest = is;
            }))
          ]
      | inr after_end ↦ inr (inl (within_earlier within s h.arrival.second end after_end h.in_time))
    ]
laid_or_open_here end new_end later late (Silence n) all laid yet go ds s early h =
    let silent = first_of_both (λ a. s + n ≤ a.second) ds later h.silent in
    elim (decide end (s + n) (nat_lt end (s + n)) refl) [
      | inl soon ↦ inr (inl (soon, none_so_far (s + n) end ds soon silent early))
      | inr passed ↦ elim (go ds (s + n) early h.rest) [
        | inl is ↦ inl (record { passed = passed; silent = silent; rest = is })
        | inr is ↦ inr (inr (record { passed = passed; silent = silent; rest = is }))
      ]
    ]

laid_or_open : (end new_end : ℕ) (later : List Arrival) → AllByRecursion (λ a. end ≤ a.second) later
    → (lines : List Expectation) (ds : List Arrival) (s : ℕ) → AllByRecursion (λ a. a.second ≤ end) ds
    → CanBeLaid new_end lines (ds ++ later) s → CanBeLaid end lines ds s ⊎ IsOpen end lines ds s
laid_or_open end new_end later late [] ds s early h = inl tt
laid_or_open end new_end later late (e ∷ lines) ds s early h =
    laid_or_open_here end new_end later late e.expected (CanBeLaid new_end lines) (CanBeLaid end lines)
    (IsOpen end lines) (laid_or_open end new_end later late lines) ds s early h

-- a line that is open among the first is open among all
open_in_all : (end k : ℕ) (lines : List Expectation) (ds : List Arrival) (s : ℕ) → IsOpen end (take k lines) ds s
    → IsOpen end lines ds s
open_in_all end zero lines ds s h = absurd h
open_in_all end (suc k) [] ds s h = absurd h
open_in_all end (suc k) (e ∷ lines) ds s (inl may) = inl may
open_in_all end (suc k) (e ∷ lines) ds s (inr laid) =
    inr (fewer end e.expected (IsOpen end (take k lines)) (IsOpen end lines) (open_in_all end k lines) ds s laid)

still_missed : (lines : List Expectation) (ds later : List Arrival) (end new_end place : ℕ)
    → IsSettled lines ds end → AllByRecursion (λ a. a.second ≤ end) ds → AllByRecursion (λ a. end ≤ a.second) later
    → IsMissedAt place lines ds end → AreMet (take (place + 1) lines) (ds ++ later) new_end → ⊥
still_missed lines ds later end new_end place (inl met) early late missed h =
    met_is_not_missed place lines ds end met missed
still_missed lines ds later end new_end place (inr closed) early late missed h =
    elim (laid_or_open end new_end later late (take (place + 1) lines) ds 0 early h) [
      | inl laid ↦ missed.missed laid
      | inr yet ↦ closed (open_in_all end (place + 1) lines ds 0 yet)
    ]

pub settled_stay : SettledVerdictsStay
settled_stay lines ds later end new_end Met settled order early late h =
    later_change_nothing lines ds later end new_end order late h
settled_stay lines ds later end new_end (Missed place) settled order early late h = record {
  line = h.line;
  before = later_change_nothing (take place lines) ds later end new_end order late h.before;
  missed = λ met. still_missed lines ds later end new_end place settled early late h met;
}

-- ---- places

either_at : (P Q : More) (xs : List (Option ℕ)) (ds : List Arrival) → AtSome (λ bs s. P bs s ⊎ Q bs s) xs ds
    → AtSome P xs ds ⊎ AtSome Q xs ds
either_at P Q [] ds h = absurd h
either_at P Q (None ∷ xs) [] h = absurd h
either_at P Q (Some s ∷ xs) [] (inl h) = inl h
either_at P Q (Some s ∷ xs) [] (inr h) = inr h
either_at P Q (None ∷ xs) (a ∷ ds) (inl h) = absurd h
either_at P Q (Some s ∷ xs) (a ∷ ds) (inl (inl h)) = inl (inl h)
either_at P Q (Some s ∷ xs) (a ∷ ds) (inl (inr h)) = inr (inl h)
either_at P Q (x ∷ xs) (a ∷ ds) (inr h) =
    elim (either_at P Q xs ds h) [ inl p ↦ inl (inr p) | inr q ↦ inr (inr q) ]

more_at : (P Q : More) → ((bs : List Arrival) (s : ℕ) → P bs s → Q bs s) → (xs : List (Option ℕ))
    (ds : List Arrival) → AtSome P xs ds → AtSome Q xs ds
more_at P Q go [] ds h = h
more_at P Q go (None ∷ xs) [] h = h
more_at P Q go (Some s ∷ xs) [] h = go [] s h
more_at P Q go (None ∷ xs) (a ∷ ds) (inl h) = inl h
more_at P Q go (Some s ∷ xs) (a ∷ ds) (inl h) = inl (go (a ∷ ds) s h)
more_at P Q go (x ∷ xs) (a ∷ ds) (inr h) = inr (more_at P Q go xs ds h)

-- ---- whether a line may come at one of them

open_sent : (end : ℕ) (server : ℕ) (w : What) (within : Option ℕ) (xs : List (Option ℕ)) (ds : List Arrival)
    → AtSome (MayCome end (Message server w within)) xs ds → list_any (is_open_at end within) xs ≡ true
open_sent end server w within [] ds h = absurd h
open_sent end server w within (None ∷ xs) [] h = absurd h
open_sent end server w within (Some s ∷ xs) [] h = rw (by_within within s end h) refl
open_sent end server w within (None ∷ xs) (a ∷ ds) (inl h) = absurd h
open_sent end server w within (Some s ∷ xs) (a ∷ ds) (inl h) = rw (by_within within s end h) refl
open_sent end server w within (x ∷ xs) (a ∷ ds) (inr h) =
    any_behind (is_open_at end within x) (list_any (is_open_at end within) xs) (open_sent end server w within xs ds h)
  where
    any_behind : (b c : Bool) → c ≡ true → (b || c) ≡ true
    any_behind true c k = refl
    any_behind false c k = k

sent_open : (end : ℕ) (server : ℕ) (w : What) (within : Option ℕ) (xs : List (Option ℕ)) (ds : List Arrival)
    → length xs ≡ suc (length ds) → list_any (is_open_at end within) xs ≡ true
    → AtSome (MayCome end (Message server w within)) xs ds
sent_open end server w within [] ds count h = cc
sent_open end server w within (None ∷ []) [] count h = cc
sent_open end server w within (None ∷ y ∷ xs) [] count h = absurd (omega (arith, count))
sent_open end server w within (Some s ∷ []) [] count h =
    within_by within s end (alone (is_within within s end) h)
  where
    alone : (b : Bool) → (b || false) ≡ true → b ≡ true
    alone true k = refl
    alone false k = cc
sent_open end server w within (Some s ∷ y ∷ xs) [] count h = absurd (omega (arith, count))
sent_open end server w within (None ∷ xs) (a ∷ ds) count h =
    inr (sent_open end server w within xs ds (omega (arith, count)) h)
sent_open end server w within (Some s ∷ xs) (a ∷ ds) count h =
    elim (which (is_within within s end) (list_any (is_open_at end within) xs) h) [
      | inl here ↦ inl (within_by within s end here)
      | inr there ↦ inr (sent_open end server w within xs ds (omega (arith, count)) there)
    ]
  where
    which : (b c : Bool) → (b || c) ≡ true → (b ≡ true) ⊎ (c ≡ true)
    which true c k = inl refl
    which false c k = inr k

silent_open : (end n : ℕ) (xs : List (Option ℕ)) (ds : List Arrival) → length xs ≡ suc (length ds)
    → AtSome (MayCome end (Silence n)) xs ds → may_come_at end n (slice_get xs (length ds)) ≡ true
silent_open end n [] ds count h = absurd h
silent_open end n (None ∷ xs) [] count h = absurd h
silent_open end n (Some s ∷ xs) [] count h = lt-ltb end (s + n) h.0
silent_open end n (None ∷ xs) (a ∷ ds) count (inl h) = absurd h
silent_open end n (Some s ∷ xs) (a ∷ ds) count (inl h) = let some : a ∷ ds ≡ [] = h.1 in cc
silent_open end n (x ∷ xs) (a ∷ ds) count (inr h) = silent_open end n xs ds (omega (arith, count)) h

open_silent : (end n : ℕ) (xs : List (Option ℕ)) (ds : List Arrival) → length xs ≡ suc (length ds)
    → may_come_at end n (slice_get xs (length ds)) ≡ true → AtSome (MayCome end (Silence n)) xs ds
open_silent end n [] ds count h = absurd (omega (arith, count))
open_silent end n (None ∷ xs) [] count h = cc
open_silent end n (Some s ∷ xs) [] count h = (ltb-true end (s + n) h, refl)
open_silent end n (x ∷ xs) (a ∷ ds) count h = inr (open_silent end n xs ds (omega (arith, count)) h)

may_come_there : (end : ℕ) (e : Expected) (xs : List (Option ℕ)) (ds : List Arrival) → length xs ≡ suc (length ds)
    → AtSome (MayCome end e) xs ds → may_come end e (length ds) xs ≡ true
may_come_there end (Message server w within) xs ds count h = open_sent end server w within xs ds h
may_come_there end (Silence n) xs ds count h = silent_open end n xs ds count h

there_may_come : (end : ℕ) (e : Expected) (xs : List (Option ℕ)) (ds : List Arrival) → length xs ≡ suc (length ds)
    → may_come end e (length ds) xs ≡ true → AtSome (MayCome end e) xs ds
there_may_come end (Message server w within) xs ds count h = sent_open end server w within xs ds count h
there_may_come end (Silence n) xs ds count h = open_silent end n xs ds count h

-- ---- all lines

-- of lines the first k are not open, and the others are where they are so from one of these places
pub record AreClosed (lines : List Expectation) (ds : List Arrival) (end k : ℕ) (places : List (Option ℕ)) : Type 0
  where
    pub count : length places ≡ suc (length ds)
    pub to : IsOpen end lines ds 0 → AtSome (IsOpen end (drop k lines)) places ds
    pub from : AtSome (IsOpen end (drop k lines)) places ds → IsOpen end lines ds 0

pub none_closed : (lines : List Expectation) (ds : List Arrival) (end : ℕ) → AreClosed lines ds end 0 (start ds)
none_closed lines ds end = record {
  count = ap (λ n. suc n) (start_count ds);
  to = λ h. starts (IsOpen end (drop 0 lines)) ds (subst (λ l. IsOpen end l ds 0) (sym (drop_none lines)) h);
  from = λ h. subst (λ l. IsOpen end l ds 0) (drop_none lines) (started (IsOpen end (drop 0 lines)) ds h);
}
  where
    drop_none : (ls : List Expectation) → drop 0 ls ≡ ls
    drop_none [] = refl
    drop_none (l ∷ ls) = refl

line_at : (lines : List Expectation) (k : ℕ) (e : Expectation) → slice_get lines k ≡ Some e
    → drop k lines ≡ e ∷ drop (k + 1) lines
line_at [] k e at = cc
line_at (l ∷ lines) zero e at = let same : l ≡ e = cc in ap (λ x. x ∷ lines) same
line_at (l ∷ lines) (suc k) e at =
    let more : suc (k + 1) ≡ suc k + 1 = omega arith in
    line_at lines k e at ∙ ap (λ n. e ∷ drop n (l ∷ lines)) more

pub open_at : (lines : List Expectation) (ds : List Arrival) (end k : ℕ) (places : List (Option ℕ)) (e : Expectation)
    → slice_get lines k ≡ Some e → AreClosed lines ds end k places
    → may_come end e.expected (length ds) places ≡ true → IsOpen end lines ds 0
open_at lines ds end k places e at so_far may =
    so_far.from (subst (λ l. AtSome (IsOpen end l) places ds) (sym (line_at lines k e at))
    (more_at (MayCome end e.expected) (IsOpen end (e ∷ drop (k + 1) lines)) (λ bs s h. inl h) places ds
    (there_may_come end e.expected places ds so_far.count may)))

not_now : (end : ℕ) (e : Expected) (more : More) (xs : List (Option ℕ)) (ds : List Arrival)
    → length xs ≡ suc (length ds) → may_come end e (length ds) xs ≡ false
    → AtSome (λ bs s. MayCome end e bs s ⊎ IsLaid end e more bs s) xs ds → AtSome (IsLaid end e more) xs ds
not_now end e more xs ds count never h =
    elim (either_at (MayCome end e) (IsLaid end e more) xs ds h) [
      | inl may ↦ let both : true ≡ false = sym (may_come_there end e xs ds count may) ∙ never in cc
      | inr laid ↦ laid
    ]

pub closed_at : (lines : List Expectation) (ds : List Arrival) (end k : ℕ) (places next : List (Option ℕ))
    (e : Expectation) → slice_get lines k ≡ Some e → AreClosed lines ds end k places
    → may_come end e.expected (length ds) places ≡ false → next ≡ after e.expected ds (limits_of end ds) places
    → AreClosed lines ds end (k + 1) next
closed_at lines ds end k places next e at so_far never is =
    subst (AreClosed lines ds end (k + 1)) (sym is) (record {
      count = line_count end e.expected places ds so_far.count;
      to = λ h.
          line_reaches end e.expected (IsOpen end (drop (k + 1) lines)) places ds so_far.count
          (not_now end e.expected (IsOpen end (drop (k + 1) lines)) places ds so_far.count never
          (subst (λ l. AtSome (IsOpen end l) places ds) (line_at lines k e at) (so_far.to h)));
      from = λ h.
          so_far.from (subst (λ l. AtSome (IsOpen end l) places ds) (sym (line_at lines k e at))
          (more_at (IsLaid end e.expected (IsOpen end (drop (k + 1) lines)))
          (IsOpen end (e ∷ drop (k + 1) lines)) (λ bs s l. inr l) places ds
          (line_reached end e.expected (IsOpen end (drop (k + 1) lines)) places ds so_far.count h)));
    })

no_line : (end : ℕ) (xs : List (Option ℕ)) (ds : List Arrival) → AtSome (IsOpen end []) xs ds → ⊥
no_line end [] ds h = h
no_line end (None ∷ xs) [] h = h
no_line end (Some s ∷ xs) [] h = h
no_line end (None ∷ xs) (a ∷ ds) (inl h) = h
no_line end (Some s ∷ xs) (a ∷ ds) (inl h) = h
no_line end (x ∷ xs) (a ∷ ds) (inr h) = no_line end xs ds h

drop_all : (lines : List Expectation) (k : ℕ) → length lines ≤ k → drop k lines ≡ []
drop_all [] zero h = refl
drop_all [] (suc k) h = refl
drop_all (e ∷ lines) zero h = absurd (omega (arith, h))
drop_all (e ∷ lines) (suc k) h = drop_all lines k (omega (arith, h))

pub all_closed : (lines : List Expectation) (ds : List Arrival) (end k : ℕ) (places : List (Option ℕ))
    → AreClosed lines ds end k places → length lines ≤ k → IsOpen end lines ds 0 → ⊥
all_closed lines ds end k places so_far all h =
    no_line end places ds
    (subst (λ l. AtSome (IsOpen end l) places ds) (drop_all lines k all) (so_far.to h))

-- ---- the line at a place

pub item_is : (lines : List Expectation) (k : ℕ) (e : Expectation) → k < length lines → e ≡ get_or lines k e
    → slice_get lines k ≡ Some e
item_is [] k e within is = absurd (omega (arith, within))
item_is (l ∷ lines) zero e within is = ap (λ x. Some x) (sym is)
item_is (l ∷ lines) (suc k) e within is = item_is lines k e (omega (arith, within)) is

-- ---- what is answered

pub settled_if : (lines : List Expectation) (ds : List Arrival) (end place : ℕ) (yet : Bool)
    → IsMissedAt place lines ds end → (IsTrue yet ↔ IsOpen end lines ds 0)
    → (IsTrue (not yet) ↔ IsSettled lines ds end)
settled_if lines ds end place true missed both = (
  λ t. let wrong : false ≡ true = t in cc,
  λ s. elim s [
    | inl met ↦ absurd (met_is_not_missed place lines ds end met missed)
    | inr closed ↦ absurd (closed (both.0 refl))
  ],
)
settled_if lines ds end place false missed both = (
  λ t. inr (λ o. let wrong : false ≡ true = both.1 o in cc),
  λ s. refl,
)
