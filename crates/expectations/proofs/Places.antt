-- The places of a row that are reached by lines, one line after another.
use Rattle.std.proofs.Common.{◌≡◌, ℕ, zero, suc, ◌+◌, ◌<◌, ◌≤◌, Bool, true, false, List, [], ◌∷◌, ◌++◌}
use Rattle.std.proofs.Common.{◌⊎◌, inl, inr, length, take, drop, get_or, refl, sym, ap, ◌∙◌, subst, append_assoc, arith}
use Rattle.std.specs.Prelude.{Option, None, Some, is_some, nat_le, if◌then◌else◌}
use Rattle.std.specs.List.{AllByRecursion, list_any}
use Rattle.std.proofs.lemmas.List.{append-nil}
use Rattle.std.proofs.Math.Seq.{take-suc}
use Rattle.std.proofs.lemmas.Bool.Decides.{nat_tests}
use Rattle.std.proofs.lemmas.Bool.{and_from, leb-true, le-leb}
use Rattle.lemmas.proofs.Tests.{and_first, and_second}
use Rattle.expectations.specs.declared.arrival.Arrival.{Arrival}
use Rattle.expectations.specs.declared.expectation.Expectation.{Expectation}
use Rattle.expectations.specs.declared.expectation.Expected.{Expected}
use Rattle.expectations.specs.declared.expectation.Expected.TheVariants.{Message, Silence}
use Rattle.expectations.specs.declared.what.What.{What}
use Rattle.expectations.specs.Expecting.{is_expected}
use Rattle.expectations.specs.Inside.{after, greatest, is_hit, is_within, later, limit_of, limits_of, place_after_wait}
use Rattle.expectations.specs.Inside.{places_reached, places_unreached, silent, start}
use Rattle.expectations.specs.Laying.{AreMet, CanBeLaid, IsLaid, IsMissedAt, IsSent, IsSilent, IsWithin, More}

-- what holds at a place, if it is reached: of the datagrams after it, from its second on
abbrev pub Here : More → Option ℕ → List Arrival → Type 0
Here more None ds = ⊥
Here more (Some s) ds = more ds s

-- it holds at some place
abbrev pub AtSome : More → List (Option ℕ) → List Arrival → Type 0
AtSome more [] ds = ⊥
AtSome more (x ∷ xs) [] = Here more x []
AtSome more (x ∷ xs) (a ∷ ds) = Here more x (a ∷ ds) ⊎ AtSome more xs ds

-- the first place may be tested by itself
put : (more : More) (x : Option ℕ) (xs : List (Option ℕ)) (ds : List Arrival)
    → Here more x ds ⊎ AtSome more (None ∷ xs) ds → AtSome more (x ∷ xs) ds
put more x xs [] (inl h) = h
put more x xs [] (inr h) = absurd h
put more x xs (a ∷ ds) (inl h) = inl h
put more x xs (a ∷ ds) (inr (inl h)) = absurd h
put more x xs (a ∷ ds) (inr (inr h)) = inr h

got : (more : More) (x : Option ℕ) (xs : List (Option ℕ)) (ds : List Arrival) → AtSome more (x ∷ xs) ds
    → Here more x ds ⊎ AtSome more (None ∷ xs) ds
got more x xs [] h = inl h
got more x xs (a ∷ ds) (inl h) = inl h
got more x xs (a ∷ ds) (inr h) = inr (inr h)

-- ---- numbers

not_at_most : (a b : ℕ) → nat_le a b ≡ false → b ≤ a
not_at_most a b h = grind (arith, nat_tests)

first_to_greatest : (a b : ℕ) (t : Bool) → nat_le a b ≡ t → a ≤ (if t then b else a)
first_to_greatest a b true h = leb-true a b h
first_to_greatest a b false h = omega arith

second_to_greatest : (a b : ℕ) (t : Bool) → nat_le a b ≡ t → b ≤ (if t then b else a)
second_to_greatest a b true h = omega arith
second_to_greatest a b false h = not_at_most a b h

below_first : (n a b : ℕ) (t : Bool) → nat_le a b ≡ t → n ≤ (if t then a else b) → n ≤ a
below_first n a b true h k = k
below_first n a b false h k = omega (arith, not_at_most a b h, k)

below_second : (n a b : ℕ) (t : Bool) → nat_le a b ≡ t → n ≤ (if t then a else b) → n ≤ b
below_second n a b true h k = omega (arith, leb-true a b h, k)
below_second n a b false h k = k

below_least : (n a b : ℕ) (t : Bool) → n ≤ a → n ≤ b → n ≤ (if t then a else b)
below_least n a b true h k = h
below_least n a b false h k = k

-- ---- something is sent

pub within_by : (within : Option ℕ) (since second : ℕ) → is_within within since second ≡ true
    → IsWithin within since second
within_by None since second h = tt
within_by (Some n) since second h = leb-true second (since + n) h

pub by_within : (within : Option ℕ) (since second : ℕ) → IsWithin within since second
    → is_within within since second ≡ true
by_within None since second h = refl
by_within (Some n) since second h = le-leb second (since + n) h

-- it is in time also from a later second on
in_time_later : (within : Option ℕ) (since latest second : ℕ) → since ≤ latest → IsWithin within since second
    → IsWithin within latest second
in_time_later None since latest second order h = tt
in_time_later (Some n) since latest second order h = omega (arith, order, h)

sent_later : (server : ℕ) (w : What) (within : Option ℕ) (more : More) (ds : List Arrival) (s t : ℕ) → s ≤ t
    → IsSent server w within more ds s → IsSent server w within more ds t
sent_later server w within more ds s t order h =
    record {
      skipped = h.skipped;
      arrival = h.arrival;
      others = h.others;
      cut = h.cut;
      expected = h.expected;
      in_time = in_time_later within s t h.arrival.second order h.in_time;
      rest = h.rest;
    }

-- nothing is sent where nothing arrives
no_cut : (skipped : List Arrival) (b : Arrival) (others : List Arrival) → [] ≡ skipped ++ b ∷ others → ⊥
no_cut [] b others e = cc
no_cut (z ∷ zs) b others e = cc

none_sent : (server : ℕ) (w : What) (within : Option ℕ) (more : More) (x : Option ℕ)
    → Here (IsSent server w within more) x [] → ⊥
none_sent server w within more None h = h
none_sent server w within more (Some s) h = no_cut h.skipped h.arrival h.others h.cut

-- it is the first that arrives, or one of the others
first_or : (server : ℕ) (w : What) (within : Option ℕ) (more : More) (a : Arrival) (ds : List Arrival) (s : ℕ)
    (skipped : List Arrival) (b : Arrival) (others : List Arrival) → a ∷ ds ≡ skipped ++ b ∷ others
    → is_expected server w b ≡ true → IsWithin within s b.second → more others b.second
    → ((is_hit server w within (Some s) a ≡ true) × more ds a.second) ⊎ IsSent server w within more ds s
first_or server w within more a ds s [] b others cut expected in_time rest =
    let same : b ≡ a = cc in
    let behind : others ≡ ds = cc in
    let now : is_expected server w a ≡ true = subst (λ x. is_expected server w x ≡ true) same expected in
    let time : IsWithin within s a.second = subst (λ x. IsWithin within s x.second) same in_time in
    let there : more others a.second = subst (λ x. more others x.second) same rest in
    inl (
      and_from (is_within within s a.second) (is_expected server w a) (by_within within s a.second time) now,
      subst (λ l. more l a.second) behind there,
    )
first_or server w within more a ds s (z ∷ zs) b others cut expected in_time rest =
    let behind : ds ≡ zs ++ b ∷ others = cc in
    inr (record {
      skipped = zs;
      arrival = b;
      others = others;
      cut = behind;
      expected = expected;
      in_time = in_time;
      rest = rest;
    })

hit_or : (server : ℕ) (w : What) (within : Option ℕ) (more : More) (a : Arrival) (ds : List Arrival) (x : Option ℕ)
    → Here (IsSent server w within more) x (a ∷ ds)
    → ((is_hit server w within x a ≡ true) × more ds a.second) ⊎ Here (IsSent server w within more) x ds
hit_or server w within more a ds None h = absurd h
hit_or server w within more a ds (Some s) h =
    first_or server w within more a ds s h.skipped h.arrival h.others h.cut h.expected h.in_time h.rest

hit : (server : ℕ) (w : What) (within : Option ℕ) (more : More) (a : Arrival) (ds : List Arrival) (x : Option ℕ)
    → is_hit server w within x a ≡ true → more ds a.second → Here (IsSent server w within more) x (a ∷ ds)
hit server w within more a ds None h rest = cc
hit server w within more a ds (Some s) h rest =
    record {
      skipped = [];
      arrival = a;
      others = ds;
      cut = refl;
      expected = and_second (is_within within s a.second) (is_expected server w a) h;
      in_time = within_by within s a.second (and_first (is_within within s a.second) (is_expected server w a) h);
      rest = rest;
    }

skip : (server : ℕ) (w : What) (within : Option ℕ) (more : More) (a : Arrival) (ds : List Arrival) (x : Option ℕ)
    → Here (IsSent server w within more) x ds → Here (IsSent server w within more) x (a ∷ ds)
skip server w within more a ds None h = h
skip server w within more a ds (Some s) h =
    record {
      skipped = a ∷ h.skipped;
      arrival = h.arrival;
      others = h.others;
      cut = ap (λ l. a ∷ l) h.cut;
      expected = h.expected;
      in_time = h.in_time;
      rest = h.rest;
    }

-- the later one of two places counts
one_of : (server : ℕ) (w : What) (within : Option ℕ) (more : More) (ds : List Arrival) (a b : ℕ) (t : Bool)
    → IsSent server w within more ds (if t then b else a)
    → IsSent server w within more ds a ⊎ IsSent server w within more ds b
one_of server w within more ds a b true h = inr h
one_of server w within more ds a b false h = inl h

from_later : (server : ℕ) (w : What) (within : Option ℕ) (more : More) (ds : List Arrival) (x y : Option ℕ)
    → Here (IsSent server w within more) (later x y) ds
    → Here (IsSent server w within more) x ds ⊎ Here (IsSent server w within more) y ds
from_later server w within more ds None y h = inr h
from_later server w within more ds (Some a) None h = inl h
from_later server w within more ds (Some a) (Some b) h = one_of server w within more ds a b (nat_le a b) h

to_later : (server : ℕ) (w : What) (within : Option ℕ) (more : More) (ds : List Arrival) (x y : Option ℕ)
    → Here (IsSent server w within more) x ds ⊎ Here (IsSent server w within more) y ds
    → Here (IsSent server w within more) (later x y) ds
to_later server w within more ds None y (inl h) = absurd h
to_later server w within more ds None y (inr h) = h
to_later server w within more ds (Some a) None (inl h) = h
to_later server w within more ds (Some a) None (inr h) = absurd h
to_later server w within more ds (Some a) (Some b) (inl h) =
    sent_later server w within more ds a (greatest a b) (first_to_greatest a b (nat_le a b) refl) h
to_later server w within more ds (Some a) (Some b) (inr h) =
    sent_later server w within more ds b (greatest a b) (second_to_greatest a b (nat_le a b) refl) h

-- a place behind a datagram, if this is a hit
hit_place : (more : More) (n : ℕ) (ds : List Arrival) (t : Bool) → t ≡ true → more ds n
    → Here more (if t then Some n else None) ds
hit_place more n ds true e h = h
hit_place more n ds false e h = cc

place_hit : (more : More) (n : ℕ) (ds : List Arrival) (t : Bool) → Here more (if t then Some n else None) ds
    → (t ≡ true) × more ds n
place_hit more n ds true h = (refl, h)
place_hit more n ds false h = absurd h

sent_reaches : (server : ℕ) (w : What) (within : Option ℕ) (more : More) (latest : Option ℕ) (xs : List (Option ℕ))
    (ds : List Arrival) → length xs ≡ suc (length ds)
    → Here (IsSent server w within more) latest ds ⊎ AtSome (IsSent server w within more) xs ds
    → AtSome more (None ∷ places_reached server w within latest xs ds) ds
sent_reaches server w within more latest [] ds count h = absurd (omega (arith, count))
sent_reaches server w within more latest (x ∷ xs) [] count (inl h) = absurd (none_sent server w within more latest h)
sent_reaches server w within more latest (x ∷ xs) [] count (inr h) = absurd (none_sent server w within more x h)
sent_reaches server w within more latest (x ∷ xs) (a ∷ ds) count h =
    let now : Option ℕ = later latest x in
    let fewer : length xs ≡ suc (length ds) = omega (arith, count) in
    let others : List (Option ℕ) = places_reached server w within (later latest x) xs ds in
    let by_now : Here (IsSent server w within more) (later latest x) (a ∷ ds)
    ⊎ AtSome (IsSent server w within more) xs ds =
    elim h [
      | inl early ↦ inl (to_later server w within more (a ∷ ds) latest x (inl early))
      | inr some ↦ elim some [
        | inl here ↦ inl (to_later server w within more (a ∷ ds) latest x (inr here))
        | inr there ↦ inr there
      ]
    ] in
    let place : Option ℕ = if is_hit server w within (later latest x) a then Some a.second else None in
    inr (put more (if is_hit server w within (later latest x) a then Some a.second else None)
    (places_reached server w within (later latest x) xs ds) ds (elim by_now [
      | inl here ↦ elim (hit_or server w within more a ds (later latest x) here) [
        | inl is ↦ inl (hit_place more a.second ds (is_hit server w within (later latest x) a) is.0 is.1)
        | inr there ↦ inr (sent_reaches server w within more (later latest x) xs ds fewer (inl there))
      ]
      | inr there ↦ inr (sent_reaches server w within more (later latest x) xs ds fewer (inr there))
    ]))

reached_sent : (server : ℕ) (w : What) (within : Option ℕ) (more : More) (latest : Option ℕ) (xs : List (Option ℕ))
    (ds : List Arrival) → length xs ≡ suc (length ds)
    → AtSome more (None ∷ places_reached server w within latest xs ds) ds
    → Here (IsSent server w within more) latest ds ⊎ AtSome (IsSent server w within more) xs ds
reached_sent server w within more latest [] ds count h = absurd (omega (arith, count))
reached_sent server w within more latest (x ∷ xs) [] count h = absurd h
reached_sent server w within more latest (x ∷ xs) (a ∷ ds) count (inl h) = absurd h
reached_sent server w within more latest (x ∷ xs) (a ∷ ds) count (inr h) =
    let fewer : length xs ≡ suc (length ds) = omega (arith, count) in
    let by_now : Here (IsSent server w within more) (later latest x) (a ∷ ds)
    ⊎ AtSome (IsSent server w within more) xs ds =
    elim (got more (if is_hit server w within (later latest x) a then Some a.second else None)
    (places_reached server w within (later latest x) xs ds) ds h) [
      | inl here ↦
          let is : (is_hit server w within (later latest x) a ≡ true) × more ds a.second =
          place_hit more a.second ds (is_hit server w within (later latest x) a) here in
          inl (hit server w within more a ds (later latest x) is.0 is.1)
      | inr there ↦ elim (reached_sent server w within more (later latest x) xs ds fewer there) [
        | inl early ↦ inl (skip server w within more a ds (later latest x) early)
        | inr some ↦ inr some
      ]
    ] in
    elim by_now [
      | inl here ↦ elim (from_later server w within more (a ∷ ds) latest x here) [
        | inl early ↦ inl early
        | inr this ↦ inr (inl this)
      ]
      | inr there ↦ inr (inr there)
    ]

-- ---- it is silent

none_before : (n end : ℕ) (ds : List Arrival) → n ≤ limit_of end ds → AllByRecursion (λ a. n ≤ a.second) ds
none_before n end [] h = tt
none_before n end (a ∷ ds) h = (
  below_first n a.second (limit_of end ds) (nat_le a.second (limit_of end ds)) refl h,
  none_before n end ds (below_second n a.second (limit_of end ds) (nat_le a.second (limit_of end ds)) refl h),
)

end_behind : (n end : ℕ) (ds : List Arrival) → n ≤ limit_of end ds → n ≤ end
end_behind n end [] h = h
end_behind n end (a ∷ ds) h =
    end_behind n end ds (below_second n a.second (limit_of end ds) (nat_le a.second (limit_of end ds)) refl h)

to_limit : (n end : ℕ) (ds : List Arrival) → n ≤ end → AllByRecursion (λ a. n ≤ a.second) ds → n ≤ limit_of end ds
to_limit n end [] h k = h
to_limit n end (a ∷ ds) h k =
    below_least n a.second (limit_of end ds) (nat_le a.second (limit_of end ds)) k.0 (to_limit n end ds h k.1)

waits : (end n : ℕ) (more : More) (x : Option ℕ) (ds : List Arrival) → Here (IsSilent end n more) x ds
    → Here more (place_after_wait n x (limit_of end ds)) ds
waits end n more None ds h = absurd h
waits end n more (Some s) ds h =
    hit_place more (s + n) ds (nat_le (s + n) (limit_of end ds))
    (le-leb (s + n) (limit_of end ds) (to_limit (s + n) end ds h.passed h.silent)) h.rest

has_waited : (end n : ℕ) (more : More) (x : Option ℕ) (ds : List Arrival)
    → Here more (place_after_wait n x (limit_of end ds)) ds → Here (IsSilent end n more) x ds
has_waited end n more None ds h = absurd h
has_waited end n more (Some s) ds h =
    let is : (nat_le (s + n) (limit_of end ds) ≡ true) × more ds (s + n) =
    place_hit more (s + n) ds (nat_le (s + n) (limit_of end ds)) h in
    let within : s + n ≤ limit_of end ds = leb-true (s + n) (limit_of end ds) is.0 in
    record {
      passed = end_behind (s + n) end ds within;
      silent = none_before (s + n) end ds within;
      rest = is.1;
    }

silence_reaches : (end n : ℕ) (more : More) (xs : List (Option ℕ)) (ds : List Arrival)
    → AtSome (IsSilent end n more) xs ds → AtSome more (silent n xs (limits_of end ds)) ds
silence_reaches end n more [] ds h = absurd h
silence_reaches end n more (x ∷ xs) [] h = waits end n more x [] h
silence_reaches end n more (x ∷ xs) (a ∷ ds) (inl h) = inl (waits end n more x (a ∷ ds) h)
silence_reaches end n more (x ∷ xs) (a ∷ ds) (inr h) = inr (silence_reaches end n more xs ds h)

reached_silent : (end n : ℕ) (more : More) (xs : List (Option ℕ)) (ds : List Arrival)
    → AtSome more (silent n xs (limits_of end ds)) ds → AtSome (IsSilent end n more) xs ds
reached_silent end n more [] [] h = absurd h
reached_silent end n more [] (a ∷ ds) h = absurd h
reached_silent end n more (x ∷ xs) [] h = has_waited end n more x [] h
reached_silent end n more (x ∷ xs) (a ∷ ds) (inl h) = inl (has_waited end n more x (a ∷ ds) h)
reached_silent end n more (x ∷ xs) (a ∷ ds) (inr h) = inr (reached_silent end n more xs ds h)

-- ---- a line

pub line_reaches : (end : ℕ) (e : Expected) (more : More) (xs : List (Option ℕ)) (ds : List Arrival)
    → length xs ≡ suc (length ds) → AtSome (IsLaid end e more) xs ds
    → AtSome more (after e ds (limits_of end ds) xs) ds
line_reaches end (Message server w within) more xs ds count h =
    sent_reaches server w within more None xs ds count (inr h)
line_reaches end (Silence n) more xs ds count h = silence_reaches end n more xs ds h

not_early : {X Y : Type 0} → X ⊎ Y → (X → ⊥) → Y
not_early (inl x) never = absurd (never x)
not_early (inr y) never = y

pub line_reached : (end : ℕ) (e : Expected) (more : More) (xs : List (Option ℕ)) (ds : List Arrival)
    → length xs ≡ suc (length ds) → AtSome more (after e ds (limits_of end ds) xs) ds
    → AtSome (IsLaid end e more) xs ds
line_reached end (Message server w within) more xs ds count h =
    not_early (reached_sent server w within more None xs ds count h) (λ h. h)
line_reached end (Silence n) more xs ds count h = reached_silent end n more xs ds h

-- there is a place before each datagram, and one after the last
reached_count : (server : ℕ) (w : What) (within : Option ℕ) (latest : Option ℕ) (xs : List (Option ℕ))
    (ds : List Arrival) → length xs ≡ suc (length ds) → length (places_reached server w within latest xs ds) ≡ length ds
reached_count server w within latest [] ds count = absurd (omega (arith, count))
reached_count server w within latest (x ∷ xs) [] count = refl
reached_count server w within latest (x ∷ xs) (a ∷ ds) count =
    ap (λ k. suc k) (reached_count server w within (later latest x) xs ds (omega (arith, count)))

silent_count : (end n : ℕ) (xs : List (Option ℕ)) (ds : List Arrival) → length xs ≡ suc (length ds)
    → length (silent n xs (limits_of end ds)) ≡ suc (length ds)
silent_count end n [] ds count = absurd (omega (arith, count))
silent_count end n (x ∷ []) [] count = refl
silent_count end n (x ∷ y ∷ xs) [] count = absurd (omega (arith, count))
silent_count end n (x ∷ xs) (a ∷ ds) count = ap (λ k. suc k) (silent_count end n xs ds (omega (arith, count)))

pub line_count : (end : ℕ) (e : Expected) (xs : List (Option ℕ)) (ds : List Arrival) → length xs ≡ suc (length ds)
    → length (after e ds (limits_of end ds) xs) ≡ suc (length ds)
line_count end (Message server w within) xs ds count =
    ap (λ k. suc k) (reached_count server w within None xs ds count)
line_count end (Silence n) xs ds count = silent_count end n xs ds count

-- ---- the first place, and whether there is one

pub start_count : (ds : List Arrival) → length (places_unreached ds) ≡ length ds
start_count [] = refl
start_count (a ∷ ds) = ap (λ k. suc k) (start_count ds)

none_reached : (more : More) (ds : List Arrival) (bs : List Arrival) → AtSome more (places_unreached ds) bs → ⊥
none_reached more [] bs h = h
none_reached more (a ∷ ds) [] h = h
none_reached more (a ∷ ds) (b ∷ bs) (inl h) = h
none_reached more (a ∷ ds) (b ∷ bs) (inr h) = none_reached more ds bs h

pub starts : (more : More) (ds : List Arrival) → more ds 0 → AtSome more (start ds) ds
starts more [] h = h
starts more (a ∷ ds) h = inl h

pub started : (more : More) (ds : List Arrival) → AtSome more (start ds) ds → more ds 0
started more [] h = h
started more (a ∷ ds) (inl h) = h
started more (a ∷ ds) (inr h) = absurd (none_reached more (a ∷ ds) ds h)

is_reached : (more : More) (xs : List (Option ℕ)) (ds : List Arrival) → AtSome more xs ds
    → list_any is_some xs ≡ true
is_reached more [] ds h = absurd h
is_reached more (None ∷ xs) [] h = absurd h
is_reached more (Some s ∷ xs) [] h = refl
is_reached more (None ∷ xs) (a ∷ ds) (inl h) = absurd h
is_reached more (None ∷ xs) (a ∷ ds) (inr h) = is_reached more xs ds h
is_reached more (Some s ∷ xs) (a ∷ ds) h = refl

-- no line is left
reached_at : (end : ℕ) (xs : List (Option ℕ)) (ds : List Arrival) → length xs ≡ suc (length ds)
    → list_any is_some xs ≡ true → AtSome (CanBeLaid end []) xs ds
reached_at end [] ds count h = cc
reached_at end (None ∷ []) [] count h = cc
reached_at end (None ∷ y ∷ xs) [] count h = absurd (omega (arith, count))
reached_at end (Some s ∷ xs) [] count h = tt
reached_at end (None ∷ xs) (a ∷ ds) count h = inr (reached_at end xs ds (omega (arith, count)) h)
reached_at end (Some s ∷ xs) (a ∷ ds) count h = inl tt

unreached_here : (ds : List Arrival) (k : ℕ) → k < length ds
    → places_unreached (drop k ds) ≡ None ∷ places_unreached (drop (suc k) ds)
unreached_here [] k h = absurd (omega (arith, h))
unreached_here (a ∷ ds) zero h = refl
unreached_here (a ∷ ds) (suc k) h = unreached_here ds k (omega (arith, h))

-- one more place
pub unreached_more : (ds : List Arrival) (k : ℕ) (places all : List (Option ℕ)) → k < length ds
    → places ++ places_unreached (drop k ds) ≡ all → (places ++ None ∷ []) ++ places_unreached (drop (k + 1) ds) ≡ all
unreached_more ds k places all within so_far =
    let more : suc k ≡ k + 1 = omega arith in
    append_assoc places (None ∷ []) (places_unreached (drop (k + 1) ds))
    ∙ ap (λ n. places ++ None ∷ places_unreached (drop n ds)) (sym more)
    ∙ ap (λ l. places ++ l) (sym (unreached_here ds k within)) ∙ so_far

-- no place is left
pub reached_none : (server : ℕ) (w : What) (within : Option ℕ) (latest : Option ℕ) (xs : List (Option ℕ))
    (ds : List Arrival) → length xs < 1 → places_reached server w within latest xs ds ≡ []
reached_none server w within latest xs [] h = refl
reached_none server w within latest [] (a ∷ ds) h = refl
reached_none server w within latest (x ∷ xs) (a ∷ ds) h = absurd (omega (arith, h))

pub silent_none : (n : ℕ) (xs : List (Option ℕ)) (limits : List ℕ) → length xs < 1 → silent n xs limits ≡ []
silent_none n xs [] h = refl
silent_none n [] (l ∷ limits) h = refl
silent_none n (x ∷ xs) (l ∷ limits) h = absurd (omega (arith, h))

-- nothing is still to come
pub found : {X : Type 0} (xs ys all : List X) → ys ≡ [] → xs ++ ys ≡ all → xs ≡ all
found xs ys all none so_far = sym (append-nil xs) ∙ ap (λ l. xs ++ l) (sym none) ∙ so_far

-- ---- all lines

-- lines that are looked at, of which the datagrams can be laid beside the first k, and beside these and others exactly
-- where the others can be laid from some place on
pub record AreLaid (lines : List Expectation) (ds : List Arrival) (end k : ℕ) (places : List (Option ℕ)) : Type 0 where
  pub count : length places ≡ suc (length ds)
  pub first : AreMet (take k lines) ds end
  pub to : (rest : List Expectation) → AreMet (take k lines ++ rest) ds end → AtSome (CanBeLaid end rest) places ds
  pub from : (rest : List Expectation) → AtSome (CanBeLaid end rest) places ds → AreMet (take k lines ++ rest) ds end

-- none
pub none_laid : (lines : List Expectation) (ds : List Arrival) (end : ℕ) → AreLaid lines ds end 0 (start ds)
none_laid lines ds end =
    record {
      count = ap (λ n. suc n) (start_count ds);
      first = tt;
      to = λ rest h. starts (CanBeLaid end rest) ds h;
      from = λ rest h. started (CanBeLaid end rest) ds h;
    }

-- one more
behind_one : (lines : List Expectation) (k : ℕ) (e : Expectation) (rest : List Expectation)
    → take (k + 1) lines ≡ take k lines ++ e ∷ [] → take (k + 1) lines ++ rest ≡ take k lines ++ e ∷ rest
behind_one lines k e rest more = ap (λ l. l ++ rest) more ∙ append_assoc (take k lines) (e ∷ []) rest

to_next : (lines : List Expectation) (ds : List Arrival) (end k : ℕ) (places : List (Option ℕ)) (e : Expectation)
    → AreLaid lines ds end k places → take (k + 1) lines ≡ take k lines ++ e ∷ [] → (rest : List Expectation)
    → AreMet (take (k + 1) lines ++ rest) ds end
    → AtSome (CanBeLaid end rest) (after e.expected ds (limits_of end ds) places) ds
to_next lines ds end k places e so_far more rest h =
    line_reaches end e.expected (CanBeLaid end rest) places ds so_far.count
    (so_far.to (e ∷ rest) (subst (λ l. AreMet l ds end) (behind_one lines k e rest more) h))

from_next : (lines : List Expectation) (ds : List Arrival) (end k : ℕ) (places : List (Option ℕ)) (e : Expectation)
    → AreLaid lines ds end k places → take (k + 1) lines ≡ take k lines ++ e ∷ [] → (rest : List Expectation)
    → AtSome (CanBeLaid end rest) (after e.expected ds (limits_of end ds) places) ds
    → AreMet (take (k + 1) lines ++ rest) ds end
from_next lines ds end k places e so_far more rest h =
    subst (λ l. AreMet l ds end) (sym (behind_one lines k e rest more))
    (so_far.from (e ∷ rest) (line_reached end e.expected (CanBeLaid end rest) places ds so_far.count h))

pub one_laid : (lines : List Expectation) (ds : List Arrival) (end k : ℕ) (places : List (Option ℕ)) (e : Expectation)
    → AreLaid lines ds end k places → take (k + 1) lines ≡ take k lines ++ e ∷ []
    → list_any is_some (after e.expected ds (limits_of end ds) places) ≡ true
    → AreLaid lines ds end (k + 1) (after e.expected ds (limits_of end ds) places)
one_laid lines ds end k places e so_far more some =
    let count : length (after e.expected ds (limits_of end ds) places) ≡ suc (length ds) =
    line_count end e.expected places ds so_far.count in
    record {
      count = count;
      first =
          subst (λ l. AreMet l ds end) (append-nil (take (k + 1) lines))
          (from_next lines ds end k places e so_far more []
          (reached_at end (after e.expected ds (limits_of end ds) places) ds count some));
      to = to_next lines ds end k places e so_far more;
      from = from_next lines ds end k places e so_far more;
    }

-- the line that cannot be laid
pub missed : (lines : List Expectation) (ds : List Arrival) (end k : ℕ) (places : List (Option ℕ)) (e : Expectation)
    → k < length lines → AreLaid lines ds end k places → take (k + 1) lines ≡ take k lines ++ e ∷ []
    → list_any is_some (after e.expected ds (limits_of end ds) places) ≡ false → IsMissedAt k lines ds end
missed lines ds end k places e within so_far more none =
    record {
      line = within;
      before = so_far.first;
      missed = λ h.
          let all : AreMet (take (k + 1) lines ++ []) ds end =
          subst (λ l. AreMet l ds end) (sym (append-nil (take (k + 1) lines))) h in
          let some : list_any is_some (after e.expected ds (limits_of end ds) places) ≡ true =
          is_reached (CanBeLaid end []) (after e.expected ds (limits_of end ds) places) ds
          (to_next lines ds end k places e so_far more [] all) in
          let both : true ≡ false = sym some ∙ none in
          cc;
    }

take_all : (lines : List Expectation) (k : ℕ) → length lines ≤ k → take k lines ≡ lines
take_all [] zero h = refl
take_all [] (suc k) h = refl
take_all (e ∷ lines) zero h = absurd (omega (arith, h))
take_all (e ∷ lines) (suc k) h = ap (λ l. e ∷ l) (take_all lines k (omega (arith, h)))

-- all of them
pub all_laid : (lines : List Expectation) (ds : List Arrival) (end k : ℕ) (places : List (Option ℕ))
    → AreLaid lines ds end k places → length lines ≤ k → AreMet lines ds end
all_laid lines ds end k places so_far all =
    subst (λ l. AreMet l ds end) (take_all lines k all) so_far.first

-- ---- the line at a place

-- the places after it, of the limits and the places that a slice gives
pub next_is : (e : Expected) (ds : List Arrival) (end : ℕ) (limits : List ℕ) (now places next : List (Option ℕ))
    → limits ≡ limits_of end ds → now ≡ places → next ≡ after e ds limits now
    → next ≡ after e ds (limits_of end ds) places
next_is e ds end limits now places next is_limits is_places is =
    is ∙ ap (λ l. after e ds l now) is_limits ∙ ap (λ p. after e ds (limits_of end ds) p) is_places

one_more : (lines : List Expectation) (k : ℕ) (e : Expectation) → k < length lines → e ≡ get_or lines k e
    → take (k + 1) lines ≡ take k lines ++ e ∷ []
one_more lines k e within is =
    let more : k + 1 ≡ suc k = omega arith in
    ap (λ n. take n lines) more ∙ take-suc lines k e within ∙ ap (λ x. take k lines ++ x ∷ []) (sym is)

pub missed_at : (lines : List Expectation) (ds : List Arrival) (end k : ℕ) (places next : List (Option ℕ))
    (e : Expectation) → k < length lines → e ≡ get_or lines k e → AreLaid lines ds end k places
    → next ≡ after e.expected ds (limits_of end ds) places → list_any is_some next ≡ false → IsMissedAt k lines ds end
missed_at lines ds end k places next e within stands so_far is none =
    missed lines ds end k places e within so_far (one_more lines k e within stands)
    (ap (λ p. list_any is_some p) (sym is) ∙ none)

pub laid_at : (lines : List Expectation) (ds : List Arrival) (end k : ℕ) (places next : List (Option ℕ))
    (e : Expectation) → k < length lines → e ≡ get_or lines k e → AreLaid lines ds end k places
    → next ≡ after e.expected ds (limits_of end ds) places → list_any is_some next ≡ true
    → AreLaid lines ds end (k + 1) next
laid_at lines ds end k places next e within stands so_far is some =
    subst (λ p. AreLaid lines ds end (k + 1) p) (sym is)
    (one_laid lines ds end k places e so_far (one_more lines k e within stands)
    (ap (λ p. list_any is_some p) (sym is) ∙ some))
