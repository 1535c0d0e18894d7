-- Datagrams that are laid beside lines, when there are fewer lines or more datagrams.
use Rattle.std.proofs.Common.{◌≡◌, ℕ, zero, suc, ◌+◌, ◌<◌, ◌≤◌, List, [], ◌∷◌, ◌++◌, ◌⊎◌, inl, inr, take, refl}
use Rattle.std.proofs.Common.{ap, ◌∙◌, append_assoc, arith}
use Rattle.std.specs.List.{AllByRecursion}
use Rattle.expectations.specs.declared.arrival.Arrival.{Arrival}
use Rattle.expectations.specs.declared.expectation.Expectation.{Expectation}
use Rattle.expectations.specs.declared.expectation.Expected.{Expected}
use Rattle.expectations.specs.declared.expectation.Expected.TheVariants.{Message, Silence}
use Rattle.expectations.specs.declared.verdict.Verdict.TheVariants.{Met, Missed}
use Rattle.expectations.specs.Laying.{AreMet, CanBeLaid, IsLaid, IsMissedAt, More}
use Rattle.expectations.specs.Laws.{EarlierLinesAreMet, LaterArrivalsChangeNothing, OneVerdict}

-- ---- fewer lines

-- a line is laid ds well where less has to be laid after it
pub fewer : (end : ℕ) (e : Expected) (more less : More) → ((ds : List Arrival) (s : ℕ) → more ds s → less ds s)
    → (ds : List Arrival) (s : ℕ) → IsLaid end e more ds s → IsLaid end e less ds s
fewer end (Message server what within) more less go ds s h =
    record {
      skipped = h.skipped;
      arrival = h.arrival;
      others = h.others;
      cut = h.cut;
      expected = h.expected;
      in_time = h.in_time;
      rest = go h.others h.arrival.second h.rest;
    }
fewer end (Silence seconds) more less go ds s h =
    record { passed = h.passed; silent = h.silent; rest = go ds (s + seconds) h.rest }

-- the first lines
earlier : (end : ℕ) (lines more : List Expectation) (ds : List Arrival) (s : ℕ) → CanBeLaid end (lines ++ more) ds s
    → CanBeLaid end lines ds s
earlier end [] more ds s h = tt
earlier end (e ∷ lines) more ds s h =
    fewer end e.expected (CanBeLaid end (lines ++ more)) (CanBeLaid end lines) (earlier end lines more) ds s h

pub earlier_are_met : EarlierLinesAreMet
earlier_are_met lines more ds end h = earlier end lines more ds 0 h

-- the first k of the first n
earlier_of : (end k n : ℕ) (lines : List Expectation) → k ≤ n → (ds : List Arrival) (s : ℕ)
    → CanBeLaid end (take n lines) ds s → CanBeLaid end (take k lines) ds s
earlier_of end zero n lines order ds s h = tt
earlier_of end (suc k) zero lines order ds s h = absurd (omega arith)
earlier_of end (suc k) (suc n) [] order ds s h = tt
earlier_of end (suc k) (suc n) (e ∷ lines) order ds s h =
    fewer end e.expected (CanBeLaid end (take n lines)) (CanBeLaid end (take k lines))
    (earlier_of end k n lines (omega arith)) ds s h

-- the first k of all
pub earlier_than_all : (end k : ℕ) (lines : List Expectation) → (ds : List Arrival) (s : ℕ) → CanBeLaid end lines ds s
    → CanBeLaid end (take k lines) ds s
earlier_than_all end zero lines ds s h = tt
earlier_than_all end (suc k) [] ds s h = tt
earlier_than_all end (suc k) (e ∷ lines) ds s h =
    fewer end e.expected (CanBeLaid end lines) (CanBeLaid end (take k lines)) (earlier_than_all end k lines) ds s h

-- ---- more datagrams

all_of_both : (P : Arrival → Type 0) (xs ys : List Arrival) → AllByRecursion P xs → AllByRecursion P ys
    → AllByRecursion P (xs ++ ys)
all_of_both P [] ys h k = k
all_of_both P (x ∷ xs) ys h k = (h.0, all_of_both P xs ys h.1 k)

-- all are ds late ds an earlier second
weaker : (n end : ℕ) (xs : List Arrival) → n ≤ end → AllByRecursion (λ a. end ≤ a.second) xs
    → AllByRecursion (λ a. n ≤ a.second) xs
weaker n end [] order h = tt
weaker n end (x ∷ xs) order h = (omega (arith, order, h.0), weaker n end xs order h.1)

later_here : (end new_end : ℕ) (later : List Arrival) → end ≤ new_end → AllByRecursion (λ a. end ≤ a.second) later
    → (e : Expected) (more all : More) → ((ds : List Arrival) (s : ℕ) → more ds s → all (ds ++ later) s)
    → (ds : List Arrival) (s : ℕ) → IsLaid end e more ds s → IsLaid new_end e all (ds ++ later) s
later_here end new_end later order late (Message server what within) more all go ds s h =
    record {
      skipped = h.skipped;
      arrival = h.arrival;
      others = h.others ++ later;
      cut = ap (λ l. l ++ later) h.cut ∙ append_assoc h.skipped (h.arrival ∷ h.others) later;
      expected = h.expected;
      in_time = h.in_time;
      rest = go h.others h.arrival.second h.rest;
    }
later_here end new_end later order late (Silence seconds) more all go ds s h =
    record {
      passed = omega (arith, order, h.passed);
      silent =
          all_of_both (λ a. s + seconds ≤ a.second) ds later h.silent (weaker (s + seconds) end later h.passed late);
      rest = go ds (s + seconds) h.rest;
    }

later_laid : (end new_end : ℕ) (later : List Arrival) → end ≤ new_end → AllByRecursion (λ a. end ≤ a.second) later
    → (lines : List Expectation) (ds : List Arrival) (s : ℕ) → CanBeLaid end lines ds s
    → CanBeLaid new_end lines (ds ++ later) s
later_laid end new_end later order late [] ds s h = tt
later_laid end new_end later order late (e ∷ lines) ds s h =
    later_here end new_end later order late e.expected (CanBeLaid end lines) (CanBeLaid new_end lines)
    (later_laid end new_end later order late lines) ds s h

pub later_change_nothing : LaterArrivalsChangeNothing
later_change_nothing lines ds later end new_end order late h = later_laid end new_end later order late lines ds 0 h

-- ---- one verdict

split : (p q : ℕ) → (p < q) ⊎ ((q < p) ⊎ (p ≡ q))
split zero zero = inr (inr refl)
split zero (suc q) = inl (omega arith)
split (suc p) zero = inr (inl (omega arith))
split (suc p) (suc q) =
    elim (split p q) [
      | inl less ↦ inl (omega (arith, less))
      | inr other ↦ elim other [
        | inl more ↦ inr (inl (omega (arith, more)))
        | inr same ↦ inr (inr (ap (λ k. suc k) same))
      ]
    ]

-- a line that is missed comes not before another that is
not_before : (p q : ℕ) (lines : List Expectation) (ds : List Arrival) (end : ℕ) → IsMissedAt p lines ds end
    → IsMissedAt q lines ds end → p < q → ⊥
not_before p q lines ds end h k less =
    h.missed (earlier_of end (p + 1) q lines (omega (arith, less)) ds 0 k.before)

pub met_is_not_missed : (p : ℕ) (lines : List Expectation) (ds : List Arrival) (end : ℕ) → AreMet lines ds end
    → IsMissedAt p lines ds end → ⊥
met_is_not_missed p lines ds end h k = k.missed (earlier_than_all end (p + 1) lines ds 0 h)

pub one_verdict : OneVerdict
one_verdict lines ds end Met Met h k = refl
one_verdict lines ds end Met (Missed p) h k = absurd (met_is_not_missed p lines ds end h k)
one_verdict lines ds end (Missed p) Met h k = absurd (met_is_not_missed p lines ds end k h)
one_verdict lines ds end (Missed p) (Missed q) h k =
    elim (split p q) [
      | inl less ↦ absurd (not_before p q lines ds end h k less)
      | inr other ↦ elim other [
        | inl more ↦ absurd (not_before q p lines ds end k h more)
        | inr same ↦ ap Missed same
      ]
    ]
