-- What follows from how datagrams are laid beside lines.
use Rattle.std.specs.Prelude.{◌≡◌, ℕ, ◌≤◌, List, ◌++◌}
use Rattle.std.specs.List.{AllByRecursion}
use Rattle.expectations.specs.declared.arrival.Arrival.{Arrival}
use Rattle.expectations.specs.declared.expectation.Expectation.{Expectation}
use Rattle.expectations.specs.declared.verdict.Verdict.{Verdict}
use Rattle.expectations.specs.Laying.{AreMet, IsVerdict}

-- where lines are met, so are the first of them
abbrev pub EarlierLinesAreMet : Type 0
EarlierLinesAreMet =
    (lines more : List Expectation) (arrivals : List Arrival) (end : ℕ) → AreMet (lines ++ more) arrivals end
    → AreMet lines arrivals end

-- what arrives after the end of a row, in one that goes on, leaves lines met
abbrev pub LaterArrivalsChangeNothing : Type 0
LaterArrivalsChangeNothing =
    (lines : List Expectation) (arrivals later : List Arrival) (end new_end : ℕ) → end ≤ new_end
    → AllByRecursion (λ a. end ≤ a.second) later → AreMet lines arrivals end → AreMet lines (arrivals ++ later) new_end

-- there is one verdict
abbrev pub OneVerdict : Type 0
OneVerdict =
    (lines : List Expectation) (arrivals : List Arrival) (end : ℕ) (v w : Verdict) → IsVerdict v lines arrivals end
    → IsVerdict w lines arrivals end → v ≡ w
