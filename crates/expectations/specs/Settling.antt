-- When it is settled whether a row that goes on is what the lines of a case say.
use Rattle.std.specs.Prelude.{◌≡◌, ◌⊎◌, ℕ, ◌+◌, ◌<◌, ◌≤◌, List, [], ◌∷◌, ◌++◌}
use Rattle.std.specs.List.{AllByRecursion}
use Rattle.expectations.specs.declared.arrival.Arrival.{Arrival}
use Rattle.expectations.specs.declared.expectation.Expectation.{Expectation}
use Rattle.expectations.specs.declared.expectation.Expected.{Expected}
use Rattle.expectations.specs.declared.expectation.Expected.TheVariants.{Message, Silence}
use Rattle.expectations.specs.declared.verdict.Verdict.{Verdict}
use Rattle.expectations.specs.Laying.{AreMet, IsLaid, IsVerdict, IsWithin}

-- in a row that goes on after this second, the line may yet be laid beside what is still to come: its time has not
-- passed; or nothing has arrived since, and so many seconds have not passed
abbrev pub MayCome : ℕ → Expected → List Arrival → ℕ → Type 0
MayCome end (Message server what within) arrivals since = IsWithin within since end
MayCome end (Silence seconds) arrivals since = (end < since + seconds) × (arrivals ≡ [])

-- the same of one of the lines, where those before it are laid beside the datagrams
abbrev pub IsOpen : ℕ → List Expectation → List Arrival → ℕ → Type 0
IsOpen end [] arrivals since = ⊥
IsOpen end (e ∷ lines) arrivals since =
    MayCome end e.expected arrivals since ⊎ IsLaid end e.expected (IsOpen end lines) arrivals since

-- the lines are met already, or none may yet be laid
abbrev pub IsSettled : List Expectation → List Arrival → ℕ → Type 0
IsSettled lines arrivals end = AreMet lines arrivals end ⊎ (IsOpen end lines arrivals 0 → ⊥)

-- where it is settled by what arrived up to a second, what arrives later, in a row that goes on, leaves the verdict
abbrev pub SettledVerdictsStay : Type 0
SettledVerdictsStay =
    (lines : List Expectation) (arrivals later : List Arrival) (end new_end : ℕ) (v : Verdict)
    → IsSettled lines arrivals end → end ≤ new_end → AllByRecursion (λ a. a.second ≤ end) arrivals
    → AllByRecursion (λ a. end ≤ a.second) later → IsVerdict v lines arrivals end
    → IsVerdict v lines (arrivals ++ later) new_end
