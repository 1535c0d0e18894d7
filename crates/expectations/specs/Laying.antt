-- How the datagrams of a row are laid beside the lines of a case, which leaves open how that is found.
use Rattle.std.specs.Prelude.{◌≡◌, ℕ, ◌+◌, ◌<◌, ◌≤◌, true, List, [], ◌∷◌, ◌++◌, length, take, Option, None, Some}
use Rattle.std.specs.List.{AllByRecursion}
use Rattle.expectations.specs.declared.arrival.Arrival.{Arrival}
use Rattle.expectations.specs.declared.expectation.Expectation.{Expectation}
use Rattle.expectations.specs.declared.expectation.Expected.{Expected}
use Rattle.expectations.specs.declared.expectation.Expected.TheVariants.{Message, Silence}
use Rattle.expectations.specs.declared.verdict.Verdict.{Verdict}
use Rattle.expectations.specs.declared.verdict.Verdict.TheVariants.{Met, Missed}
use Rattle.expectations.specs.declared.what.What.{What}
use Rattle.expectations.specs.Expecting.{is_expected}

-- what is laid beside the lines after a line: these datagrams, from this second on
abbrev pub More : Type 1
More = List Arrival → ℕ → Type 0

-- a second is at most so many seconds after another, where that is said
abbrev pub IsWithin : Option ℕ → ℕ → ℕ → Type 0
IsWithin None since second = Unit {0}
IsWithin (Some n) since second = second ≤ since + n

-- a datagram is what this server has to send from this second on, after some that are skipped and before the others,
-- which are laid beside the lines after it
pub record IsSent (server : ℕ) (what : What) (within : Option ℕ) (more : More) (arrivals : List Arrival) (since : ℕ)
    : Type 0 where
  pub skipped : List Arrival
  pub arrival : Arrival
  pub others : List Arrival
  pub cut : arrivals ≡ skipped ++ arrival ∷ others
  pub expected : is_expected server what arrival ≡ true
  pub in_time : IsWithin within since arrival.second
  pub rest : more others arrival.second

-- in a row that ends in this second, nothing arrives before so many seconds have passed since this one
pub record IsSilent (end seconds : ℕ) (more : More) (arrivals : List Arrival) (since : ℕ) : Type 0 where
  pub passed : since + seconds ≤ end
  pub silent : AllByRecursion (λ a. since + seconds ≤ a.second) arrivals
  pub rest : more arrivals (since + seconds)

abbrev pub IsLaid : ℕ → Expected → More → List Arrival → ℕ → Type 0
IsLaid end (Message server what within) more arrivals since = IsSent server what within more arrivals since
IsLaid end (Silence seconds) more arrivals since = IsSilent end seconds more arrivals since

-- in a row that ends in this second, these datagrams can be laid beside the lines, in order, from this second on
abbrev pub CanBeLaid : ℕ → List Expectation → List Arrival → ℕ → Type 0
CanBeLaid end [] arrivals since = Unit {0}
CanBeLaid end (e ∷ lines) arrivals since = IsLaid end e.expected (CanBeLaid end lines) arrivals since

-- all the datagrams of a row, from its first second on
abbrev pub AreMet : List Expectation → List Arrival → ℕ → Type 0
AreMet lines arrivals end = CanBeLaid end lines arrivals 0

-- the lines before this place can be laid, and with the one at this place they cannot
pub record IsMissedAt (place : ℕ) (lines : List Expectation) (arrivals : List Arrival) (end : ℕ) : Type 0 where
  pub line : place < length lines
  pub before : AreMet (take place lines) arrivals end
  pub missed : ¬ AreMet (take (place + 1) lines) arrivals end

abbrev pub IsVerdict : Verdict → List Expectation → List Arrival → ℕ → Type 0
IsVerdict Met lines arrivals end = AreMet lines arrivals end
IsVerdict (Missed place) lines arrivals end = IsMissedAt place lines arrivals end
