-- The first second after this one at which a test passes.
use Rattle.std.specs.Prelude.{◌≡◌, ℕ, ◌<◌, ◌^◌, Bool, true, false, Option, MatchOption}

-- the first second after this one, below 2^64, at which a test passes
pub record IsFirstAfter (test : ℕ → Bool) (now first : ℕ) : Type 0 where
  pub later : now < first
  pub fits : first < 2 ^ 64
  pub passes : test first ≡ true
  pub none_before : (clock : ℕ) → now < clock → clock < first → test clock ≡ false

-- it passes at none of them
abbrev pub IsNoneAfter : (ℕ → Bool) → ℕ → Type 0
IsNoneAfter test now = (clock : ℕ) → now < clock → clock < 2 ^ 64 → test clock ≡ false

-- a result is the first of them at which it passes, or None where there is none
abbrev pub IsFirst : (ℕ → Bool) → ℕ → Option ℕ → Type 0
IsFirst test now result = MatchOption result (IsNoneAfter test now) (λ first. IsFirstAfter test now first)
