-- The first second at which an observation sends or is removed, by what was last said of it (OMA LwM2M 1.1 Core,
-- attributes; RFC 7641; RFC 7252 section 4.2).
use Rattle.std.specs.Prelude.{ℕ, ◌-◌, Bool, true, false, ◌||◌, List, [], ◌∷◌, Option}
use Rattle.notification_times.specs.First.{IsFirstAfter, IsNoneAfter}
use Rattle.notifier.specs.Resending.{turn_at}
use Rattle.notifier.specs.Trigger.{is_due}
use Rattle.notifier.specs.declared.observation.Observation.{Observation}
use Rattle.notifier.specs.declared.pending.Outlook.{Outlook}
use Rattle.notifier.specs.declared.pending.Pending.{Pending}
use Rattle.notifier.specs.declared.pending.Pending.TheVariants.{Idle, Changed, Gone}
use Rattle.notifier.specs.declared.turn.Turn.{Turn}
use Rattle.notifier.specs.declared.turn.Turn.TheVariants.{Evaluate, Wait, Resend, Expire}

-- whether an observation sends, or is removed, whose last message is this old: content by its periods, and with its
-- trigger where it has changed; any other answer at once
abbrev pub is_due_by : Pending → ℕ → ℕ → Option ℕ → Bool
is_due_by Idle age pmin pmax = is_due age pmin pmax false
is_due_by Changed age pmin pmax = is_due age pmin pmax true
is_due_by (Gone code) age pmin pmax = true

-- one whose last message is of this second, and which is evaluated, when the clock shows this
abbrev pub is_due_at : ℕ → Outlook → ℕ → Bool
is_due_at second s clock = is_due_by s.pending (clock - second) s.pmin s.pmax

-- and one that has this turn: while it is open what was said of its present answer does not count
abbrev pub acts_in : Turn → ℕ → Outlook → ℕ → Bool
acts_in Evaluate second s clock = is_due_at second s clock
acts_in Wait second s clock = false
acts_in Resend second s clock = true
acts_in Expire second s clock = true

-- whether an observation sends, or is removed, when the clock shows this
abbrev pub acts_at : Observation → Outlook → ℕ → Bool
acts_at o s clock = acts_in (turn_at o clock) o.second s clock

-- whether one of the observations does, each by what was said of it
abbrev pub is_one_due : List Observation → List Outlook → ℕ → Bool
is_one_due [] ss clock = false
is_one_due (o ∷ os) [] clock = false
is_one_due (o ∷ os) (s ∷ ss) clock = acts_at o s clock || is_one_due os ss clock

-- the first second after this one at which an observation sends or is removed
abbrev pub IsFirstDue : ℕ → List Observation → List Outlook → ℕ → Type 0
IsFirstDue now os ss first = IsFirstAfter (is_one_due os ss) now first

-- there is none
abbrev pub IsNeverDue : ℕ → List Observation → List Outlook → Type 0
IsNeverDue now os ss = IsNoneAfter (is_one_due os ss) now
