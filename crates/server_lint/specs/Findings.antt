-- What is found in a history.
use Rattle.std.specs.Prelude.{ℕ, zero, suc, ◌≡◌, ◌+◌, ◌⊎◌, List, [], ◌∷◌, ◌++◌, map, take, drop, slice_get, Some}
use Rattle.std.specs.List.{Contains}
use Rattle.server_lint.specs.declared.finding.Finding.{Finding}
use Rattle.server_lint.specs.declared.rule.Rule.{Rule}
use Rattle.server_lint.specs.declared.rule.Rule.TheVariants.{NotAMessage, MessageIdReused, RepeatedTooSoon}
use Rattle.server_lint.specs.declared.rule.Rule.TheVariants.{RepeatedTooOften, AnswersNothing}
use Rattle.server_lint.specs.declared.rule.Rule.TheVariants.{NotificationNotAcknowledged, UnknownCriticalOption}
use Rattle.server_lint.specs.declared.rule.Rule.TheVariants.{EmptyPathSegment, ReplyNotEmpty, AcknowledgedLate}
use Rattle.server_lint.specs.declared.rule.Rule.TheVariants.{RepeatedAfterReply, NumberNotShortest, TokenInUse}
use Rattle.server_lint.specs.declared.rule.Rule.TheVariants.{RegisteredWhileFresh, ObservationNotTaken}
use Rattle.server_lint.specs.declared.rule.Rule.TheVariants.{RequestRefused, RequestUnanswered, ObservationLeft}
use Rattle.server_lint.specs.History.{Transmission}
use Rattle.server_lint.specs.Rules.{IsBroken, Place}

-- the rules, in the order in which findings at one datagram stand
abbrev pub all_rules : List Rule
all_rules =
    NotAMessage ∷ MessageIdReused ∷ RepeatedTooSoon ∷ RepeatedTooOften ∷ AnswersNothing
    ∷ NotificationNotAcknowledged ∷ UnknownCriticalOption ∷ EmptyPathSegment ∷ ReplyNotEmpty ∷ AcknowledgedLate
    ∷ RepeatedAfterReply ∷ NumberNotShortest ∷ TokenInUse ∷ RegisteredWhileFresh ∷ ObservationNotTaken
    ∷ RequestRefused ∷ RequestUnanswered ∷ ObservationLeft ∷ []

-- the datagram at a place, counted from 0, among the others of a history that ends in this second
abbrev pub place_of : List Transmission → ℕ → ℕ → Transmission → Place
place_of history end place this =
    record { before = take place history; this = this; after = drop (place + 1) history; end = end }

-- one of the chosen rules is broken by a datagram of the history
pub record IsFinding (chosen : List Rule) (history : List Transmission) (end : ℕ) (f : Finding) : Type 0 where
  pub chose : Contains chosen f.rule
  pub this : Transmission
  pub stands : slice_get history f.place ≡ Some this
  pub broken : IsBroken f.rule (place_of history end f.place this)

-- the second list has those elements of the first of which this holds, in their order
abbrev pub AreThose : {X : Type 0} → (X → Type 0) → List X → List X → Type 0
AreThose P [] found = found ≡ []
AreThose {X} P (x ∷ xs) found =
    (P x × ((rest : List X) × (found ≡ x ∷ rest) × AreThose P xs rest)) ⊎ ((P x → ⊥) × AreThose P xs found)

-- what could be found at a place: each rule, in their order
abbrev pub candidates_at : ℕ → List Finding
candidates_at place = map (λ rule. record { place = place; rule = rule }) all_rules

-- what could be found at the first n places, one after another
abbrev pub candidates : ℕ → List Finding
candidates zero = []
candidates (suc n) = candidates n ++ candidates_at n
