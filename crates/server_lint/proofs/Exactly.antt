-- What is found is what is a finding.
use Rattle.std.proofs.Common.{◌≡◌, ℕ, zero, suc, ◌<◌, List, [], ◌∷◌, ◌++◌, ◌⊎◌, inl, inr, length, get_or}
use Rattle.std.proofs.Common.{refl, sym, ap, subst, arith}
use Rattle.std.specs.List.{Contains}
use Rattle.std.proofs.lemmas.Option.{slice_get_within}
use Rattle.lemmas.proofs.Lists.{contains_later}
use Rattle.server_lint.specs.declared.rule.Rule.{Rule}
use Rattle.server_lint.specs.declared.rule.Rule.TheVariants.{NotAMessage, MessageIdReused, RepeatedTooSoon}
use Rattle.server_lint.specs.declared.rule.Rule.TheVariants.{RepeatedTooOften, AnswersNothing}
use Rattle.server_lint.specs.declared.rule.Rule.TheVariants.{NotificationNotAcknowledged, UnknownCriticalOption}
use Rattle.server_lint.specs.declared.rule.Rule.TheVariants.{EmptyPathSegment, ReplyNotEmpty, AcknowledgedLate}
use Rattle.server_lint.specs.declared.rule.Rule.TheVariants.{RepeatedAfterReply, NumberNotShortest, TokenInUse}
use Rattle.server_lint.specs.declared.rule.Rule.TheVariants.{RegisteredWhileFresh, ObservationNotTaken}
use Rattle.server_lint.specs.declared.rule.Rule.TheVariants.{RequestRefused, RequestUnanswered, ObservationLeft}
use Rattle.server_lint.specs.Findings.{AreThose, IsFinding, candidates, candidates_at}
use Rattle.server_lint.specs.Laws.{AllAreFindings, AllFindingsAreThere}

-- ---- what is found is a finding

at_each : {X : Type 0} (P : X → Type 0) (x : X) (rest : List X) (k : ℕ) (f : X) → P x
    → ((j : ℕ) → j < length rest → get_or rest j f ≡ f → P f) → k < length (x ∷ rest) → get_or (x ∷ rest) k f ≡ f → P f
at_each P x rest zero f p more within e = subst P e p
at_each P x rest (suc k) f p more within e = more k (omega arith) e

those_hold : {X : Type 0} (P : X → Type 0) (xs found : List X) (f : X) → AreThose P xs found → (k : ℕ)
    → k < length found → get_or found k f ≡ f → P f
those_hold P [] found f h k within e = let none : length found ≡ 0 = ap length h in absurd (omega arith)
those_hold P (x ∷ xs) found f (inl h) k within e =
    at_each P x h.1.0 k f h.0 (those_hold P xs h.1.0 f h.1.2) (subst (λ l. k < length l) h.1.1 within)
    (subst (λ l. get_or l k f ≡ f) h.1.1 e)
those_hold P (x ∷ xs) found f (inr h) k within e = those_hold P xs found f h.1 k within e

pub all_hold : AllAreFindings
all_hold chosen history end found f are there =
    those_hold (IsFinding chosen history end) (candidates (length history)) found f are there.0 there.1 there.2

-- ---- each finding is found

those_found : {X : Type 0} (P : X → Type 0) (xs found : List X) (f : X) → AreThose P xs found → P f → (k : ℕ)
    → k < length xs → get_or xs k f ≡ f → Contains found f
those_found P [] found f h p k within e = absurd (omega arith)
those_found P (x ∷ xs) found f (inl h) p zero within e =
    subst (λ l. Contains l f) (sym h.1.1) (zero, omega arith, e)
those_found P (x ∷ xs) found f (inl h) p (suc k) within e =
    subst (λ l. Contains l f) (sym h.1.1) (contains_later x f h.1.0
    (those_found P xs h.1.0 f h.1.2 p k (omega arith) e))
those_found P (x ∷ xs) found f (inr h) p zero within e = absurd (h.0 (subst P (sym e) p))
those_found P (x ∷ xs) found f (inr h) p (suc k) within e = those_found P xs found f h.1 p k (omega arith) e

in_first : {X : Type 0} (xs ys : List X) (f : X) → Contains xs f → Contains (xs ++ ys) f
in_first [] ys f (k, within, e) = absurd (omega arith)
in_first (x ∷ xs) ys f (zero, within, e) = (zero, omega arith, e)
in_first (x ∷ xs) ys f (suc k, within, e) = contains_later x f (xs ++ ys) (in_first xs ys f (k, omega arith, e))

in_second : {X : Type 0} (xs ys : List X) (f : X) → Contains ys f → Contains (xs ++ ys) f
in_second [] ys f there = there
in_second (x ∷ xs) ys f there = contains_later x f (xs ++ ys) (in_second xs ys f there)

-- each rule is among the candidates of a place
among : (place : ℕ) (rule : Rule) → Contains (candidates_at place) (record { place = place; rule = rule })
among place NotAMessage = (0, omega arith, refl)
among place MessageIdReused = (1, omega arith, refl)
among place RepeatedTooSoon = (2, omega arith, refl)
among place RepeatedTooOften = (3, omega arith, refl)
among place AnswersNothing = (4, omega arith, refl)
among place NotificationNotAcknowledged = (5, omega arith, refl)
among place UnknownCriticalOption = (6, omega arith, refl)
among place EmptyPathSegment = (7, omega arith, refl)
among place ReplyNotEmpty = (8, omega arith, refl)
among place AcknowledgedLate = (9, omega arith, refl)
among place RepeatedAfterReply = (10, omega arith, refl)
among place NumberNotShortest = (11, omega arith, refl)
among place TokenInUse = (12, omega arith, refl)
among place RegisteredWhileFresh = (13, omega arith, refl)
among place ObservationNotTaken = (14, omega arith, refl)
among place RequestRefused = (15, omega arith, refl)
among place RequestUnanswered = (16, omega arith, refl)
among place ObservationLeft = (17, omega arith, refl)

split : (n place : ℕ) → place < suc n → (place < n) ⊎ (place ≡ n)
split zero zero below = inr refl
split zero (suc place) below = absurd (omega arith)
split (suc n) zero below = inl (omega arith)
split (suc n) (suc place) below =
    elim (split n place (omega arith)) [ inl less ↦ inl (omega arith) | inr same ↦ inr (ap (λ k. suc k) same) ]

among_all : (n place : ℕ) (rule : Rule) → place < n → Contains (candidates n) (record { place = place; rule = rule })
among_all zero place rule below = absurd (omega arith)
among_all (suc n) place rule below =
    elim (split n place below) [
      | inl less ↦ in_first (candidates n) (candidates_at n) (record { place = place; rule = rule })
          (among_all n place rule less)
      | inr same ↦ in_second (candidates n) (candidates_at n) (record { place = place; rule = rule })
          (subst (λ k. Contains (candidates_at n) (record { place = k; rule = rule })) (sym same) (among n rule))
    ]

pub all_there : AllFindingsAreThere
all_there chosen history end found f are is =
    let there : Contains (candidates (length history)) f =
    among_all (length history) f.place f.rule (slice_get_within history f.place is.this is.stands) in
    those_found (IsFinding chosen history end) (candidates (length history)) found f are is there.0 there.1 there.2
