-- What is said of the observation of a name is said of each, where it was known of the others.
use Rattle.std.proofs.Common.{◌≡◌, ℕ, zero, suc, false, List, [], ◌∷◌, Some, slice_get, slice_set, refl, sym, ◌∙◌}
use Rattle.std.proofs.lemmas.Bool.{or_parts}
use Rattle.notifier.specs.Observed.{HaveDistinctNames, has_name, is_named}
use Rattle.notifier.specs.declared.observation.Observation.{Observation}
use Rattle.notifier.specs.declared.pending.Outlook.{Outlook}
use Rattle.notifier.proofs.ObservedLaws.{name_is}
use Rattle.notifier.proofs.Places.{IsFirst}
use Rattle.device_requests.specs.Client.{Client}
use Rattle.device_notifications.specs.Outlooks.{IsKnownBut, outlook_of, outlooks_of}

module _ (client : Client) (server : ℕ) (token : List ℕ) where
  -- where none has the name
  pub known_of_others : (os : List Observation) (ss : List Outlook)
      → IsKnownBut server token client (record { list = os; said = ss }) → has_name os server token ≡ false
      → ss ≡ outlooks_of client os
  known_of_others [] [] h none = refl
  known_of_others [] (s ∷ ss) h none = absurd h
  known_of_others (o ∷ os) [] h none = absurd h
  known_of_others (o ∷ os) (s ∷ ss) h none =
      let parts = or_parts (is_named server token o) (has_name os server token) none in
      λ j. h.0 parts.0 j ∷ known_of_others os ss h.1 parts.1 j

  -- where it is said of the first that has it
  pub known_of_all : (os : List Observation) (ss : List Outlook) (i : ℕ) (o : Observation)
      → IsKnownBut server token client (record { list = os; said = ss }) → HaveDistinctNames os
      → IsFirst (is_named server token) os i → slice_get os i ≡ Some o
      → slice_set ss i (outlook_of client o) ≡ outlooks_of client os
  known_of_all [] ss i o h apart first at = absurd first
  known_of_all (x ∷ os) [] i o h apart first at = absurd h
  known_of_all (x ∷ os) (s ∷ ss) zero o h apart first at =
      let same : x ≡ o = cc in
      let name = name_is server token x first in
      let none : has_name os server token ≡ false =
      (λ j. has_name os (sym name.0 j) (sym name.1 j)) ∙ apart.0 in
      λ j. outlook_of client (sym same j) ∷ known_of_others os ss h.1 none j
  known_of_all (x ∷ os) (s ∷ ss) (suc i) o h apart first at =
      λ j. h.0 first.0 j ∷ known_of_all os ss i o h.1 apart.1 first.1 at j
