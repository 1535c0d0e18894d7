-- What was last said of each observation, and how a call changes it.
use Rattle.std.specs.Prelude.{ℕ, Bool, if◌then◌else◌, List, [], ◌∷◌, None, slice_get, slice_set}
use Rattle.std.specs.Option.{option_map_or}
use Rattle.notifier.specs.Observed.{is_named}
use Rattle.notifier.specs.declared.observation.Observation.{Observation}
use Rattle.notifier.specs.declared.pending.Outlook.{Outlook}
use Rattle.notifier.specs.declared.pending.Pending.TheVariants.{Idle}

-- what contracts see of observations: the list of them, in the order of registration, and beside it, in the same order,
-- what was last said of each
pub record Watch : Type 0 where
  pub list : List Observation
  pub said : List Outlook

-- nothing is pending, and there is no period: so it is said of an observation that is registered
abbrev pub initial_outlook : Outlook
initial_outlook = record { pending = Idle; pmin = 0; pmax = None }

-- a message has reported the present answer, so nothing is pending; the periods are as they were
abbrev pub as_idle : Outlook → Outlook
as_idle s = record s { pending = Idle }

-- nothing is pending of the observation at a place
abbrev pub with_idle : List Outlook → ℕ → List Outlook
with_idle said place = option_map_or (λ s. slice_set said place (as_idle s)) (slice_get said place) said

-- what was said of those that stay, where the observations go of which a test holds
abbrev pub said_without : (Observation → Bool) → List Observation → List Outlook → List Outlook
said_without goes [] said = said
said_without goes (o ∷ os) [] = []
said_without goes (o ∷ os) (s ∷ ss) = if goes o then said_without goes os ss else s ∷ said_without goes os ss

-- what was said of the others, where an observation of this name is registered: in the place of the one that has it,
-- else at the end
abbrev pub said_with : ℕ → List ℕ → List Observation → List Outlook → List Outlook
said_with server token [] said = initial_outlook ∷ []
said_with server token (o ∷ os) [] = []
said_with server token (o ∷ os) (s ∷ ss) =
    if is_named server token o then initial_outlook ∷ ss else s ∷ said_with server token os ss
