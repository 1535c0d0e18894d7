-- What a second does to each observation, worked out before anything of it is changed.
use Rattle.std.specs.Prelude.{◌≡◌, ℕ, ◌+◌, ◌≤◌, List, [], ◌∷◌, ◌++◌, length, take, drop}
use Rattle.notifier.specs.Observed.{after_notification}
use Rattle.notifier.specs.declared.observation.Observation.{Observation}
use Rattle.notifier.specs.declared.pending.Outlook.{Outlook}
use Rattle.device_requests.specs.Client.{Client}
use Rattle.device_notifications.specs.Outbox.{Outbox}
use Rattle.device_notifications.specs.Outlooks.{outlook_of, outlooks_of}
use Rattle.device_notifications.specs.Second.{Sweep, second}
use Rattle.device_notifications.specs.declared.deeds.Deed.{Deed}
use Rattle.device_notifications.specs.declared.deeds.Deed.TheVariants.{Stays, Notified, Goes}

-- what is left of an observation in the second that the clock shows
abbrev pub left_by : ℕ → Observation → Deed → List Observation
left_by clock o Stays = o ∷ []
left_by clock o (Notified mid report timer outlook) = after_notification clock mid report timer o ∷ []
left_by clock o Goes = []

-- what is said of it then
abbrev pub said_by : Outlook → Deed → List Outlook
said_by s Stays = s ∷ []
said_by s (Notified mid report timer outlook) = outlook ∷ []
said_by s Goes = []

-- what is left of all of them
abbrev pub left_by_all : ℕ → List Observation → List Deed → List Observation
left_by_all clock [] ds = []
left_by_all clock (o ∷ os) [] = []
left_by_all clock (o ∷ os) (d ∷ ds) = left_by clock o d ++ left_by_all clock os ds

-- and what is said of these
abbrev pub said_by_all : List Outlook → List Deed → List Outlook
said_by_all [] ds = []
said_by_all (s ∷ ss) [] = []
said_by_all (s ∷ ss) (d ∷ ds) = said_by s d ++ said_by_all ss ds

-- a turn does this to the observation: what it sends stands after what was to be sent already, and what is left of the
-- observation is known
pub record Does (client : Client) (clock : ℕ) (o : Observation) (turn : Sweep) (deed : Deed) (before after : Outbox)
    : Type 0 where
  pub sent : after.sent ≡ before.sent ++ turn.sent
  pub next_id : after.next_id ≡ turn.next_id
  pub left : left_by clock o deed ≡ turn.left
  pub said : said_by (outlook_of client o) deed ≡ outlooks_of client turn.left

-- a second does these to the observations
pub record Plans (client : Client) (clock : ℕ) (os : List Observation) (deeds : List Deed) (before after : Outbox)
    : Type 0 where
  pub each : length deeds ≡ length os
  pub few : length deeds ≤ 32
  pub sent : after.sent ≡ before.sent ++ (second client clock before.next_id os).sent
  pub next_id : after.next_id ≡ (second client clock before.next_id os).next_id
  pub left : left_by_all clock os deeds ≡ (second client clock before.next_id os).left
  pub said : said_by_all (outlooks_of client os) deeds ≡ outlooks_of client (second client clock before.next_id os).left

-- these stand in a list in the place of what stood at a place, up to the next place; all else is as it was
pub record Replaces {X : Type 0} (old new here : List X) (place next : ℕ) : Type 0 where
  pub passed : take next new ≡ take place old ++ here
  pub coming : drop next new ≡ drop (place + 1) old
