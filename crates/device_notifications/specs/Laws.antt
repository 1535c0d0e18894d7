-- What follows of notifications and their times, in the words of those who observe (RFC 7641; OMA LwM2M 1.1 Core,
-- attributes).
use Rattle.std.specs.Prelude.{◌≡◌, ◌≢◌, ℕ, ◌+◌, ◌-◌, ◌*◌, ◌%◌, ◌^◌, ◌<◌, ◌≤◌, ◌↔◌, Bool, true, false, List, [], ◌∷◌}
use Rattle.std.specs.Prelude.{◌++◌, length, Option, None, Some, ◌⊎◌, if◌then◌else◌}
use Rattle.std.specs.List.{AllByRecursion, Contains, count_by}
use Rattle.std.specs.Option.{option_to_list}
use Rattle.coap_codec.specs.declared.kind.Kind.{Kind}
use Rattle.coap_codec.specs.declared.kind.Kind.TheVariants.{Con, Non, Ack, Rst}
use Rattle.notifier.specs.Due.{IsFirstDue, IsNeverDue}
use Rattle.notifier.specs.Resending.{turn_at}
use Rattle.notifier.specs.declared.observation.Observation.{Observation}
use Rattle.notifier.specs.declared.observation.Timer.{Timer}
use Rattle.notifier.specs.declared.turn.Turn.{Turn}
use Rattle.notifier.specs.declared.turn.Turn.TheVariants.{Evaluate, Wait, Resend, Expire}
use Rattle.device_requests.specs.Answer.{is_content}
use Rattle.device_requests.specs.Client.{Client}
use Rattle.device_requests.specs.declared.answer.Answer.{Answer}
use Rattle.device_notifications.specs.declared.datagram.Datagram.{Datagram}
use Rattle.device_notifications.specs.Message.{datagram_of, open_notification}
use Rattle.device_notifications.specs.Period.{pmin_of, pmax_of}
use Rattle.device_notifications.specs.Outlooks.{AreAtRest, outlooks_of}
use Rattle.device_notifications.specs.Second.{Sweep, after_next_notification, age_of, and_then, next_notification}
use Rattle.device_notifications.specs.Second.{notified_kind, present_answer, quiet_sweep, second, seconds, turn_of}

-- a datagram is a notification that keeps the observation: its present answer, which is content, with the next Observe
-- number; and pmin seconds or more have passed since the observation's last message
pub record Notifies (client : Client) (clock : ℕ) (o : Observation) (d : Datagram) : Type 0 where
  pub mid : ℕ
  pub evaluated : turn_at o clock ≡ Evaluate
  pub message : d ≡ next_notification client mid o (present_answer client o)
  pub content : is_content (present_answer client o) ≡ true
  pub waited : pmin_of client o.server o.path ≤ age_of clock o

-- a datagram ends the observation: its present answer, which is no content
pub record Ends (client : Client) (clock : ℕ) (o : Observation) (d : Datagram) : Type 0 where
  pub mid : ℕ
  pub evaluated : turn_at o clock ≡ Evaluate
  pub message : d ≡ datagram_of Non o mid None (present_answer client o)
  pub no_content : is_content (present_answer client o) ≡ false

-- a datagram is the open notification of the observation once more
pub record Repeats (clock : ℕ) (o : Observation) (d : Datagram) : Type 0 where
  pub resends : turn_at o clock ≡ Resend
  pub message : open_notification o ≡ Some d

-- each datagram of a second is one of the three, of an observation that was there
abbrev pub IsOf : Client → ℕ → List Observation → Datagram → Type 0
IsOf client clock os d =
    (o : Observation) × Contains os o
    × (Notifies client clock o d ⊎ (Ends client clock o d ⊎ Repeats clock o d))

abbrev pub SendsAfterPmin : Type 0
SendsAfterPmin =
    (client : Client) (clock next_id : ℕ) (os : List Observation)
    → AllByRecursion (IsOf client clock os) (second client clock next_id os).sent

-- and so is each datagram of n seconds, in one of them, of an observation that was there then
abbrev pub IsInOneOf : Client → ℕ → ℕ → ℕ → List Observation → Datagram → Type 0
IsInOneOf client clock n next_id os d =
    (k : ℕ) × (k < n) × IsOf client (clock + (k + 1)) (seconds client clock k next_id os).left d

abbrev pub SecondsSendAfterPmin : Type 0
SecondsSendAfterPmin =
    (client : Client) (clock n next_id : ℕ) (os : List Observation)
    → AllByRecursion (IsInOneOf client clock n next_id os) (seconds client clock n next_id os).sent

-- where pmax has effect, which is where it is above 0 and not below pmin, the last message of an observation that is
-- closed is less than pmax seconds old. One that is open has its last timeout still to come
pub record IsYoung (client : Client) (clock : ℕ) (o : Observation) : Type 0 where
  pub closed : (pmax : ℕ) → o.timer ≡ None → pmax_of client o.server o.path ≡ Some pmax → 0 < pmax
      → pmin_of client o.server o.path ≤ pmax → age_of clock o < pmax
  pub open_yet : (timer : Timer) → o.timer ≡ Some timer → clock < o.second + 31 * timer.first

-- after each second that is so of each observation that is left
abbrev pub SendsBeforePmax : Type 0
SendsBeforePmax =
    (client : Client) (clock next_id : ℕ) (os : List Observation)
    → AllByRecursion (IsYoung client clock) (second client clock next_id os).left

-- and so it is after the last of one second or more
abbrev pub SecondsSendBeforePmax : Type 0
SecondsSendBeforePmax =
    (client : Client) (clock n next_id : ℕ) (os : List Observation)
    → AllByRecursion (IsYoung client (clock + (n + 1))) (seconds client clock (n + 1) next_id os).left

-- an observation keeps all that it was, its last report among them, or its server has been notified, pmin seconds or
-- more after its last message
pub data Stays (client : Client) (clock : ℕ) (o : Observation) : Observation → Type 0 where
  as_it_was : Stays client clock o o
  notified_of : (mid : ℕ) → turn_at o clock ≡ Evaluate → pmin_of client o.server o.path ≤ age_of clock o
      → Stays client clock o (after_next_notification client clock mid o (present_answer client o))

-- observations stay in their order. One goes only where it is evaluated and its present answer is no content, or where
-- the last timeout of its open notification has passed
pub data StayInOrder (client : Client) (clock : ℕ) : List Observation → List Observation → Type 0 where
  none : StayInOrder client clock [] []
  stays : (o p : Observation) (os ps : List Observation) → Stays client clock o p → StayInOrder client clock os ps
      → StayInOrder client clock (o ∷ os) (p ∷ ps)
  goes : (o : Observation) (os ps : List Observation) → turn_at o clock ≡ Evaluate
      → is_content (present_answer client o) ≡ false → StayInOrder client clock os ps
      → StayInOrder client clock (o ∷ os) ps
  expires : (o : Observation) (os ps : List Observation) → turn_at o clock ≡ Expire
      → StayInOrder client clock os ps → StayInOrder client clock (o ∷ os) ps

abbrev pub KeepsOrder : Type 0
KeepsOrder = (client : Client) (clock next_id : ℕ) (os : List Observation)
    → StayInOrder client clock os (second client clock next_id os).left

-- an observation that stays has sent nothing or its open notification once more, and is as it was; or it has sent its
-- Observe number, which is one more than before modulo 2^24
abbrev pub CountsObserveNumbers : Type 0
CountsObserveNumbers =
    (client : Client) (clock next_id : ℕ) (o p : Observation) → (turn_of client clock next_id o).left ≡ p ∷ []
    → ((((turn_of client clock next_id o).sent ≡ [])
    ⊎ ((turn_of client clock next_id o).sent ≡ option_to_list (open_notification o))) × (p ≡ o))
    ⊎ (((turn_of client clock next_id o).sent
    ≡ datagram_of (notified_kind client) o next_id (Some p.number) (present_answer client o) ∷ [])
    × (p.number ≡ (o.number + 1) % 16777216))

-- a datagram is a message of this observation, or its open notification once more
abbrev pub IsMessageOf : Observation → Datagram → Type 0
IsMessageOf o d =
    ((kind : Kind) × (mid : ℕ) × (number : Option ℕ) × (answer : Answer) × (d ≡ datagram_of kind o mid number answer))
    ⊎ (open_notification o ≡ Some d)

-- or of one of these
abbrev pub IsOfOneOf : List Observation → Datagram → Type 0
IsOfOneOf [] d = ⊥
IsOfOneOf (o ∷ os) d = IsMessageOf o d ⊎ IsOfOneOf os d

-- an observation is one of before, of the same server and token; its open notification is a message of that one
pub record IsLater (o p : Observation) : Type 0 where
  pub server : p.server ≡ o.server
  pub token : p.token ≡ o.token
  pub open_of : (d : Datagram) → open_notification p ≡ Some d → IsMessageOf o d

-- it is one of these
abbrev pub IsLaterOneOf : List Observation → Observation → Type 0
IsLaterOneOf [] p = ⊥
IsLaterOneOf (o ∷ os) p = IsLater o p ⊎ IsLaterOneOf os p

-- whether a message is Confirmable
abbrev pub is_con : Kind → Bool
is_con Con = true
is_con Non = false
is_con Ack = false
is_con Rst = false

-- a datagram is a notification of this observation with this Observe number; where it is Confirmable it is open
pub record IsNumbered (o : Observation) (number : ℕ) (d : Datagram) (opens : Option Datagram) : Type 0 where
  pub kind : Kind
  pub mid : ℕ
  pub answer : Answer
  pub message : d ≡ datagram_of kind o mid (Some number) answer
  pub content : is_content answer ≡ true
  pub open_with : opens ≡ (if is_con kind then Some d else None)

-- a datagram is the message that ends this observation, which is Non-confirmable
abbrev pub IsEnd : Observation → Datagram → Type 0
IsEnd o d = (mid : ℕ) × (answer : Answer) × (d ≡ datagram_of Non o mid None answer) × (is_content answer ≡ false)

-- among these datagrams, where this notification of an observation is open at first or none, each further notification
-- of the observation has one number more than the one before it, modulo 2^24, and is sent again only until the next
-- one; none comes after the one that ends it, nor after an open one with which it ends. All the others are messages of
-- these other observations. The last number is this, or none where the observation has ended
abbrev pub Counts : Observation → List Observation → ℕ → Option Datagram → List Datagram → Option ℕ → Type 0
Counts o others number open_now [] last = (last ≡ Some number) ⊎ ((open_now ≢ None) × (last ≡ None))
Counts o others number open_now (d ∷ ds) last =
    (IsOfOneOf others d × Counts o others number open_now ds last)
    ⊎ (((open_now ≡ Some d) × Counts o others number open_now ds last)
    ⊎ (((opens : Option Datagram) × IsNumbered o ((number + 1) % 16777216) d opens
    × Counts o others ((number + 1) % 16777216) opens ds last)
    ⊎ (IsEnd o d × AllByRecursion (IsOfOneOf others) ds × (last ≡ None))))

-- an observation is still there, and the number of its last message is this; or it is gone
abbrev pub IsLeft : Observation → List Observation → Option ℕ → List Observation → Type 0
IsLeft o others None left = AllByRecursion (IsLaterOneOf others) left
IsLeft o others (Some number) left = (p : Observation) × Contains left p × IsLater o p × (p.number ≡ number)

-- of an observation beside these others: its numbers rise by one with each message, from that of its last one, and what
-- is left of it has the last of them
pub record RisesByOne (o : Observation) (others : List Observation) (sent : List Datagram)
    (left : List Observation) : Type 0 where
  pub last : Option ℕ
  pub counts : Counts o others o.number (open_notification o) sent last
  pub is_left : IsLeft o others last left

-- so it is through n seconds, of each of the observations
abbrev pub SecondsCountObserveNumbers : Type 0
SecondsCountObserveNumbers =
    (client : Client) (clock n next_id : ℕ) (before after : List Observation) (o : Observation)
    → RisesByOne o (before ++ after) (seconds client clock n next_id (before ++ o ∷ after)).sent
    (seconds client clock n next_id (before ++ o ∷ after)).left

-- n seconds, and m seconds after them, are n + m seconds
abbrev pub SecondsAdd : Type 0
SecondsAdd =
    (client : Client) (clock a b next_id : ℕ) (os : List Observation)
    → seconds client clock (a + b) next_id os
    ≡ and_then (seconds client clock a next_id os)
    (seconds client (clock + a) b (seconds client clock a next_id os).next_id (seconds client clock a next_id os).left)

-- whether an observation sends its open notification again in a second
abbrev pub is_resend : Turn → Bool
is_resend Evaluate = false
is_resend Wait = false
is_resend Resend = true
is_resend Expire = false

-- how many of them do
abbrev pub resends_in : ℕ → List Observation → ℕ
resends_in clock os = count_by (λ o. is_resend (turn_at o clock)) os

-- each datagram of a second takes one message ID, but for those that are sent again
pub record TakesIds (clock next_id : ℕ) (os : List Observation) (sweep : Sweep) : Type 0 where
  pub fresh : ℕ
  pub sent : length sweep.sent ≡ fresh + resends_in clock os
  pub ids : sweep.next_id ≡ (next_id + fresh) % 65536

abbrev pub CountsMessageIds : Type 0
CountsMessageIds =
    (client : Client) (clock next_id : ℕ) (os : List Observation) → next_id < 65536
    → TakesIds clock next_id os (second client clock next_id os)

-- seconds in which nothing is due send nothing, and leave the observations and the next message ID as they are
abbrev pub QuietSecondsChangeNothing : Type 0
QuietSecondsChangeNothing =
    (client : Client) (clock n next_id : ℕ) (os : List Observation)
    → AreAtRest os (outlooks_of client os) clock (clock + n)
    → seconds client clock n next_id os ≡ quiet_sweep next_id os

-- a second is the first after this one, below 2^64, in which something is sent or an observation is removed; those
-- before it change nothing
pub record IsFirstSending (client : Client) (now next_id : ℕ) (os : List Observation) (first : ℕ) : Type 0 where
  pub later : now < first
  pub fits : first < 2 ^ 64
  pub acts : ((second client first next_id os).sent ≢ [])
      ⊎ (length (second client first next_id os).left < length os)
  pub quiet_before : (clock : ℕ) → now < clock → clock < first → second client clock next_id os ≡ quiet_sweep next_id os

-- that is the second which is found by what the present answers are
abbrev pub FindsTheFirstSending : Type 0
FindsTheFirstSending =
    (client : Client) (now next_id : ℕ) (os : List Observation) (first : ℕ)
    → IsFirstDue now os (outlooks_of client os) first ↔ IsFirstSending client now next_id os first

-- and where none is found, all seconds below 2^64 are quiet
abbrev pub FindsNoSending : Type 0
FindsNoSending =
    (client : Client) (now next_id : ℕ) (os : List Observation)
    → IsNeverDue now os (outlooks_of client os)
    ↔ ((clock : ℕ) → now < clock → clock < 2 ^ 64 → second client clock next_id os ≡ quiet_sweep next_id os)

-- seconds are the first of them in which something is due, and those after it
abbrev pub SecondsJump : Type 0
SecondsJump =
    (client : Client) (clock n next_id first : ℕ) (os : List Observation)
    → IsFirstDue clock os (outlooks_of client os) first → first ≤ clock + n
    → seconds client clock n next_id os
    ≡ and_then (second client first next_id os)
    (seconds client first (clock + n - first) (second client first next_id os).next_id
    (second client first next_id os).left)
