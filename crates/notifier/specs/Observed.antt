-- The observations of a device, in the order of registration, and how a call changes them (RFC 7641).
use Rattle.std.specs.Prelude.{◌≡◌, ℕ, ◌+◌, ◌%◌, ◌<◌, ◌≤◌, ◌==◌, Bool, not, ◌&&◌, if◌then◌else◌, List, [], ◌∷◌}
use Rattle.std.specs.Prelude.{◌||◌, length, find, filter, map, slice_get, slice_set, bytes_eq, IsFalse, Option, None}
use Rattle.std.specs.Prelude.{is_none, is_some, option_and_then, option_map}
use Rattle.std.specs.Int.Digits.{AllBelowBase}
use Rattle.std.specs.List.{list_any}
use Rattle.std.specs.Option.{option_map_or}
use Rattle.notifier.specs.declared.observation.Observation.{Observation}
use Rattle.notifier.specs.declared.observation.Report.{Report}
use Rattle.notifier.specs.declared.observation.Timer.{Timer}
use Rattle.notifier.specs.declared.entries.Key.{Key}
use Rattle.notifier.specs.Inside.{name_key}

-- whether an observation has this name: its server and its token
abbrev pub is_named : ℕ → List ℕ → Observation → Bool
is_named server token o = server == o.server && bytes_eq token o.token

-- whether there is an observation of this name
abbrev pub has_name : List Observation → ℕ → List ℕ → Bool
has_name all server token = list_any (is_named server token) all

-- no two observations have one name
abbrev pub HaveDistinctNames : List Observation → Type 0
HaveDistinctNames [] = Unit {0}
HaveDistinctNames (o ∷ os) = IsFalse (has_name os o.server o.token) × HaveDistinctNames os

-- the Observe number after this one, of 24 bits
abbrev pub next_number : ℕ → ℕ
next_number n = (n + 1) % 16777216

-- the Observe number of the reply that registers: 0 for a new name, else the next one
abbrev pub number_for : List Observation → ℕ → List ℕ → ℕ
number_for all server token = option_map_or (λ o. next_number o.number) (find (is_named server token) all) 0

-- with an observation: in the place of the one of its name, else at the end
abbrev pub with_registered : List Observation → Observation → List Observation
with_registered [] new = record new { number = 0 } ∷ []
with_registered (o ∷ os) new =
    if is_named new.server new.token o then record new { number = next_number o.number } ∷ os
    else o ∷ with_registered os new

-- without the observations of this name
abbrev pub without_cancelled : List Observation → ℕ → List ℕ → List Observation
without_cancelled all server token = filter (λ o. not (is_named server token o)) all

-- whether the last message of an observation was a NON to this server with this message ID, or is such a CON that is
-- still open
abbrev pub was_sent : ℕ → ℕ → Observation → Bool
was_sent server mid o = server == o.server && ((o.non || is_some o.timer) && o.mid == mid)

-- without the observations whose last message a Reset of this server rejects
abbrev pub without_reset : List Observation → ℕ → ℕ → List Observation
without_reset all server mid = filter (λ o. not (was_sent server mid o)) all

-- whether an Empty ACK of this server with this message ID answers the last message of an observation: a CON that is
-- still open (RFC 7252 section 4.2)
abbrev pub is_awaited : ℕ → ℕ → Observation → Bool
is_awaited server mid o = server == o.server && (is_some o.timer && o.mid == mid)

-- an observation after such an acknowledgement
abbrev pub as_closed : Observation → Observation
as_closed o = record o { timer = None }

-- with the observations closed that this acknowledgement answers
abbrev pub with_acknowledged : List Observation → ℕ → ℕ → List Observation
with_acknowledged all server mid = map (λ o. if is_awaited server mid o then as_closed o else o) all

-- an observation after a notification: a CON with what it is sent again by, which opens it, or a NON
abbrev pub after_notification : ℕ → ℕ → Report → Option Timer → Observation → Observation
after_notification now mid report timer o =
    record o {
      report = report;
      second = now;
      number = next_number o.number;
      non = is_none timer;
      mid = mid;
      timer = timer;
    }

-- with the observation at a place after its notification
abbrev pub with_sent : List Observation → ℕ → ℕ → ℕ → Report → Option Timer → List Observation
with_sent all place now mid report timer =
    option_map_or (λ o. slice_set all place (after_notification now mid report timer o)) (slice_get all place) all

-- the bytes of the notification of the observation at a place, where that is open
abbrev pub open_bytes : List Observation → ℕ → Option (List ℕ)
open_bytes all place = option_map (λ timer. timer.bytes) (option_and_then (λ o. o.timer) (slice_get all place))

-- a token has at most 8 bytes (RFC 7252 section 3)
abbrev pub HasToken : Observation → Type 0
HasToken o = length o.token ≤ 8

-- an Observe number has 24 bits (RFC 7641 section 2)
abbrev pub HasNumber : Observation → Type 0
HasNumber o = o.number < 16777216

-- a key is that of its observation, whose token, of bytes, and Observe number are some
pub record IsKeyed (e : Key × Observation) : Type 0 where
  pub key : e.0 ≡ name_key e.1.server e.1.token
  pub short : HasToken e.1
  pub bytes : AllBelowBase 256 e.1.token
  pub number : HasNumber e.1
