-- What an observation does in a second: one whose confirmable notification no acknowledgement has answered sends it
-- again (RFC 7252 section 4.2), or ends (RFC 7641 section 4.5).
use Rattle.std.specs.Prelude.{ℕ, if◌then◌else◌, Option, None, Some}
use Rattle.notification_times.specs.Timeouts.{is_resent, is_timed_out, max_retransmit}
use Rattle.notifier.specs.declared.observation.Observation.{Observation}
use Rattle.notifier.specs.declared.observation.Timer.{Timer}
use Rattle.notifier.specs.declared.turn.Turn.{Turn}
use Rattle.notifier.specs.declared.turn.Turn.TheVariants.{Evaluate, Wait, Resend, Expire}

-- what is done at this clock for a notification that was first sent at this second, with this first timeout: it is not
-- sent again once all has passed, and the observation ends
abbrev pub turn_of_resending : ℕ → ℕ → ℕ → Turn
turn_of_resending second first clock =
    if is_timed_out second first clock then Expire
    else if is_resent second first clock max_retransmit then Resend else Wait

-- what an observation does in a second: one that is open is not evaluated
abbrev pub turn_with : ℕ → Option Timer → ℕ → Turn
turn_with second None clock = Evaluate
turn_with second (Some timer) clock = turn_of_resending second timer.first clock

abbrev pub turn_at : Observation → ℕ → Turn
turn_at o clock = turn_with o.second o.timer clock
