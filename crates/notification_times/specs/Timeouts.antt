-- When a confirmable notification that no acknowledgement answers is sent again (RFC 7252 section 4.2), and when it is
-- given up (RFC 7641 section 4.5).
use Rattle.std.specs.Prelude.{ℕ, zero, suc, ◌+◌, ◌*◌, ◌==◌, nat_le, Bool, false, ◌||◌}

-- MAX_RETRANSMIT: how often a message is sent again
abbrev pub max_retransmit : ℕ
max_retransmit = 4

-- the timeout that begins with the kth resending, and with the first sending where k is 0: each resending doubles it
abbrev pub timeout : ℕ → ℕ → ℕ
timeout first zero = first
timeout first (suc k) = 2 * timeout first k

-- the second at which k timeouts have passed since the first sending: that of the kth resending
abbrev pub after_timeouts : ℕ → ℕ → ℕ → ℕ
after_timeouts second first zero = second
after_timeouts second first (suc k) = after_timeouts second first k + timeout first k

-- whether one of the first n resendings is in this second
abbrev pub is_resent : ℕ → ℕ → ℕ → ℕ → Bool
is_resent second first clock zero = false
is_resent second first clock (suc n) = is_resent second first clock n || clock == after_timeouts second first (suc n)

-- whether the timeout that began with the last resending has passed too
abbrev pub is_timed_out : ℕ → ℕ → ℕ → Bool
is_timed_out second first clock = nat_le (after_timeouts second first (suc max_retransmit)) clock
