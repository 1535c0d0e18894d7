-- The options of a notification are in order, and short.
use Rattle.std.proofs.Common.{ℕ, ◌/◌, ◌%◌, ◌≤◌, nat_lt, Bool, true, false, [], ◌∷◌, ◌++◌, length, Option, None, Some}
use Rattle.std.proofs.Common.{arith}
use Rattle.std.specs.Bool.{if◌then◌else◌}
use Rattle.coap_codec.specs.Message.{IsOptionList}
use Rattle.coap_codec.specs.Number.{shortest_big_endian}
use Rattle.device_notifications.specs.Message.{format_options, observe_options}

short_choice : (a b c d : Bool) (n : ℕ)
    → length (if a then [] else (if b then n ∷ [] else (if c then n / 256 ∷ n % 256 ∷ []
    else (if d then n / 65536 ∷ n / 256 % 256 ∷ n % 256 ∷ []
    else n / 16777216 ∷ n / 65536 % 256 ∷ n / 256 % 256 ∷ n % 256 ∷ [])))) ≤ 65804
short_choice true b c d n = omega (arith)
short_choice false true c d n = omega (arith)
short_choice false false true d n = omega (arith)
short_choice false false false true n = omega (arith)
short_choice false false false false n = omega (arith)

pub short_number : (n : ℕ) → length (shortest_big_endian n) ≤ 65804
short_number n = short_choice (nat_lt n 1) (nat_lt n 256) (nat_lt n 65536) (nat_lt n 16777216) n

pub format_follows : (before : ℕ) (format : Option ℕ) → before ≤ 12 → IsOptionList before (format_options format)
format_follows before None h = tt
format_follows before (Some f) h = (record { ascends = h; in_range = omega (arith); fits = short_number f }, tt)

pub in_order : (number format : Option ℕ) → IsOptionList 0 (observe_options number ++ format_options format)
in_order None format = format_follows 0 format (omega (arith))
in_order (Some n) format = (
  record { ascends = omega (arith); in_range = omega (arith); fits = short_number n },
  format_follows 6 format (omega (arith)),
)
