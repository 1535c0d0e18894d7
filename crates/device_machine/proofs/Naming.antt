-- The options of an answer are in order, and short.
use Rattle.std.proofs.Common.{ℕ, ◌<◌, ◌≤◌, List, ◌++◌, length, Option}
use Rattle.std.proofs.Common.{None, Some, arith}
use Rattle.std.specs.Fmt.{decimal}
use Rattle.std.proofs.lemmas.Fmt.{length-decimal-le}
use Rattle.coap_codec.specs.Message.{IsOptionList}
use Rattle.coap_codec.specs.declared.option.Opt.{Opt}
use Rattle.object_defs.specs.declared.path.InstancePath.{InstancePath}
use Rattle.device_notifications.specs.Message.{format_options}
use Rattle.coap_codec.specs.Options.{number_option}
use Rattle.device_notifications.proofs.Options.{format_follows, short_number}
use Rattle.device_machine.specs.Reactions.{IsShort, answer_options, location_options}

-- an option with a number, after one of no greater number and before others
pub numbered : (before option : ℕ) (number : Option ℕ) (rest : List Opt) → before ≤ option → option ≤ 12
    → IsOptionList before rest → IsOptionList option rest → IsOptionList before (number_option option number ++ rest)
numbered before option None rest h k l m = l
numbered before option (Some n) rest h k l m =
    (record { ascends = h; in_range = omega (arith); fits = short_number n }, m)

-- Location-Path and Content-Format after an option of no greater number
location_follows : (before : ℕ) (location : Option InstancePath) (format : Option ℕ) → before ≤ 8 → IsShort location
    → IsOptionList before (location_options location ++ format_options format)
location_follows before None format b h = format_follows before format (omega (arith))
location_follows before (Some place) format b h = (
  record { ascends = omega (arith); in_range = omega (arith); fits = omega (arith, h.0) },
  (
    record { ascends = omega (arith); in_range = omega (arith); fits = omega (arith, h.1) },
    format_follows 8 format (omega (arith)),
  ),
)

-- the options of an answer are in order
pub in_order : (number : Option ℕ) (location : Option InstancePath) (format : Option ℕ) → IsShort location
    → IsOptionList 0 (answer_options number location format)
in_order number location format h =
    numbered 0 6 number (location_options location ++ format_options format) (omega (arith)) (omega (arith))
    (location_follows 0 location format (omega (arith)) h) (location_follows 6 location format (omega (arith)) h)

pub short_decimal : (n : ℕ) → n < 65536 → length (decimal n) ≤ 5
short_decimal n h = length-decimal-le 5 n (omega (arith)) (omega (arith, h)) (omega (arith, h))
