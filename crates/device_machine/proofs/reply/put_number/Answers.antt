use Rattle.std.proofs.Common.{ap, ◌∙◌, w64}
use Rattle.std.proofs.lemmas.Int.{to_z-of_z}
use Rattle.std.specs.Fmt.{signed_decimal}
use Rattle.device_machine.proofs.Digits.{has_digit}
use Rattle.device_machine.proofs.reply.put_number.Goals as goal

pub put_plain_text-requires : goal.put_plain_text-requires
put_plain_text-requires c =
    has_digit c.as_bytes.result.now c.args.number c.ranges.number
    (c.as_bytes.ensures.value ∙ c.format.ensures.text ∙ ap signed_decimal (to_z-of_z w64 c.args.number c.ranges.number))
