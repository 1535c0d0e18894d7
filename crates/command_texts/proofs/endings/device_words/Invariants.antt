use Rattle.std.proofs.Common.{◌≡◌, take}
use Rattle.std.specs.List.{flat_map}
use Rattle.std.specs.String.{string_bytes}
use Rattle.command_texts.specs.Endings.{device_word}
use Rattle.command_texts.proofs.endings.device_words.Given as goal

abbrev pub invariant-loop-device : goal.invariant-loop-device
invariant-loop-device l = string_bytes l.text ≡ flat_map device_word (take l.device-index l.devices)
