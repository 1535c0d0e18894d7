-- What is written, and what is still to come.
use Rattle.std.proofs.Common.{◌≡◌, ◌++◌, drop}
use Rattle.std.specs.String.{string_bytes}
use Rattle.command_test.specs.Came.{device_words}
use Rattle.command_test.proofs.words.put_devices.Given as goal

abbrev pub invariant-loop-device : goal.invariant-loop-device
invariant-loop-device l =
    string_bytes l.out ++ device_words (drop l.device-index l.devices) ≡ string_bytes l.initial.out
    ++ device_words l.devices
