use Rattle.std.proofs.Common.{arith}
use Rattle.command_files.proofs.Ranges.{no_range}
use Rattle.command_files.proofs.devices.read_devices.Goals as goal

pub returns-clause-none : goal.returns-clause-none
returns-clause-none c =
    let parts = c.in_ok-first.ensures.byte (omega arith) (λ w o h. h) in
    no_range c.args.text.now c.in_ok-first.first.now c.in_ok-first.last.now c.devices_of.result parts.0 parts.1
    c.devices_of.ensures.none
