use Rattle.std.proofs.Common.{append_assoc}
use Rattle.command_fleet.proofs.in_json.put_wire.Goals as goal

pub returns-clause-adds : goal.returns-clause-adds
returns-clause-adds c =
    rw (
      c.in_ok-put_number-4.ensures.adds,
      c.in_ok-put_number-3.ensures.adds,
      c.in_ok-put_number-2.ensures.adds,
      c.in_ok-put_number.ensures.adds,
    ) (simp append_assoc)
