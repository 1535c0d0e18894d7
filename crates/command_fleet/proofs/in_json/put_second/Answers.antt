use Rattle.std.proofs.Common.{append_assoc}
use Rattle.command_fleet.specs.InJson.{second_json}
use Rattle.command_fleet.proofs.in_json.put_second.Goals as goal

pub returns-clause-adds : goal.returns-clause-adds
unfolding second_json
returns-clause-adds c =
    rw (
      c.in_ok-end_object.ensures.ok,
      c.in_ok-put_counts.ensures.adds,
      c.in_ok-put_number.ensures.adds,
      c.in_ok-put_string.ensures.adds,
      c.in_ok-begin_object.ensures.ok,
    ) (simp append_assoc)
