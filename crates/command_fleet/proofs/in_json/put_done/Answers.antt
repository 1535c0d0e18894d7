use Rattle.std.proofs.Common.{[], ◌∷◌, append_assoc, codes}
use Rattle.trace_json.specs.Json.{number_json}
use Rattle.trace_json.proofs.Faults.{fields_then}
use Rattle.command_fleet.specs.InJson.{done_json, happened_fields}
use Rattle.command_fleet.proofs.in_json.put_done.Goals as goal

pub returns-clause-adds : goal.returns-clause-adds
unfolding done_json
returns-clause-adds c =
    rw (
      c.in_ok-end_object.ensures.ok,
      c.in_ok-put_number-4.ensures.adds,
      c.in_ok-put_number-3.ensures.adds,
      c.in_ok-put_happened.ensures.adds,
      c.in_ok-put_counts.ensures.adds,
      c.in_ok-put_number-2.ensures.adds,
      c.in_ok-put_number.ensures.adds,
      c.in_ok-put_string.ensures.adds,
      c.in_ok-begin_object.ensures.ok,
      fields_then (happened_fields c.args.account.happened)
          ((codes "ended", number_json c.args.shortfall.ended) ∷ (codes "cut", number_json c.args.shortfall.cut) ∷ []),
    ) (simp append_assoc)
