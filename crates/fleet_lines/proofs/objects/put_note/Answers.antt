use Rattle.std.proofs.Common.{append_assoc}
use Rattle.fleet_lines.specs.Objects.{note_json}
use Rattle.fleet_lines.proofs.objects.put_note.Goals as goal

pub returns-clause-adds : goal.returns-clause-adds
unfolding note_json
returns-clause-adds c =
    rw (
      c.in_ok-end_object.ensures.ok,
      c.in_ok-put_string-3.ensures.adds,
      c.in_ok-put_number-3.ensures.adds,
      c.in_ok-put_string-2.ensures.adds,
      c.in_ok-put_number-2.ensures.adds,
      c.in_ok-put_number.ensures.adds,
      c.in_ok-put_string.ensures.adds,
      c.in_ok-begin_object.ensures.ok,
      c.direction_word.ensures,
      c.fate_word.ensures,
    ) (simp append_assoc)
