use Rattle.std.proofs.Common.{append_assoc}
use Rattle.fleet_lines.specs.Objects.{datagram_json}
use Rattle.fleet_lines.proofs.objects.put_datagram.Goals as goal

pub returns-clause-adds : goal.returns-clause-adds
unfolding datagram_json
returns-clause-adds c =
    rw (
      c.in_ok-end_object.ensures.ok,
      c.in_ok-put_string-3.ensures.adds,
      c.in_ok-put_string-2.ensures.adds,
      c.in_ok-put_number-3.ensures.adds,
      c.in_ok-put_number-2.ensures.adds,
      c.in_ok-put_number.ensures.adds,
      c.in_ok-put_string.ensures.adds,
      c.in_ok-begin_object.ensures.ok,
      c.event_name.ensures,
      c.as_str-2.ensures.value,
      c.in_ok-words.ensures.text,
      c.as_str.ensures.value,
      c.in_ok-hex.ensures,
      c.as_slice-bytes.ensures,
      c.from.ensures,
    ) (simp append_assoc)
