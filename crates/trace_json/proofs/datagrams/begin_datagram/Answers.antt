use Rattle.std.proofs.Common.{append_assoc, append-nil}
use Rattle.trace_json.proofs.datagrams.begin_datagram.Goals as goal

pub returns-clause-adds : goal.returns-clause-adds
returns-clause-adds c =
    rw (
      c.in_ok-put_string-2.ensures.adds,
      c.in_ok-put_hex.ensures.adds,
      c.in_ok-put_number.ensures.adds,
      c.in_ok-put_string.ensures.adds,
      c.in_ok-begin_object.ensures.ok,
      c.as_str.ensures.value,
      c.in_ok-words.ensures.text,
    ) (simp (append_assoc, append-nil))
