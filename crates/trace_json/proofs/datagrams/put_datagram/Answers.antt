use Rattle.std.proofs.Common.{append_assoc}
use Rattle.trace_json.proofs.Reasoned.{datagram_tokens}
use Rattle.trace_json.proofs.datagrams.put_datagram.Goals as goal

pub returns-clause-adds : goal.returns-clause-adds
returns-clause-adds c =
    rw (datagram_tokens, c.in_ok-end_object.ensures.ok, c.in_ok-begin_datagram.ensures.adds) (simp append_assoc)
