use Rattle.std.proofs.Common.{◌≡◌}
use Rattle.live_link.proofs.udp.UdpWire.ask_after_dropped.Given as goal

abbrev pub invariant-loop : goal.invariant-loop
invariant-loop l = l.self ≡ l.fn.self
