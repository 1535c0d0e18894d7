-- No call is noted, and the servers and the ports are those that were given.
use Rattle.std.proofs.Common.{◌≡◌}
use Rattle.fleet_link.proofs.udp.UdpPorts.next_receipt.Given as goal

abbrev pub invariant-loop-asked : goal.invariant-loop-asked
invariant-loop-asked l = record {
  tally : l.self.tally ≡ l.fn.self.tally;
  servers : l.self.servers ≡ l.fn.self.servers;
  numbers : l.self.numbers ≡ l.fn.self.numbers;
}
