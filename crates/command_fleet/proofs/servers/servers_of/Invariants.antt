-- The servers are those of the words before this one.
use Rattle.std.proofs.Common.{take}
use Rattle.command_fleet.specs.Servers.{AreServers}
use Rattle.command_fleet.proofs.Fixed.{words_in}
use Rattle.command_fleet.proofs.servers.servers_of.Given as goal

abbrev pub invariant-loop-word : goal.invariant-loop-word
invariant-loop-word l = AreServers l.scenario (words_in (take l.word-index l.words)) l.servers.items
