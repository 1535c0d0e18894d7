use Rattle.std.proofs.Common.{◌≡◌, drop}
use Rattle.lwm2m_payloads.specs.declared.arguments.Place.TheVariants.{Start}
use Rattle.lwm2m_payloads.specs.Scanning.{run}
use Rattle.lwm2m_payloads.proofs.arguments.are_read.Given as goal

abbrev pub invariant-loop-byte : goal.invariant-loop-byte
invariant-loop-byte l = run l.place (drop l.byte-index l.payload) ≡ run Start l.payload
