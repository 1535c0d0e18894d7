use Rattle.std.proofs.Common.{◌≡◌, ◌≢◌, drop, take}
use Rattle.lwm2m_payloads.specs.declared.arguments.Place.TheVariants.{Start, Nowhere}
use Rattle.lwm2m_payloads.specs.Scanning.{run}
use Rattle.lwm2m_payloads.proofs.Stopping.{walk}
use Rattle.lwm2m_payloads.proofs.arguments.argument_fault.Given as goal

abbrev pub invariant-loop-byte : goal.invariant-loop-byte
invariant-loop-byte l = record {
  at : l.at ≡ l.byte-index;
  led : walk Start (take l.byte-index l.payload) ≡ l.place;
  some : l.place ≢ Nowhere;
  left : run l.place (drop l.byte-index l.payload) ≡ run Start l.payload;
}
