use Rattle.std.proofs.Common.{◌≡◌, ◌++◌, length}
use Rattle.coap_codec.specs.Message.{IsOptionList, options_bytes}
use Rattle.coap_codec.specs.Fault.{last_number}
use Rattle.coap_codec.proofs.OptionLists.{HasBegun}
use Rattle.coap_codec.proofs.reading.options_at.Given as goal

-- what was found, spelled, and what is left are all the bytes; nothing was looked at yet, or what stands first fits
abbrev pub invariant-loop-rest : goal.invariant-loop-rest
invariant-loop-rest l = record {
  is_list : IsOptionList 0 l.found.items;
  parts : l.bytes ≡ options_bytes 0 l.found.items ++ l.rest;
  last : l.number ≡ last_number 0 l.found.items;
  begun : HasBegun l.number l.rest l.bytes;
}

abbrev pub decreases-loop-rest : goal.decreases-loop-rest
decreases-loop-rest l = length l.rest
