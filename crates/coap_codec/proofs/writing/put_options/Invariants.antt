use Rattle.std.proofs.Common.{◌≡◌, ◌++◌, drop}
use Rattle.coap_codec.specs.Message.{IsOptionList, options_bytes}
use Rattle.coap_codec.proofs.writing.put_options.Given as goal

-- what is still to come
abbrev pub invariant-loop-option : goal.invariant-loop-option
invariant-loop-option l = record {
  is_list : IsOptionList l.number (drop l.option-index l.options);
  whole : l.out.items ++ options_bytes l.number (drop l.option-index l.options) ≡ l.initial.out.items
      ++ options_bytes 0 l.options;
}
