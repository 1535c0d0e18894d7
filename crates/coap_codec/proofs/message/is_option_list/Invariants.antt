use Rattle.std.proofs.Common.{◌↔◌, drop}
use Rattle.coap_codec.specs.Message.{IsOptionList}
use Rattle.coap_codec.proofs.message.is_option_list.Given as goal

-- what is left decides
abbrev pub invariant-loop-option : goal.invariant-loop-option
invariant-loop-option l = IsOptionList 0 l.options ↔ IsOptionList l.number (drop l.option-index l.options)
