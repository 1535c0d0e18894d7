-- A datagram's words, for who knows the message or the fault that its bytes have.
use Rattle.std.proofs.Common.{◌≡◌, ◌≢◌, ◌++◌, ℕ, List, Result, Err, OnOk, ap, sym, ◌∙◌}
use Rattle.std.proofs.lemmas.Result.{IfOk-equal}
use Rattle.coap_codec.specs.declared.fault.CoapFault.{CoapFault}
use Rattle.coap_codec.specs.declared.fault.CoapFault.TheVariants.{Memory}
use Rattle.coap_codec.specs.Fault.{HasFault}
use Rattle.coap_codec.specs.Message.{Message, Spells}
use Rattle.coap_codec.specs.Reading.{reading_of}
use Rattle.coap_codec.proofs.OneReading.{reading_of_spelled, reading_of_fault}
use Rattle.message_words.specs.Text.{message_text, no_message, reading_text}

pub spelled : (text bytes : List ℕ) (m : Message) → text ≡ reading_text (reading_of bytes) → Spells bytes m
    → text ≡ message_text m
spelled text bytes m said spells = said ∙ ap reading_text (reading_of_spelled bytes m spells)

pub refused : (text bytes : List ℕ) (fault : CoapFault) → text ≡ reading_text (reading_of bytes)
    → HasFault bytes fault → text ≡ no_message fault
refused text bytes fault said has = said ∙ ap reading_text (reading_of_fault bytes fault has)

-- a fault that was written is what the bytes were read as
pub written : {X E : Type 0} (r : Result X E) (old new bytes : List ℕ) (fault : CoapFault)
    → (fault ≢ Memory → reading_of bytes ≡ Err fault) → fault ≢ Memory → OnOk r (new ≡ old ++ no_message fault)
    → OnOk r (new ≡ old ++ reading_text (reading_of bytes))
written r old new bytes fault read other said =
    IfOk-equal r new (old ++ no_message fault) (old ++ reading_text (reading_of bytes)) said
    (ap (λ t. old ++ t) (sym (ap reading_text (read other))))
