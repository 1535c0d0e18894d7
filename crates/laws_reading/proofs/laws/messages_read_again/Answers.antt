use Rattle.coap_codec.proofs.OneReading.{read_spelling}
use Rattle.laws_reading.proofs.laws.messages_read_again.Goals as goal

pub returns : goal.returns
returns c = λ m good. read_spelling m good
