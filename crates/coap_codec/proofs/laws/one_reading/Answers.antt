use Rattle.coap_codec.proofs.OneReading.{one_message, one_fault, never_both, reading_of_spelled, reading_of_fault}
use Rattle.coap_codec.proofs.Soundness.{spelled_from_reading, fault_from_reading}
use Rattle.coap_codec.proofs.laws.one_reading.Goals as goal

pub returns-clause-message : goal.returns-clause-message
returns-clause-message c = one_message

pub returns-clause-fault : goal.returns-clause-fault
returns-clause-fault c = one_fault

pub returns-clause-never_both : goal.returns-clause-never_both
returns-clause-never_both c = never_both

pub returns-clause-reads_message : goal.returns-clause-reads_message
returns-clause-reads_message c = λ bytes all m. (spelled_from_reading bytes m all, reading_of_spelled bytes m)

pub returns-clause-reads_fault : goal.returns-clause-reads_fault
returns-clause-reads_fault c = λ bytes all f. (fault_from_reading bytes f all, reading_of_fault bytes f)
