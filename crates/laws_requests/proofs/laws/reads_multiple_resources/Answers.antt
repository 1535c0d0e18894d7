use Rattle.laws_requests.proofs.Holding.{multiple_read}
use Rattle.laws_requests.proofs.MultipleBack.{multiple_back}
use Rattle.laws_requests.proofs.PartReading.{part_read_among}
use Rattle.laws_requests.proofs.laws.reads_multiple_resources.Goals as goal

pub returns-clause-held : goal.returns-clause-held
returns-clause-held c = multiple_read

pub returns-clause-written : goal.returns-clause-written
returns-clause-written c = multiple_back

pub returns-clause-part : goal.returns-clause-part
returns-clause-part c = part_read_among
