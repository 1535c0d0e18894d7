use Rattle.laws_requests.proofs.PartBack.{part_read}
use Rattle.laws_requests.proofs.laws.reads_the_part_that_was_written.Goals as goal

pub returns : goal.returns
returns c = part_read
