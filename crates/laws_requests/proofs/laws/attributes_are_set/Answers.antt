use Rattle.laws_requests.proofs.Annotating.{attributes_set}
use Rattle.laws_requests.proofs.laws.attributes_are_set.Goals as goal

pub returns : goal.returns
returns c = attributes_set
