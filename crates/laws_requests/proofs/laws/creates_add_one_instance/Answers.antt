use Rattle.laws_requests.proofs.Creating.{creates_add}
use Rattle.laws_requests.proofs.laws.creates_add_one_instance.Goals as goal

pub returns : goal.returns
returns c = creates_add
