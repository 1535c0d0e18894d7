use Rattle.laws_requests.proofs.Acting.{acts_asked}
use Rattle.laws_requests.proofs.laws.acts_are_asked.Goals as goal

pub returns : goal.returns
returns c = acts_asked
