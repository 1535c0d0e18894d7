use Rattle.laws_requests.proofs.Deleting.{deletes_take}
use Rattle.laws_requests.proofs.laws.deletes_take_what_belongs.Goals as goal

pub returns : goal.returns
returns c = deletes_take
