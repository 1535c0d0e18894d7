use Rattle.laws_requests.proofs.Doing.{done_is_changed}
use Rattle.laws_requests.proofs.laws.requests_change_what_they_ask.Goals as goal

pub returns : goal.returns
returns c = done_is_changed
