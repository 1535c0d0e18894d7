use Rattle.device_requests.proofs.LinksExist.{links_exist}
use Rattle.device_requests.proofs.laws.links_what_exists.Goals as goal

pub returns : goal.returns
returns c = links_exist
