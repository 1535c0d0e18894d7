use Rattle.laws_discover.proofs.Ascending.{links_ascend, links_differ}
use Rattle.laws_discover.proofs.laws.links_ascend.Goals as goal

pub returns-clause-ascend : goal.returns-clause-ascend
returns-clause-ascend c = links_ascend

pub returns-clause-differ : goal.returns-clause-differ
returns-clause-differ c = links_differ
