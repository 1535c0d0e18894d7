use Rattle.laws_discover.proofs.LinkReading.{one_reading}
use Rattle.laws_discover.proofs.LinkTexts.{discovers_are_read, paths_are_read}
use Rattle.laws_discover.proofs.laws.discovers_are_read.Goals as goal

pub returns-clause-one : goal.returns-clause-one
returns-clause-one c = one_reading

pub returns-clause-links : goal.returns-clause-links
returns-clause-links c = discovers_are_read c.links_what_exists.ensures

pub returns-clause-paths : goal.returns-clause-paths
returns-clause-paths c = paths_are_read c.links_what_exists.ensures
