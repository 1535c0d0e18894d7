use Rattle.fleet_core.proofs.Sums.{made-append, posts-append, posts_later}
use Rattle.fleet_core.proofs.Valid.{posts_within}
use Rattle.fleet_core.proofs.laws.counts_add_up.Goals as goal

pub returns-clause-made : goal.returns-clause-made
returns-clause-made c = made-append

pub returns-clause-posts : goal.returns-clause-posts
returns-clause-posts c = posts-append

pub returns-clause-later : goal.returns-clause-later
returns-clause-later c = posts_later

pub returns-clause-most : goal.returns-clause-most
returns-clause-most c = posts_within
