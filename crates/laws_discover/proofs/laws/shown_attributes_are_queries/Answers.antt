use Rattle.laws_discover.proofs.LinkQueries.{parameters_are_queries}
use Rattle.laws_discover.proofs.WrittenBack.{written_back}
use Rattle.laws_discover.proofs.laws.shown_attributes_are_queries.Goals as goal

pub returns-clause-set : goal.returns-clause-set
returns-clause-set c = parameters_are_queries

pub returns-clause-unchanged : goal.returns-clause-unchanged
returns-clause-unchanged c = written_back
