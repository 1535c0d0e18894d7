use Rattle.laws_tables.proofs.Levels.{lowest_has_effect, none_has_effect}
use Rattle.laws_tables.proofs.attributes.lowest_level_has_effect.Goals as goal

pub returns-clause-lowest : goal.returns-clause-lowest
returns-clause-lowest c = lowest_has_effect

pub returns-clause-none : goal.returns-clause-none
returns-clause-none c = none_has_effect
