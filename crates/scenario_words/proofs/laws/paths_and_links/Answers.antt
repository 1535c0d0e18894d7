use Rattle.scenario_words.proofs.PathLaws.{path_law, link_law}
use Rattle.scenario_words.proofs.laws.paths_and_links.Goals as goal

pub returns-clause-path : goal.returns-clause-path
returns-clause-path c = λ w p. path_law w p

pub returns-clause-link : goal.returns-clause-link
returns-clause-link c = λ w o i. link_law w o i
