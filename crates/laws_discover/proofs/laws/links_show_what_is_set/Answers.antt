use Rattle.laws_discover.proofs.Parameters.{first_link_shows, other_links_show, parameters_in_order}
use Rattle.laws_discover.proofs.laws.links_show_what_is_set.Goals as goal

pub returns-clause-first : goal.returns-clause-first
returns-clause-first c = first_link_shows

pub returns-clause-others : goal.returns-clause-others
returns-clause-others c = other_links_show

pub returns-clause-order : goal.returns-clause-order
returns-clause-order c = parameters_in_order
