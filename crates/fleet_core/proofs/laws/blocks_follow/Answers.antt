use Rattle.fleet_core.proofs.Blocks.{block_follows, block_later, block_count, block_adds, block_others}
use Rattle.fleet_core.proofs.laws.blocks_follow.Goals as goal

pub returns-clause-follows : goal.returns-clause-follows
returns-clause-follows c = block_follows

pub returns-clause-later : goal.returns-clause-later
returns-clause-later c = block_later

pub returns-clause-count : goal.returns-clause-count
returns-clause-count c = block_count

pub returns-clause-adds : goal.returns-clause-adds
returns-clause-adds c = block_adds

pub returns-clause-others : goal.returns-clause-others
returns-clause-others c = block_others
