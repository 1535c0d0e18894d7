use Rattle.laws_tables.proofs.FirmwareLines.{events, lines_hold, others_refused, starts}
use Rattle.laws_tables.proofs.firmware.firmware_follows_its_table.Goals as goal

pub returns-clause-lines : goal.returns-clause-lines
returns-clause-lines c = lines_hold

pub returns-clause-others : goal.returns-clause-others
returns-clause-others c = others_refused

pub returns-clause-writes : goal.returns-clause-writes
returns-clause-writes c = events

pub returns-clause-start : goal.returns-clause-start
returns-clause-start c = starts
