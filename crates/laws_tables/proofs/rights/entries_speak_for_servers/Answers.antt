use Rattle.laws_tables.proofs.Entries.{default_for_rest, entries_for_one, rights_granted}
use Rattle.laws_tables.proofs.rights.entries_speak_for_servers.Goals as goal

pub returns-clause-rights : goal.returns-clause-rights
returns-clause-rights c = rights_granted

pub returns-clause-own : goal.returns-clause-own
returns-clause-own c = entries_for_one

pub returns-clause-rest : goal.returns-clause-rest
returns-clause-rest c = default_for_rest
