use Rattle.scenario_mnemonics.proofs.Denoted.{one_mnemonic}
use Rattle.scenario_mnemonics.proofs.Candidates.{denotes}
use Rattle.scenario_mnemonics.proofs.laws.one_mnemonic.Goals as goal

pub returns-clause-denotes : goal.returns-clause-denotes
returns-clause-denotes c = λ bytes m h. denotes bytes m h

pub returns-clause-one : goal.returns-clause-one
returns-clause-one c = λ m k good other same. one_mnemonic m k good other same
