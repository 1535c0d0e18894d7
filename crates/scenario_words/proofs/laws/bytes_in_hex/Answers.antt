use Rattle.scenario_words.proofs.Pairs.{hex_law, hex_written}
use Rattle.scenario_words.proofs.laws.bytes_in_hex.Goals as goal

pub returns-clause-read : goal.returns-clause-read
returns-clause-read c = λ w bs. hex_law w bs

pub returns-clause-written : goal.returns-clause-written
returns-clause-written c = λ bs h. hex_written bs h
