use Rattle.laws_reading.proofs.WrongNames.{con_named, kinds_named, mandatory_named, multiple_named}
use Rattle.laws_reading.proofs.WrongNames.{operations_named}
use Rattle.laws_reading.proofs.WrongNumbers.{bytes_hex, integers_fit, links_paired, numbers_within, paths_slashed}
use Rattle.laws_reading.proofs.WrongNumbers.{texts_quoted}
use Rattle.laws_reading.proofs.laws.wrong_words_are_said.Goals as goal

pub returns-clause-con : goal.returns-clause-con
returns-clause-con c = con_named

pub returns-clause-operations : goal.returns-clause-operations
returns-clause-operations c = operations_named

pub returns-clause-multiple : goal.returns-clause-multiple
returns-clause-multiple c = multiple_named

pub returns-clause-mandatory : goal.returns-clause-mandatory
returns-clause-mandatory c = mandatory_named

pub returns-clause-kinds : goal.returns-clause-kinds
returns-clause-kinds c = kinds_named

pub returns-clause-numbers : goal.returns-clause-numbers
returns-clause-numbers c = numbers_within

pub returns-clause-integers : goal.returns-clause-integers
returns-clause-integers c = integers_fit

pub returns-clause-paths : goal.returns-clause-paths
returns-clause-paths c = paths_slashed

pub returns-clause-links : goal.returns-clause-links
returns-clause-links c = links_paired

pub returns-clause-bytes : goal.returns-clause-bytes
returns-clause-bytes c = bytes_hex

pub returns-clause-texts : goal.returns-clause-texts
returns-clause-texts c = texts_quoted
