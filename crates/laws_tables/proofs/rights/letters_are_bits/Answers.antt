use Rattle.laws_tables.proofs.Bits.{letters_bits}
use Rattle.laws_tables.proofs.rights.letters_are_bits.Goals as goal

pub returns-clause-bits : goal.returns-clause-bits
returns-clause-bits c = letters_bits
