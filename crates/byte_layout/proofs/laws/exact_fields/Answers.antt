use Rattle.std.specs.Int.{w8, w16, w32, w64}
use Rattle.byte_layout.proofs.Fields.{raw_exact, number_exact, wide8, wide16, wide32, wide64}
use Rattle.byte_layout.proofs.Signed.{signed64_exact}
use Rattle.byte_layout.proofs.laws.exact_fields.Goals as goal

pub returns-clause-bytes : goal.returns-clause-bytes
returns-clause-bytes c = raw_exact

pub returns-clause-one_byte : goal.returns-clause-one_byte
returns-clause-one_byte c = number_exact w8 wide8

pub returns-clause-two_bytes : goal.returns-clause-two_bytes
returns-clause-two_bytes c = number_exact w16 wide16

pub returns-clause-four_bytes : goal.returns-clause-four_bytes
returns-clause-four_bytes c = number_exact w32 wide32

pub returns-clause-eight_bytes : goal.returns-clause-eight_bytes
returns-clause-eight_bytes c = number_exact w64 wide64

pub returns-clause-signed : goal.returns-clause-signed
returns-clause-signed c = signed64_exact
