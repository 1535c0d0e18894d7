use Rattle.command_words.proofs.Again.{acks, found_acks, found_mnemonics, mnemonics, others}
use Rattle.command_words.proofs.laws.spelled_is_said.Goals as goal

pub returns-clause-mnemonics : goal.returns-clause-mnemonics
returns-clause-mnemonics c = mnemonics

pub returns-clause-acks : goal.returns-clause-acks
returns-clause-acks c = acks

pub returns-clause-recv_as_mnemonic : goal.returns-clause-recv_as_mnemonic
returns-clause-recv_as_mnemonic c = found_mnemonics

pub returns-clause-recv_as_ack : goal.returns-clause-recv_as_ack
returns-clause-recv_as_ack c = found_acks

pub returns-clause-recv : goal.returns-clause-recv
returns-clause-recv c = others
