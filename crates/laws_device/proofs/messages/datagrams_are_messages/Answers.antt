use Rattle.laws_device.proofs.Replied.{messages}
use Rattle.laws_device.proofs.Spelled.{starts}
use Rattle.laws_device.proofs.messages.datagrams_are_messages.Goals as goal

pub returns-clause-starts : goal.returns-clause-starts
returns-clause-starts c = starts

pub returns-clause-events : goal.returns-clause-events
returns-clause-events c = messages
