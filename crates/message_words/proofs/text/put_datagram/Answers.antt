use Rattle.std.proofs.Common.{rules}
use Rattle.message_words.proofs.Readings.{written}
use Rattle.message_words.proofs.text.put_datagram.Goals as goal

pub returns-in-Err : goal.returns-in-Err
returns-in-Err c =
    written c.put_fault.result _ _ c.args.bytes.now c.in-Err.fault c.in-Err.ensures.reading (search rules)
    c.put_fault.ensures
