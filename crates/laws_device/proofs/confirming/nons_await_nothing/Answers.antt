use Rattle.laws_device.proofs.Confirmed.{nons_ignore_acks, starts_with_nons, stays_with_nons, tick_sends_nons}
use Rattle.laws_device.proofs.confirming.nons_await_nothing.Goals as goal

pub returns-clause-starts : goal.returns-clause-starts
returns-clause-starts c = starts_with_nons

pub returns-clause-stays : goal.returns-clause-stays
returns-clause-stays c = stays_with_nons

pub returns-clause-sent : goal.returns-clause-sent
returns-clause-sent c = tick_sends_nons

pub returns-clause-ignored : goal.returns-clause-ignored
returns-clause-ignored c = nons_ignore_acks
