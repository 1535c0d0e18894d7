use Rattle.laws_device.proofs.Quiet.{due_ends, never_ends, quiet_ends, silence}
use Rattle.laws_device.proofs.ticking.quiet_ends_when_due.Goals as goal

pub returns-clause-first : goal.returns-clause-first
returns-clause-first c = quiet_ends

pub returns-clause-none : goal.returns-clause-none
returns-clause-none c = never_ends

pub returns-clause-said : goal.returns-clause-said
returns-clause-said c = due_ends

pub returns-clause-silent : goal.returns-clause-silent
returns-clause-silent c = silence
