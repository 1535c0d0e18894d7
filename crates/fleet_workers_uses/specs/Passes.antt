-- What is known of a pass between the calls of a worker.
use Rattle.std.specs.Prelude.{◌≡◌, ◌+◌, Some}
use Rattle.scenario_image.specs.Scenario.{Scenario}
use Rattle.ticket_lock.specs.declared.rule.TheConstants.{NUMBERS}
use Rattle.worker_visits.specs.Knowing.{PassView}

-- the pass has the number 1 alone, and is of the trace of this scenario
abbrev pub IsFirst : Scenario → PassView → Type 0
IsFirst s v = (v.low ≡ 1) × (v.count ≡ 1) × (v.subject ≡ Some s)

-- the pass has all numbers from 2 on, and is of the trace of this scenario
abbrev pub IsSecond : Scenario → PassView → Type 0
IsSecond s v = (v.low ≡ 2) × (v.count + 1 ≡ NUMBERS) × (v.subject ≡ Some s)

-- the pass has the same numbers, and is of the same trace
abbrev pub IsSame : PassView → PassView → Type 0
IsSame old new = (new.low ≡ old.low) × (new.count ≡ old.count) × (new.subject ≡ old.subject)
