use Rattle.std.proofs.Common.{false, refl}
use Rattle.fleet_link.proofs.Recordings.{recorded_less, recorded_more}
use Rattle.fleet_link.proofs.recording.Recording.note.Goals as goal

pub returns-then-not-has_room-clause-recorded : goal.returns-then-not-has_room-clause-recorded
returns-then-not-has_room-clause-recorded c =
    recorded_less c.args.self.now (record c.args.self.now { complete = false }) c.args.event
    (c.has_room.ensures.full c.if-not-has_room.true) (record { steps = refl; share = refl; left = refl }) refl

pub returns-clause-recorded : goal.returns-clause-recorded
returns-clause-recorded c =
    recorded_more c.args.self.now _ c.args.event c.size_of_event.result
    (c.has_room.ensures.room c.if-not-has_room.false) c.size_of_event.ensures refl c.push_reserved.ensures.items refl
    refl
