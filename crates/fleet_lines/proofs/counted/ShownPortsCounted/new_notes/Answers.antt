use Rattle.std.proofs.Common.{ap}
use Rattle.fleet_lines.specs.Counting.{shown_over}
use Rattle.fleet_lines.specs.Shown.{taken_shown, while_whole}
use Rattle.fleet_lines.proofs.Through.{shows_same}
use Rattle.fleet_lines.proofs.counted.ShownPortsCounted.new_notes.Goals as goal

pub invariant_of-self : goal.invariant_of-self
invariant_of-self g c =
    let s = c.args.self.now in
    record {
      shows = shows_same (g.P.Ports.told s.began.value) (g.P.Ports.told s.ports)
          (g.P.Ports.told c.new_notes.new.self) s.tape c.new_notes.ensures.told s.shows;
    }

pub returns-clause-told : goal.returns-clause-told
returns-clause-told g c = λ e. ap (while_whole c.args.self.now.tape.whole) (c.new_notes.ensures.told e)

pub returns-clause-asked : goal.returns-clause-asked
returns-clause-asked g c = ap (while_whole c.args.self.now.tape.whole) c.new_notes.ensures.asked

pub returns-clause-watched : goal.returns-clause-watched
returns-clause-watched g c =
    let s = c.args.self.now in
    ap (λ w. shown_over w (g.P.Ports.told s.began.value) (taken_shown s.tape.taken)) c.new_notes.ensures.watched
