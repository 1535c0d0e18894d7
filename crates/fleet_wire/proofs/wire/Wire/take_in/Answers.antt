use Rattle.std.proofs.Common.{refl, sym, ap, subst, ◌∙◌}
use Rattle.fleet_wire.specs.declared.lane.Lane.{Lane}
use Rattle.fleet_wire.specs.declared.plan.Direction.TheVariants.{In}
use Rattle.fleet_wire.specs.Lane.{came_by, AreLanes}
use Rattle.fleet_wire.specs.declared.note.Note.{Note}
use Rattle.fleet_wire.specs.Noting.{notes_by}
use Rattle.fleet_wire.proofs.Notes.{notes_more}
use Rattle.fleet_wire.proofs.Wires.{whole_from, wired_in}
use Rattle.fleet_wire.proofs.wire.Wire.take_in.Goals as goal

pub returns-in-None-clause-wired : goal.returns-in-None-clause-wired
returns-in-None-clause-wired c =
    λ plan devices before between after w idle carries.
    let s = c.args.self.now in
    let note : Note = record {
      device = c.args.arrival.device;
      direction = In;
      number = c.in-Ok.drawn.number;
      second = s.second;
      fate = c.in-Ok.drawn.fate;
    } in
    let mid = wired_in plan devices before between after s c.note.new.self c.args.arrival.device c.args.arrival.packet w
    idle
    (λ l later k. subst (AreLanes s.plan In devices s.second) (sym c.note.ensures.incoming)
    (c.in-Ok.ensures.lanes In devices s.second l later k))
    c.note.ensures.plan c.note.ensures.second c.note.ensures.outgoing c.note.ensures.calls
    (λ e. ap (λ (x : Lane). came_by x.log e) c.note.ensures.incoming ∙ c.in-Ok.ensures.came e) carries note refl
    (notes_more s c.note.new.self note c.note.ensures.taken c.in-Ok-note.ensures.noted)
    (λ l. ap (λ (x : Lane). notes_by s.plan In devices x.log) c.note.ensures.incoming
    ∙ c.in-Ok.ensures.notes In devices s.second l) in
    whole_from plan devices before after c.note.new.self c.hand_out.new.self mid
    (c.hand_out.ensures.wired plan devices before after mid.wired) c.hand_out.ensures.second c.hand_out.ensures.outgoing

pub returns-in-Some-clause-wired : goal.returns-in-Some-clause-wired
returns-in-Some-clause-wired c =
    λ plan devices before between after w idle carries.
    let s = c.args.self.now in
    let note : Note = record {
      device = c.args.arrival.device;
      direction = In;
      number = c.in-Ok.drawn.number;
      second = s.second;
      fate = c.in-Ok.drawn.fate;
    } in
    let mid = wired_in plan devices before between after s c.note.new.self c.args.arrival.device c.args.arrival.packet w
    idle
    (λ l later k. subst (AreLanes s.plan In devices s.second) (sym c.note.ensures.incoming)
    (c.in-Ok.ensures.lanes In devices s.second l later k))
    c.note.ensures.plan c.note.ensures.second c.note.ensures.outgoing c.note.ensures.calls
    (λ e. ap (λ (x : Lane). came_by x.log e) c.note.ensures.incoming ∙ c.in-Ok.ensures.came e) carries note refl
    (notes_more s c.note.new.self note c.note.ensures.taken c.in-Ok-note.ensures.noted)
    (λ l. ap (λ (x : Lane). notes_by s.plan In devices x.log) c.note.ensures.incoming
    ∙ c.in-Ok.ensures.notes In devices s.second l) in
    whole_from plan devices before after c.note.new.self c.hand_out.new.self mid
    (c.hand_out.ensures.wired plan devices before after mid.wired) c.hand_out.ensures.second c.hand_out.ensures.outgoing
