use Rattle.std.proofs.Common.{refl, sym, ap, subst, ◌∙◌}
use Rattle.fleet_wire.specs.declared.lane.Lane.{Lane}
use Rattle.fleet_wire.specs.declared.plan.Direction.TheVariants.{Out}
use Rattle.fleet_wire.specs.Lane.{went_by, AreLanes}
use Rattle.fleet_wire.specs.declared.note.Note.{Note}
use Rattle.fleet_wire.specs.Noting.{notes_by}
use Rattle.fleet_wire.proofs.Notes.{notes_more}
use Rattle.fleet_wire.proofs.Wires.{if_ok, wired_out}
use Rattle.fleet_wire.proofs.wire.Wire.take_out.Goals as goal

pub returns-clause-wired : goal.returns-clause-wired
returns-clause-wired c =
    λ plan devices before after w.
    let s = c.args.self.now in
    let note : Note = record {
      device = c.args.device;
      direction = Out;
      number = c.in_ok-drawn.drawn.number;
      second = s.second;
      fate = c.in_ok-drawn.drawn.fate;
    } in
    if_ok c.note.result _ _ c.note.ensures.noted (λ noted.
    wired_out plan devices before after s c.note.new.self w
    (λ l later k. subst (AreLanes s.plan Out devices s.second) (sym c.note.ensures.outgoing)
    (c.in_ok-drawn.ensures.lanes Out devices s.second l later k))
    c.note.ensures.plan c.note.ensures.second c.note.ensures.incoming c.note.ensures.calls
    (λ e. ap (λ (x : Lane). went_by x.log e) c.note.ensures.outgoing ∙ c.in_ok-drawn.ensures.went e) note refl
    (notes_more s c.note.new.self note c.note.ensures.taken noted)
    (λ l. ap (λ (x : Lane). notes_by s.plan Out devices x.log) c.note.ensures.outgoing
    ∙ c.in_ok-drawn.ensures.notes Out devices s.second l))
