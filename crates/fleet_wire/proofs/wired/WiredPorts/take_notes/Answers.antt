use Rattle.std.proofs.Common.{◌++◌, ◌∙◌, ap, sym}
use Rattle.fleet_link.specs.Udp.{told_over_udp}
use Rattle.fleet_wire.specs.Happened.{happened_in}
use Rattle.fleet_wire.specs.Noting.{taken_in}
use Rattle.fleet_wire.specs.Over.{new_ports}
use Rattle.fleet_wire.proofs.Overs.{fits_on}
use Rattle.fleet_wire.proofs.wired.WiredPorts.take_notes.Goals as goal

pub invariant_of-self : goal.invariant_of-self
invariant_of-self c =
    let old = c.args.self.now.lossy in
    let new = c.take_notes-notes.new.self in
    let taken = taken_in old.wire.taken in
    record {
      over = fits_on c.args.self.now.devices old.wire new.wire (told_over_udp old.ports) (told_over_udp new.ports)
          c.take_notes-notes.ensures.plan
          (c.take_notes-notes.ensures.wire old.wire.plan c.args.self.now.devices new_ports) c.args.self.now.over;
      counted = c.add_all.ensures taken c.args.self.now.counted
          ∙ ap happened_in (ap (λ l. taken ++ l) c.as_slice.ensures.value ∙ sym c.take_notes-notes.ensures.taken);
    }
