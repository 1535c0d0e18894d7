use Rattle.std.proofs.Common.{◌∙◌, ap, sym}
use Rattle.fleet_link.specs.Udp.{told_over_udp}
use Rattle.fleet_wire.specs.declared.wire.Wire.{Wire}
use Rattle.fleet_wire.specs.Happened.{happened_in}
use Rattle.fleet_wire.specs.Noting.{taken_in}
use Rattle.fleet_wire.specs.Over.{new_ports}
use Rattle.fleet_wire.proofs.Overs.{fits_on}
use Rattle.fleet_wire.proofs.wiring.WiredPortsPorts.receive.Goals as goal

pub invariant_of-self : goal.invariant_of-self
invariant_of-self c =
    let old = c.args.self.now.lossy in
    let new = c.receive.new.self in
    record {
      over = fits_on c.args.self.now.devices old.wire new.wire (told_over_udp old.ports) (told_over_udp new.ports)
          (c.receive.ensures.plan)
          (c.receive.ensures.wire old.wire.plan c.args.self.now.devices new_ports) c.args.self.now.over;
      counted = c.args.self.now.counted
          ∙ ap (λ t. happened_in (taken_in t)) (sym (c.receive.ensures.taken));
    }
