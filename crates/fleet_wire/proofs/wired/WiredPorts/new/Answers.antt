use Rattle.std.proofs.Common.{◌∙◌, ap, sym}
use Rattle.fleet_link.specs.Udp.{told_over_udp}
use Rattle.fleet_wire.specs.Happened.{happened_in}
use Rattle.fleet_wire.proofs.Overs.{fits_new}
use Rattle.fleet_wire.proofs.wired.WiredPorts.new.Goals as goal

pub invariant_of-result : goal.invariant_of-result
invariant_of-result c =
    let lossy = c.in_ok-lossy.lossy in
    record {
      over = fits_new c.args.plan c.args.devices lossy.wire (told_over_udp c.args.ports) (told_over_udp lossy.ports)
          c.requires c.in_ok-lossy.ensures.plan c.in_ok-lossy.ensures.wire;
      counted = c.nothing.ensures ∙ ap happened_in (sym c.in_ok-lossy.ensures.taken);
    }
