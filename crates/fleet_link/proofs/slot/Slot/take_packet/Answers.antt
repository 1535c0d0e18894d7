use Rattle.std.proofs.Common.{◌∷◌, [], None, refl, subst, sym}
use Rattle.fleet_link.specs.Playing.{changes_of}
use Rattle.fleet_link.specs.Serving.{IsServing}
use Rattle.fleet_link.proofs.Stepped.{goes_then, heard_on}
use Rattle.fleet_link.proofs.slot.Slot.take_packet.Goals as goal

pub returns-clause-served : goal.returns-clause-served
returns-clause-served g c =
    let mid = c.catch_up.new.self in
    let told = g.P.Ports.told c.catch_up.new.ports c.args.place in
    λ f before h time le.
    heard_on c.take_event.result f before [] (changes_of mid.row) mid.row c.take_event.new.self.row
    c.take_event.new.self.device mid.second c.take_event.new.self.second c.take_event.new.self.recording
    (g.P.Ports.told c.take_event.new.ports c.args.place) refl c.take_event.ensures.row c.take_event.ensures.second
    (c.take_event.ensures.served f before [] (changes_of mid.row) tt
    (subst (λ n. IsServing f before (record { second = n; packet = c.args.packet } ∷ []) (changes_of mid.row) None
    mid.device mid.second mid.recording told) (sym (c.in_ok-catch_up.ensures.second le))
    (c.in_ok-catch_up.ensures.served f before (record { second = c.args.now; packet = c.args.packet } ∷ []) h time)))

pub returns-clause-goes_on : goal.returns-clause-goes_on
returns-clause-goes_on g c =
    goes_then c.args.now c.args.self.now.row c.catch_up.new.self.row c.take_event.new.self.row
    c.catch_up.ensures.goes_on
    c.take_event.ensures.row
