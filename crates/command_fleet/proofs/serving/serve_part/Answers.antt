use Rattle.std.proofs.Common.{◌≡◌, ◌⊎◌, ◌∙◌, ap, inl, rules, subst, sym, true}
use Rattle.std.proofs.lemmas.Result.{err_from_is_err_and}
use Rattle.fleet_lines.specs.Counting.{AreAllShown, WatchedPorts}
use Rattle.command_files.specs.World.{Streams, World}
use Rattle.command_files.specs.declared.fault.Fault.TheVariants as faults
use Rattle.command_fleet.proofs.Kept.{kept_at}
use Rattle.command_fleet.proofs.Sessions.{broken_at_start, ended_so, none_asked, serving_cut}
use Rattle.command_fleet.proofs.Settled.{account_as, fleet_as, repeated_as}
use Rattle.command_fleet.specs.Fleet.{IsBrokenOff}
use Rattle.command_fleet.specs.Snapshots.{AreKept}
use Rattle.command_fleet.proofs.Told.{cut_off, cut_traffic, none_told, told_as}
use Rattle.command_fleet.proofs.serving.serve_part.Goals as goal

pub returns-in-Some-clause-fleet : goal.returns-in-Some-clause-fleet
returns-in-Some-clause-fleet g c =
    let told = g.P.Ports.told c.args.ports.now in
    let part = c.args.part.now in
    let played = c.args.asked.now.play in
    fleet_as part played told _ _ _ _ _ c.tell_traffic.ensures.same
    (c.in-Ok.ensures.fleet part played told
    (c.in_ok-go_on.ensures.fleet part played told (c.in_ok-fleet.ensures.fleet told)))

pub returns-in-Some-clause-finished : goal.returns-in-Some-clause-finished
returns-in-Some-clause-finished g c =
    let told = g.P.Ports.told c.args.ports.now in
    let part = c.args.part.now in
    let played = c.args.asked.now.play in
    c.in-Ok.ensures.finished part played told
    (c.in_ok-go_on.ensures.fleet part played told (c.in_ok-fleet.ensures.fleet told))

pub returns-in-Some-clause-repeated : goal.returns-in-Some-clause-repeated
returns-in-Some-clause-repeated g c =
    let told = g.P.Ports.told c.args.ports.now in
    let part = c.args.part.now in
    let played = c.args.asked.now.play in
    let were = c.in_ok-fleet.ensures.fleet told in
    let are = c.in-Ok.ensures.fleet part played told (c.in_ok-go_on.ensures.fleet part played told were) in
    repeated_as c.in_ok-fleet.fleet.slots.items c.finish.new.self.slots.items _ (are.count ∙ sym were.count)
    (λ e. c.finish.ensures.went.repeats e ∙ c.in_ok-go_on.ensures.repeats e) c.in_ok-fleet.ensures.repeated

pub returns-in-Some-clause-ended : goal.returns-in-Some-clause-ended
returns-in-Some-clause-ended g c =
    let read = g.C.Seconds.read c.args.clock.now in
    let asked = g.P.Ports.asked c.args.ports.now in
    let none = none_asked read asked c.in_ok-fleet.fleet.began c.in_ok-fleet.fleet.second c.in_ok-fleet.ensures.began
    c.in_ok-fleet.ensures.second in
    ended_so c.args.asked.now.seconds (g.Q.Quit.asked c.go_on.new.quit ≡ true) c.go_on.new.fleet.second
    c.finish.new.self.second read _ asked _ c.go_on.new.fleet.began c.finish.ensures.second
    (c.in_ok-go_on.ensures.stop read asked 0 none)

pub returns-in-Some-clause-account : goal.returns-in-Some-clause-account
returns-in-Some-clause-account g c =
    let fixed = c.watched_is_fixed.ensures _ _ c.finish.ensures.fixed in
    account_as _ _ _ _ _
    (c.tell_traffic.ensures.wire ∙ ap (λ (w : WatchedPorts). w.wire) fixed ∙ c.in_ok-go_on.ensures.wire)
    (c.in-Some.ensures.account c.tell_traffic.ensures.none_left.0)

pub returns-in-Some-clause-shown : goal.returns-in-Some-clause-shown
returns-in-Some-clause-shown g c =
    let fixed = c.watched_is_fixed.ensures _ _ c.finish.ensures.fixed in
    let began = c.tell_traffic.ensures.began ∙ ap (λ (w : WatchedPorts). w.began) fixed ∙ c.in_ok-go_on.ensures.began in
    subst (λ b. ∥ AreAllShown b (g.P.Ports.told c.tell_traffic.new.ports)
    (g.P.Counted.watched c.tell_traffic.new.ports).shown ∥₁) began
    (c.in-Some.ensures.shown c.tell_traffic.ensures.none_left.1)

pub returns-in-Some-clause-told : goal.returns-in-Some-clause-told
returns-in-Some-clause-told g c =
    let first : Streams = (g.W.World.seen c.args.world.now).streams in
    let none = none_told c.args.telling _ _ c.in_ok-fleet.fleet.second first c.requires.no_notes c.requires.none_shown
    c.in_ok-fleet.ensures.second in
    let fixed = c.watched_is_fixed.ensures _ _ c.finish.ensures.fixed in
    c.in_ok-tell_traffic.ensures.told first c.finish.new.self.second
    (told_as c.args.telling _ _ _ _ c.go_on.new.fleet.second c.finish.new.self.second first _
    (c.in_ok-go_on.ensures.told first none) (ap (λ (w : WatchedPorts). w.notes) fixed)
    (ap (λ (w : WatchedPorts). w.shown) fixed)
    c.finish.ensures.second)

pub returns-in-Err-clause-cut : goal.returns-in-Err-clause-cut
returns-in-Err-clause-cut g c =
    let refuses = g.W.Files.refuses in
    let streams = g.W.World.faults in
    let first : World = g.W.World.seen c.args.world.now in
    let last : World = g.W.World.seen c.go_on.new.world in
    let asked = c.args.asked.now in
    let part = c.args.part.now in
    let ports = g.P.Ports.told c.args.ports.now in
    let none = none_told c.args.telling _ _ c.in_ok-fleet.fleet.second first.streams c.requires.no_notes
    c.requires.none_shown c.in_ok-fleet.ensures.second in
    let kept = c.in_ok-go_on.ensures.kept ports (c.in_ok-fleet.ensures.fleet ports) c.in_ok-fleet.ensures.repeated in
    serving_cut c.args.telling refuses streams asked part ports c.go_on.new.fleet.second kept.0 first last
    c.from.result.fault
    (cut_off c.args.telling streams _ _ c.go_on.new.fleet.second first.streams last.streams c.from.result.fault
    (c.in_ok-go_on.ensures.told first.streams none)
    (subst (λ f. (f ≡ faults.Memory) ⊎ (f ≡ faults.Bind)) (sym c.from.ensures) c.fault_of.ensures)) kept.1

pub returns-in_err-tell_traffic-clause-cut : goal.returns-in_err-tell_traffic-clause-cut
returns-in_err-tell_traffic-clause-cut g c =
    let refuses = g.W.Files.refuses in
    let streams = g.W.World.faults in
    let first : World = g.W.World.seen c.args.world.now in
    let between : World = g.W.World.seen c.go_on.new.world in
    let last : World = g.W.World.seen c.tell_traffic.new.world in
    let asked = c.args.asked.now in
    let part = c.args.part.now in
    let ports = g.P.Ports.told c.args.ports.now in
    let none = none_told c.args.telling _ _ c.in_ok-fleet.fleet.second first.streams c.requires.no_notes
    c.requires.none_shown c.in_ok-fleet.ensures.second in
    let kept = c.in_ok-go_on.ensures.kept ports (c.in_ok-fleet.ensures.fleet ports) c.in_ok-fleet.ensures.repeated in
    let why = c.in_err-tell_traffic.ensures.refused in
    let fault = c.in_err-tell_traffic.field-0.0.fault in
    let h : IsBrokenOff c.args.telling refuses streams asked part ports first last fault =
    serving_cut c.args.telling refuses streams asked part ports c.go_on.new.fleet.second kept.0 first last fault
    (cut_traffic c.args.telling streams _ why.0 _ why.1 c.go_on.new.fleet.second first.streams between.streams
    last.streams fault (c.in_ok-go_on.ensures.told first.streams none)
    (why.2, c.tell_traffic.ensures.only.2))
    (kept_at asked part ports _ _ first.made _ last.made c.tell_traffic.ensures.only.0 kept.1) in
    let r = c.from_residual-in_err-tell_traffic in
    let p = err_from_is_err_and r.result r.ensures.1 in
    rw (p.1, p.2) h

pub returns-clause-cut : goal.returns-clause-cut
returns-clause-cut g c =
    let refuses = g.W.Files.refuses in
    let streams = g.W.World.faults in
    let first : World = g.W.World.seen c.args.world.now in
    let last : World = g.W.World.seen c.tell_traffic.new.world in
    let asked = c.args.asked.now in
    let part = c.args.part.now in
    let ports = g.P.Ports.told c.args.ports.now in
    let none = none_told c.args.telling _ _ c.in_ok-fleet.fleet.second first.streams c.requires.no_notes
    c.requires.none_shown c.in_ok-fleet.ensures.second in
    let kept = c.in_ok-go_on.ensures.kept ports (c.in_ok-fleet.ensures.fleet ports) c.in_ok-fleet.ensures.repeated in
    let fixed = c.watched_is_fixed.ensures _ _ c.finish.ensures.fixed in
    let second = c.finish.new.self.second in
    let told = c.in_ok-tell_traffic.ensures.told first.streams second
    (told_as c.args.telling _ _ _ _ c.go_on.new.fleet.second second first.streams _
    (c.in_ok-go_on.ensures.told first.streams none) (ap (λ (w : WatchedPorts). w.notes) fixed)
    (ap (λ (w : WatchedPorts). w.shown) fixed) c.finish.ensures.second) in
    serving_cut c.args.telling refuses streams asked part ports second kept.0 first last c.from-in-None.result.fault
    (cut_off c.args.telling streams _ _ second first.streams last.streams c.from-in-None.result.fault told
    (inl c.from-in-None.ensures))
    (kept_at asked part ports _ _ first.made _ last.made c.tell_traffic.ensures.only.0
    (subst (λ n. AreKept asked part ports kept.0 n first.made (g.W.World.seen c.go_on.new.world).made)
    (sym c.finish.ensures.second) kept.1))

pub returns-in_err-fleet-clause-cut : goal.returns-in_err-fleet-clause-cut
returns-in_err-fleet-clause-cut g c =
    let refuses = g.W.Files.refuses in
    let streams = g.W.World.faults in
    let first : World = g.W.World.seen c.args.world.now in
    let h = broken_at_start c.args.telling refuses streams c.args.asked.now c.args.part.now
    (g.P.Ports.told c.args.ports.now) first in
    search (rules, h)

pub returns-in_err-go_on-clause-cut : goal.returns-in_err-go_on-clause-cut
returns-in_err-go_on-clause-cut g c =
    let first : World = g.W.World.seen c.args.world.now in
    let asked = c.args.asked.now in
    let part = c.args.part.now in
    let ports = g.P.Ports.told c.args.ports.now in
    let none = none_told c.args.telling _ _ c.in_ok-fleet.fleet.second first.streams c.requires.no_notes
    c.requires.none_shown c.in_ok-fleet.ensures.second in
    let r = c.from_residual-in_err-go_on in
    let p = err_from_is_err_and r.result r.ensures.1 in
    rw (p.1, p.2) (c.in_err-go_on.ensures.cut first.streams ports none (c.in_ok-fleet.ensures.fleet ports)
    c.in_ok-fleet.ensures.repeated)

pub returns-in-Some-clause-kept : goal.returns-in-Some-clause-kept
returns-in-Some-clause-kept g c =
    let asked = c.args.asked.now in
    let part = c.args.part.now in
    let ports = g.P.Ports.told c.args.ports.now in
    let first = (g.W.World.seen c.args.world.now).made in
    let kept = c.in_ok-go_on.ensures.kept ports (c.in_ok-fleet.ensures.fleet ports) c.in_ok-fleet.ensures.repeated in (
      kept.0,
      kept_at asked part ports _ _ first _ _ c.tell_traffic.ensures.only.0
          (subst (λ n. AreKept asked part ports kept.0 n first (g.W.World.seen c.go_on.new.world).made)
          (sym c.finish.ensures.second) kept.1),
    )
