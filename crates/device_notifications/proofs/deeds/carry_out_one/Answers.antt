use Rattle.std.proofs.Common.{◌≡◌, ◌+◌, ap, refl, slice_set, subst, sym, take, drop, ◌∙◌}
use Rattle.std.specs.Option.{option_map_or}
use Rattle.lemmas.proofs.Lists.{take_one_more}
use Rattle.notifier.specs.Said.{as_idle}
use Rattle.device_notifications.specs.Deeds.{Replaces, left_by, said_by}
use Rattle.device_notifications.proofs.Places.{dropped_twice, taken_twice}
use Rattle.device_notifications.proofs.deeds.carry_out_one.Goals as goal

pub returns-in-Stays-clause-list : goal.returns-in-Stays-clause-list
returns-in-Stays-clause-list c =
    let os = c.args.observations.now.list in
    λ o at. subst (λ d. Replaces os os (left_by c.args.clock o d) c.args.place (c.args.place + 1)) (sym c.in-Stays.is)
    (record { passed = take_one_more os c.args.place o at; coming = refl })

pub returns-in-Stays-clause-said : goal.returns-in-Stays-clause-said
returns-in-Stays-clause-said c =
    let ss = c.args.observations.now.said in
    λ s at. subst (λ d. Replaces ss ss (said_by s d) c.args.place (c.args.place + 1)) (sym c.in-Stays.is)
    (record { passed = take_one_more ss c.args.place s at; coming = refl })

pub returns-in-Notified-clause-said : goal.returns-in-Notified-clause-said
returns-in-Notified-clause-said c =
    let ss = c.args.observations.now.said in
    let i = c.args.place in
    λ s at.
    let noted : c.sent.new.self.said ≡ slice_set ss i (as_idle s) =
    c.sent.ensures.said ∙ ap (λ r. option_map_or (λ x. slice_set ss i (as_idle x)) r ss) at in
    let whole : c.pending.new.self.said ≡ slice_set (slice_set ss i (as_idle s)) i c.in-Notified.outlook =
    c.pending.ensures.said ∙ ap (λ xs. slice_set xs i c.in-Notified.outlook) noted in
    subst (λ d. Replaces ss c.pending.new.self.said (said_by s d) i (i + 1)) (sym c.in-Notified.is)
    (record {
      passed = ap (λ xs. take (i + 1) xs) whole ∙ taken_twice ss i s (as_idle s) c.in-Notified.outlook at;
      coming = ap (λ xs. drop (i + 1) xs) whole ∙ dropped_twice ss i (as_idle s) c.in-Notified.outlook;
    })
