use Rattle.std.proofs.Common.{◌≡◌, ◌∙◌, Some, ap, slice_get, slice_set, sym}
use Rattle.std.proofs.lemmas.Result.{on_ok_weaker}
use Rattle.lemmas.proofs.Lists.{item_at}
use Rattle.lemmas.proofs.Results.{on_err}
use Rattle.notifier.specs.Observed.{is_named}
use Rattle.notifier.specs.declared.observation.Observation.{Observation}
use Rattle.notifier.proofs.Places.{any_first, first_place}
use Rattle.notifier.proofs.SaidLaws.{inside, none_first}
use Rattle.device_notifications.specs.Outlooks.{outlook_of, outlooks_of}
use Rattle.device_notifications.proofs.Names.{known_of_all, known_of_others}
use Rattle.device_notifications.proofs.outlooks.say_named.Goals as goal

pub returns-in_default-clause-known : goal.returns-in_default-clause-known
returns-in_default-clause-known c =
    let os = c.args.observations.now.list in
    known_of_others c.args.client.now c.args.server c.args.token.now os c.args.observations.now.said c.requires
    (none_first (is_named c.args.server c.args.token.now) os (sym c.in_default.ensures))

pub returns-clause-known : goal.returns-clause-known
returns-clause-known c =
    let client = c.args.client.now in
    let os = c.args.observations.now.list in
    let ss = c.args.observations.now.said in
    let place = c.in-Some.place in
    let next = c.say.new.observations in
    let named = is_named c.args.server c.args.token.now in
    let first = first_place named os place (sym c.in-Some.ensures) in
    let here = item_at os place (inside named os place first) in
    let known : ((o : Observation) → slice_get os place ≡ Some o → next.said ≡ slice_set ss place (outlook_of client o))
    → next.said ≡ outlooks_of client next.list =
    λ said. said here.0 here.1
    ∙ known_of_all client c.args.server c.args.token.now os ss place here.0 c.requires c.len-known.ensures.names first
    here.1
    ∙ ap (λ xs. outlooks_of client xs) (sym c.say.ensures.list) in
    on_ok_weaker c.say.result known c.say.ensures.said

pub returns-clause-may_lack_memory : goal.returns-clause-may_lack_memory
returns-clause-may_lack_memory c =
    let os = c.args.observations.now.list in
    let named = is_named c.args.server c.args.token.now in
    on_err c.say.result _ (any_first named os c.in-Some.place (first_place named os c.in-Some.place
    (sym c.in-Some.ensures)))
