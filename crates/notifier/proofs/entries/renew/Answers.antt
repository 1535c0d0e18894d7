use Rattle.indexmap.proofs.CallerLemmas.{index_map_len-with_value_at}
use Rattle.std.proofs.Common.{sym, ap, ◌∙◌, slice_set}
use Rattle.std.specs.Map.{values_of}
use Rattle.notifier.specs.Observed.{is_named}
use Rattle.notifier.proofs.Places.{first_place}
use Rattle.notifier.proofs.ObservedLaws.{values-set_value_at, number_for-first, with_registered-first, next_fits}
use Rattle.notifier.proofs.ObservedLaws.{keyed_renewed}
use Rattle.notifier.proofs.entries.renew.Goals as goal

pub returns-clause-number : goal.returns-clause-number
returns-clause-number c =
    let first = first_place (is_named c.args.observation.server c.args.observation.token)
    (values_of c.args.entries.now.entries) c.args.place c.requires.held in
    c.next_number-number.ensures
    ∙ sym (number_for-first (values_of c.args.entries.now.entries) c.args.observation.server c.args.observation.token
    c.args.place c.index.result.now first c.index.ensures)

pub returns-clause-values : goal.returns-clause-values
returns-clause-values c =
    let first = first_place (is_named c.args.observation.server c.args.observation.token)
    (values_of c.args.entries.now.entries) c.args.place c.requires.held in
    values-set_value_at c.args.entries.now.entries c.args.place _
    ∙ ap (λ n. slice_set (values_of c.args.entries.now.entries) c.args.place (record c.args.observation { number = n }))
    c.next_number-number.ensures
    ∙ sym (with_registered-first (values_of c.args.entries.now.entries) c.args.observation c.index.result.now
    c.args.place
    first c.index.ensures)

pub returns-clause-keyed : goal.returns-clause-keyed
returns-clause-keyed c =
    let first = first_place (is_named c.args.observation.server c.args.observation.token)
    (values_of c.args.entries.now.entries) c.args.place c.requires.held in
    keyed_renewed c.args.entries.now.entries c.args.place c.index.result.now
    (record c.args.observation { number = c.next_number-number.result }) c.requires.keyed first c.index.ensures
    (next_fits c.index.result.now.number c.next_number-number.result c.next_number-number.ensures)

pub returns-clause-len : goal.returns-clause-len
returns-clause-len c = index_map_len-with_value_at c.args.entries.now c.args.place _
