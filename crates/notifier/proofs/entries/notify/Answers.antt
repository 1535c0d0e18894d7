use Rattle.indexmap.proofs.CallerLemmas.{index_map_len-with_value_at}
use Rattle.std.proofs.Common.{refl, sym, ap, ◌∙◌, slice_set}
use Rattle.std.specs.Map.{values_of}
use Rattle.std.specs.Option.{is_some, option_map_or}
use Rattle.lemmas.proofs.Tests.{negated}
use Rattle.notifier.specs.Observed.{after_notification}
use Rattle.notifier.proofs.ObservedLaws.{values-set_value_at, next_fits, keyed_set}
use Rattle.notifier.proofs.entries.notify.Goals as goal

pub returns-clause-values : goal.returns-clause-values
returns-clause-values c =
    let all = values_of c.args.entries.now.entries in
    values-set_value_at c.args.entries.now.entries c.args.place _
    ∙ ap (λ b. slice_set all c.args.place (record
    (after_notification c.args.now c.args.mid c.args.report c.args.timer c.index_mut-observation.result.now) {
      number = c.next_number-number.result;
      non = b;
    }))
    (negated c.is_none-observation.result (is_some c.args.timer) c.is_none-observation.ensures)
    ∙ ap (λ n. slice_set all c.args.place (record
    (after_notification c.args.now c.args.mid c.args.report c.args.timer c.index_mut-observation.result.now)
    { number = n }))
    c.next_number-number.ensures
    ∙ ap (λ f. option_map_or (λ o. slice_set all c.args.place
    (after_notification c.args.now c.args.mid c.args.report c.args.timer o)) f all)
    (sym c.index_mut-observation.ensures.value)

pub returns-clause-keyed : goal.returns-clause-keyed
returns-clause-keyed c =
    keyed_set _ _ c.index_mut-observation.result.now _ c.requires.keyed c.index_mut-observation.ensures.value refl refl
    (next_fits c.index_mut-observation.result.now.number c.next_number-number.result c.next_number-number.ensures)

pub returns-clause-len : goal.returns-clause-len
returns-clause-len c = index_map_len-with_value_at c.args.entries.now c.args.place _
