use Rattle.std.proofs.Common.{◌∙◌, ap, subst, sym, true≢false}
use Rattle.std.proofs.lemmas.Result.{on_err_weaker, on_ok_weaker}
use Rattle.std.specs.List.{list_any}
use Rattle.notifier.specs.Attributes.{sets_new, with_changes}
use Rattle.notifier.specs.Inside.{AreOfDistinctNames, numbers_in}
use Rattle.notifier.proofs.AttributeLaws.{by_name, distinct_names, new_by_name}
use Rattle.notifier.proofs.attributes.write_changes.Goals as goal

pub apply_changes-requires : goal.apply_changes-requires
apply_changes-requires c =
    let after =
    with_changes (numbers_in c.args.numbers.now.entries) c.args.server c.args.path c.args.changes.now in
    record {
      distinct = subst AreOfDistinctNames (sym c.changes_by_name-by_name.ensures)
          (distinct_names after c.args.server c.args.path);
    }

pub returns-clause-ok : goal.returns-clause-ok
returns-clause-ok c =
    let old = numbers_in c.args.numbers.now.entries in
    on_ok_weaker c.apply_changes.result
    (λ h. h ∙ ap (with_changes old c.args.server c.args.path) c.changes_by_name-by_name.ensures
    ∙ by_name old c.args.server c.args.path c.args.changes.now) c.apply_changes.ensures.ok

pub returns-clause-may_lack_memory : goal.returns-clause-may_lack_memory
returns-clause-may_lack_memory c =
    let old = numbers_in c.args.numbers.now.entries in
    on_err_weaker c.apply_changes.result
    (λ h. new_by_name old c.args.server c.args.path c.args.changes.now
    (ap (list_any (sets_new old c.args.server c.args.path)) (sym c.changes_by_name-by_name.ensures) ∙ h))
    c.apply_changes.ensures.may_lack_memory

pub returns-clause-only_with_changes : goal.returns-clause-only_with_changes
returns-clause-only_with_changes c =
    on_err_weaker c.apply_changes.result
    (λ h none. true≢false (sym (new_by_name (numbers_in c.args.numbers.now.entries) c.args.server c.args.path
    c.args.changes.now
    (ap (list_any (sets_new (numbers_in c.args.numbers.now.entries) c.args.server c.args.path))
    (sym c.changes_by_name-by_name.ensures) ∙ h)) ∙ ap (list_any _) none))
    c.apply_changes.ensures.may_lack_memory
