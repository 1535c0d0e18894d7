use Rattle.std.proofs.Common.{sym, ap, subst, ◌∙◌, arith, length}
use Rattle.std.proofs.lemmas.List.Edits.{length-remove}
use Rattle.std.specs.List.{AllByRecursion}
use Rattle.std.specs.Map.{values_of}
use Rattle.notifier.specs.Observed.{IsKeyed}
use Rattle.notifier.proofs.ObservedLaws.{values-remove, each-remove}
use Rattle.notifier.proofs.entries.remove_at.Goals as goal

pub returns-clause-values : goal.returns-clause-values
returns-clause-values c =
    ap values_of c.shift_remove_index.ensures.entries ∙ values-remove c.args.entries.now.entries c.args.place

pub returns-clause-keyed : goal.returns-clause-keyed
returns-clause-keyed c =
    subst (AllByRecursion IsKeyed) (sym c.shift_remove_index.ensures.entries)
    (each-remove IsKeyed c.args.entries.now.entries c.args.place c.requires.keyed)

pub returns-clause-len : goal.returns-clause-len
returns-clause-len c =
    let gone = length-remove c.args.entries.now.entries c.args.place (omega (arith, c.requires.within)) in
    omega (arith, ap length c.shift_remove_index.ensures.entries, gone)
