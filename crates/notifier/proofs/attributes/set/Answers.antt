use Rattle.std.proofs.Common.{FitsSigned, ◌∙◌, ap, rules}
use Rattle.std.specs.Int.{w64}
use Rattle.std.specs.FinMap as map
use Rattle.std.proofs.lemmas.Int.{to_z-of_z}
use Rattle.lemmas.proofs.Results.{on_err}
use Rattle.object_defs.proofs.MapLaws.{get_entries, one_put}
use Rattle.notifier.specs.Inside.{numbers_in}
use Rattle.notifier.proofs.Keys.{key_total, key_exact}
use Rattle.notifier.proofs.attributes.set.Goals as goal

pub returns-clause-ok : goal.returns-clause-ok
returns-clause-ok c =
    let fits : FitsSigned w64 c.args.number = search rules in
    one_put key_total key_exact c.args.numbers.now.entries c.insert.new.self.entries c.args.key _
    c.in_ok-insert.ensures.updates.0
    ∙ ap (map.insert (numbers_in c.args.numbers.now.entries) c.args.key) (to_z-of_z w64 c.args.number fits)

pub returns-in_err-insert-clause-absent : goal.returns-in_err-insert-clause-absent
returns-in_err-insert-clause-absent c =
    on_err c.from_residual.result _
    (get_entries key_total c.args.numbers.now.entries c.args.key ∙ c.in_err-insert.ensures.absent)

pub returns-in_err-insert-clause-err : goal.returns-in_err-insert-clause-err
returns-in_err-insert-clause-err c =
    on_err c.from_residual.result _ (ap numbers_in c.in_err-insert.ensures.err)
