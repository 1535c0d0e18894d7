use Rattle.std.proofs.Common.{◌∙◌, ap, arith, subst, sym}
use Rattle.std.specs.FinMap as map
use Rattle.lemmas.proofs.Lists.{empty_from_length}
use Rattle.lemmas.proofs.Results.{on_err}
use Rattle.notifier.specs.Attributes.{with_changes}
use Rattle.notifier.specs.Inside.{AreOfDistinctNames, numbers_in}
use Rattle.notifier.proofs.AttributeLaws.{first_is_new, later_is_new, made_first, made_last, still_there, undone}
use Rattle.notifier.proofs.attributes.+apply_changes.Goals as goal

pub returns-in_default-clause-ok : goal.returns-in_default-clause-ok
returns-in_default-clause-ok t c =
    sym (ap (with_changes (numbers_in c.args.numbers.now.entries) c.args.server c.args.path)
    (empty_from_length c.args.changes.now c.in_default.ensures.cases))

pub apply_changes-requires : goal.apply_changes-requires
apply_changes-requires t c = (
  omega (arith, c.in-Some.ensures.cases.1),
  (subst AreOfDistinctNames c.in-Some.ensures.cases.0 c.requires.distinct).1,
)

pub apply_changes-requires-2 : goal.apply_changes-requires-2
apply_changes-requires-2 t c = (
  omega (arith, c.in-Some.ensures.cases.1),
  (subst AreOfDistinctNames c.in-Some.ensures.cases.0 c.requires.distinct).1,
)

pub returns-in-Err-clause-err : goal.returns-in-Err-clause-err
returns-in-Err-clause-err t c =
    c.unset.ensures ∙ ap (λ n. map.remove n c.new-key.result) c.in-Err.ensures.err
    ∙ undone (numbers_in c.args.numbers.now.entries) _ c.new-key.result _
    (c.in_ok-set_absent.ensures.absent c.if-branch.true) (c.in_ok-set_absent.ensures.made c.if-branch.true)

pub returns-then-branch-clause-ok : goal.returns-then-branch-clause-ok
returns-then-branch-clause-ok t c =
    made_first (numbers_in c.args.numbers.now.entries) _ _ c.args.server c.args.path c.in-Some.change.now
    c.in-Some.later.now c.args.changes.now c.new-key.result c.in-Some.ensures.cases.0 c.new-key.ensures.key
    (c.in_ok-set_absent.ensures.made c.if-branch.true) c.in_default-apply_changes.ensures.ok

pub returns-in_err-apply_changes-clause-err : goal.returns-in_err-apply_changes-clause-err
returns-in_err-apply_changes-clause-err t c =
    on_err c.from_residual-in_err-apply_changes.result _
    (c.in_err-apply_changes.ensures.err ∙ c.in_ok-set_absent.ensures.kept c.if-branch.false)

pub replace-requires : goal.replace-requires
replace-requires t c =
    still_there (numbers_in c.args.numbers.now.entries) _ _ c.args.server c.args.path c.in-Some.change.now
    c.in-Some.later.now c.args.changes.now c.new-key.result c.in-Some.ensures.cases.0 c.requires.distinct
    c.new-key.ensures.key (c.in_ok-set_absent.ensures.kept c.if-branch.false) c.in_ok-apply_changes.ensures.ok
    (c.in_ok-set_absent.ensures.present c.if-branch.false)

pub returns-clause-ok : goal.returns-clause-ok
returns-clause-ok t c =
    made_last (numbers_in c.args.numbers.now.entries) _ _ c.args.server c.args.path c.in-Some.change.now
    c.in-Some.later.now c.args.changes.now c.new-key.result c.in-Some.ensures.cases.0 c.requires.distinct
    c.new-key.ensures.key (c.in_ok-set_absent.ensures.kept c.if-branch.false) c.in_ok-apply_changes.ensures.ok
    _ c.replace.ensures

pub returns-in_err-set_absent-clause-may_lack_memory : goal.returns-in_err-set_absent-clause-may_lack_memory
returns-in_err-set_absent-clause-may_lack_memory t c =
    on_err c.from_residual.result _
    (first_is_new (numbers_in c.args.numbers.now.entries) (numbers_in c.args.numbers.now.entries) c.args.server
    c.args.path c.in-Some.change.now c.in-Some.later.now c.args.changes.now c.new-key.result c.in-Some.ensures.cases.0
    c.new-key.ensures.key c.in_err-set_absent.ensures.may_lack_memory.0 c.in_err-set_absent.ensures.may_lack_memory.1)

pub returns-in-Err-clause-may_lack_memory : goal.returns-in-Err-clause-may_lack_memory
returns-in-Err-clause-may_lack_memory t c =
    first_is_new (numbers_in c.args.numbers.now.entries) (numbers_in c.args.numbers.now.entries) c.args.server
    c.args.path c.in-Some.change.now c.in-Some.later.now c.args.changes.now c.new-key.result c.in-Some.ensures.cases.0
    c.new-key.ensures.key (c.in_ok-set_absent.ensures.some c.if-branch.true)
    (c.in_ok-set_absent.ensures.absent c.if-branch.true)

pub returns-in_err-apply_changes-clause-may_lack_memory : goal.returns-in_err-apply_changes-clause-may_lack_memory
returns-in_err-apply_changes-clause-may_lack_memory t c =
    on_err c.from_residual-in_err-apply_changes.result _
    (later_is_new (numbers_in c.args.numbers.now.entries) _ c.args.server c.args.path c.in-Some.change.now
    c.in-Some.later.now c.args.changes.now c.new-key.result c.in-Some.ensures.cases.0
    (c.in_ok-set_absent.ensures.kept c.if-branch.false) c.in_err-apply_changes.ensures.may_lack_memory)
