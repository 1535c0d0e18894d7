use Rattle.std.proofs.Common.{◌≡◌, is_some, sym, ap, ◌∙◌, arith}
use Rattle.instance_store.specs.Stored.{value_at, value_count, has_instance}
use Rattle.instance_store.specs.Tree.{stored_from, instance_below}
use Rattle.instance_store.proofs.Answers.{true_if_ok}
use Rattle.instance_store.proofs.StoreLaws.{count-more, count-same, room_for, there_unless}
use Rattle.instance_store.proofs.store.Store.set.Goals as goal

pub overflow_add-self : goal.overflow_add-self
overflow_add-self c =
    let s = stored_from c.self.inside.objects in
    let there =
    true_if_ok _ _ (has_instance s (instance_below c.args.path)) c.in_ok-put_value.ensures.absent.1 in
    let fits =
    room_for s c.args.self.now c.args.path c.in_ok-put_value.field-0 _ c.self.view_is there
    c.in_ok-put_value.ensures.added c.if-branch.true (c.is_past_count.ensures.fits c.if-is_past_count.false) in
    omega (arith, fits, c.self.invariant)

pub invariant_of-self-then-branch : goal.invariant_of-self-then-branch
invariant_of-self-then-branch c =
    let s = stored_from c.self.inside.objects in
    let more =
    ap value_count c.in_ok-put_value.ensures.ok
    ∙ count-more s c.args.path c.args.value c.in_ok-put_value.field-0 c.in_ok-put_value.ensures.added
    c.if-branch.true in
    omega (arith, more, c.self.invariant)

pub invariant_of-self-else-branch : goal.invariant_of-self-else-branch
invariant_of-self-else-branch c =
    let s = stored_from c.self.inside.objects in
    c.self.invariant
    ∙ sym (ap value_count c.in_ok-put_value.ensures.ok
    ∙ count-same s c.args.path c.args.value (there_unless c.in_ok-put_value.field-0
    (is_some (value_at s c.args.path)) c.in_ok-put_value.ensures.added c.if-branch.false))
