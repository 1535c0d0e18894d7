use Rattle.std.proofs.Common.{arith, refl}
use Rattle.instance_store.proofs.StoreLaws.{left_all, left_next, left_none, left_some}
use Rattle.instance_store.proofs.TreeLaws.{all_done}
use Rattle.instance_store.proofs.listing.is_bare.Goals as goal

pub loop-index-init : goal.loop-index-init
loop-index-init c = left_all c.args.objects.now

pub loop-index-preserved : goal.loop-index-preserved
loop-index-preserved c =
    left_next c.args.objects.now c.loop-index.index _ c.loop-index.invariant c.entry.ensures
    (omega (arith, c.len.ensures, c.if-len-gt0.false))

pub returns-then-len-gt0 : goal.returns-then-len-gt0
returns-then-len-gt0 c = (
  (λ h. absurd (cc)),
  λ e. absurd (left_some c.args.objects.now c.loop-index.index _ c.loop-index.invariant c.entry.ensures
      (omega (arith, c.len.ensures, c.if-len-gt0.true)) e),
)

pub returns : goal.returns
returns c = (
  (λ h. left_none c.args.objects.now c.loop-index.index c.loop-index.invariant
      (all_done c.args.objects.now c.loop-index.index c.len-index-end.result c.len-index-end.ensures
      c.loop-index-test.false)),
  λ e. refl,
)
