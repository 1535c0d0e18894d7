use Rattle.std.proofs.Common.{◌≡◌, inl, inr, Some, IfSome, slice_get, sym, subst, arith, rules}
use Rattle.fleet_core.proofs.Queueing.{taken_or}
use Rattle.shared_trace.proofs.candidates.Candidates.take.Goals as goal

pub returns-then-eq-clause-others : goal.returns-then-eq-clause-others
returns-then-eq-clause-others c = λ d other was less.
    let is : c.lowest_woken.result ≡ Some c.args.device = search rules in
    let at : slice_get c.args.self.now.woken 0 ≡ Some c.args.device =
    subst (λ o. IfSome o (λ e. slice_get c.args.self.now.woken 0 ≡ Some e)) is c.lowest_woken.ensures.first in
    elim (taken_or c.args.self.now.woken c.drop_lowest.new.self.woken c.args.device d
    (c.drop_lowest.ensures.rest c.args.device at) (was (omega (arith, less, c.drop_lowest.ensures.fresh))))
    [ inl same ↦ absurd (other (sym same)) | inr there ↦ there ]
