use Rattle.std.proofs.Common.{◌<◌, length, Contains, get_or, sym, ap, subst, ◌∙◌, arith}
use Rattle.std.proofs.lemmas.List.{length-set}
use Rattle.shared_trace.specs.Roster.{WaitersModel, no_waiters}
use Rattle.shared_trace.proofs.Waits.{read_here, listed_after}
use Rattle.shared_trace.proofs.roster.Roster.post.Goals as goal

pub returns : goal.returns
returns c =
    let within : c.from.result < length c.args.self.now.waiting.items = omega (arith, c.requires, c.from.ensures) in
    record {
      groups = length-set c.args.self.now.waiting.items c.from.result c.wake.new.self;
      candidates = c.wake.ensures.kept;
      woken = λ d n listed few.
          c.wake.ensures.woken d n
          (subst (λ (v : WaitersModel). Contains v.pairs (n, d))
          (ap (λ i. get_or c.args.self.now.waiting.items i no_waiters) (sym c.from.ensures)
          ∙ read_here c.args.self.now.waiting.items c.index_mut-queue.result.now c.wake.new.self c.from.result within
          c.index_mut-queue.ensures.value) listed) few;
      waiting = λ h d n listed more.
          listed_after c.args.self.now.waiting.items c.index_mut-queue.result.now c.wake.new.self c.from.result within
          c.index_mut-queue.ensures.value h d n
          (λ same has. c.wake.ensures.waiting d n has (more (sym c.from.ensures ∙ same))) listed;
    }
