use Rattle.std.proofs.Common.{[], sym, subst}
use Rattle.byte_layout.specs.Outcome.{Gives}
use Rattle.byte_layout.specs.Layout.{◌>>=◌, each}
use Rattle.scenario_image.specs.Layout.{step, steps}
use Rattle.scenario_image.proofs.reading.steps_at.Goals as goal

pub returns : goal.returns
unfolding steps
returns c =
    subst (λ r. Gives (λ x. (x.0.items, x.1.now)) c.items_at.result
    (r >>= (λ x. (each (λ before. step c.args.accounts.now) x.0 []).read x.1)))
    (sym c.in_ok-count.ensures.read)
    (subst (λ n. Gives (λ x. (x.0.items, x.1.now)) c.items_at.result
    ((each (λ before. step c.args.accounts.now) n []).read c.in_ok-count.rest.now)) c.from.ensures
    c.items_at.ensures)
