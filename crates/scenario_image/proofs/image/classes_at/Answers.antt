use Rattle.std.proofs.Common.{[], sym, subst}
use Rattle.byte_layout.specs.Outcome.{Gives}
use Rattle.byte_layout.specs.Layout.{◌>>=◌, each}
use Rattle.scenario_layout.specs.Class.{class}
use Rattle.scenario_image.specs.Image.{classes}
use Rattle.scenario_image.proofs.image.classes_at.Goals as goal

pub returns : goal.returns
unfolding classes
returns c =
    subst (λ r. Gives (λ x. (x.0.items, x.1.now)) c.items_at.result
    (r >>= (λ x. (each (λ before. class c.args.version) x.0 []).read x.1)))
    (sym c.in_ok-count.ensures.read)
    (subst (λ n. Gives (λ x. (x.0.items, x.1.now)) c.items_at.result
    ((each (λ before. class c.args.version) n []).read c.in_ok-count.rest.now)) c.from.ensures c.items_at.ensures)
