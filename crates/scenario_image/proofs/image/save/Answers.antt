use Rattle.std.proofs.Common.{◌++◌, ap, ◌∙◌}
use Rattle.byte_layout.proofs.Whole.{whole_again}
use Rattle.scenario_image.specs.Image.{image}
use Rattle.scenario_image.proofs.Imaged.{image_exact}
use Rattle.scenario_image.proofs.image.save.Goals as goal

pub returns-clause-image : goal.returns-clause-image
returns-clause-image c = (
  c.in_ok-put_image.ensures.good,
  c.in_ok-put_image.ensures.bytes ∙ ap (λ front. front ++ image.spell (2, c.args.scenario.now))
      c.new-out.ensures.items,
)

pub returns-clause-again : goal.returns-clause-again
returns-clause-again c =
    whole_again image image_exact c.put_image.new.out.items (2, c.args.scenario.now) (
      c.in_ok-put_image.ensures.good,
      c.in_ok-put_image.ensures.bytes ∙ ap (λ front. front ++ image.spell (2, c.args.scenario.now))
          c.new-out.ensures.items,
    )
