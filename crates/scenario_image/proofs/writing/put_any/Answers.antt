use Rattle.std.proofs.Common.{◌∙◌}
use Rattle.scenario_image.proofs.Fits.{spelled_short}
use Rattle.scenario_image.proofs.writing.put_any.Goals as goal

pub put_value-requires : goal.put_value-requires
put_value-requires c =
    c.is_good-known.ensures.good.0 (c.is_good-known.ensures.length ∙ spelled_short c.args.held.now c.requires)
