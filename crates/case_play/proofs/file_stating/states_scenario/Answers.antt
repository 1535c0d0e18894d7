use Rattle.case_play.proofs.Stated.{image_stated, scenario_kept}
use Rattle.case_play.proofs.file_stating.states_scenario.Goals as goal

pub returns-in-FaultOrOk : goal.returns-in-FaultOrOk
returns-in-FaultOrOk c =
    scenario_kept c.is_kept.result c.args.kind c.args.file.now c.args.stated.now c.args.below.now c.args.scenario.now
    c.in-FaultOrOk.is c.is_kept.ensures

pub returns-in-Image : goal.returns-in-Image
returns-in-Image c =
    image_stated c.is_image.result c.args.kind c.args.file.now c.args.stated.now c.args.below.now
    c.args.scenario.now _ c.as_slice.result.now c.in-Image.is c.as_slice.ensures c.is_image.ensures
