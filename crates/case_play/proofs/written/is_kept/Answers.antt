use Rattle.case_play.proofs.Zeros.{image_kept}
use Rattle.case_play.proofs.written.is_kept.Goals as goal

pub returns-in-Image : goal.returns-in-Image
returns-in-Image c =
    image_kept c.is_written_as.result c.args.kind c.args.file.now c.args.scenario.now c.in-Image.is
    c.is_written_as.ensures
