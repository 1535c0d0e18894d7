use Rattle.command_sources.proofs.Marks.{marked_image}
use Rattle.command_sources.proofs.laws.images_are_marked.Goals as goal

pub returns : goal.returns
returns c = marked_image
