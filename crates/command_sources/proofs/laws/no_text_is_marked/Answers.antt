use Rattle.command_sources.proofs.Marks.{no_text}
use Rattle.command_sources.proofs.laws.no_text_is_marked.Goals as goal

pub returns : goal.returns
returns c = no_text
