use Rattle.std.proofs.Common.{append_assoc, append-nil}
use Rattle.command_files.proofs.refusal.word_then.Goals as goal

pub returns : goal.returns
returns c = simp (append_assoc, append-nil) c.format.ensures.ok
