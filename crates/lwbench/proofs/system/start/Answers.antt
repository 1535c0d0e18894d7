use Rattle.std.proofs.Common.{Global, map}
use Rattle.std.specs.String.{string_bytes}
use Rattle.lwbench.proofs.Started.{ended, within}
use Rattle.lwbench.proofs.system.start.Goals as goal

pub returns-clause-ended : goal.returns-clause-ended
returns-clause-ended g c = ended c.words_of-words.result _ _ _ c.conclude.ensures.ran c.conclude.ensures.unread

pub returns-clause-within : goal.returns-clause-within
returns-clause-within g c =
    within (λ w. map (string_bytes {Z = Global}) w.items) c.words_of-words.result _ _ _ _ _ _ _ c.conclude.ensures.ran
    c.conclude.ensures.unread
