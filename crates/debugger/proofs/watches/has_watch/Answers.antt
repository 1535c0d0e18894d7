use Rattle.std.proofs.lemmas.Bool.{false≢true}
use Rattle.debugger.proofs.Watching.{has_watched}
use Rattle.debugger.proofs.watches.has_watch.Goals as goal

pub returns-in-None : goal.returns-in-None
returns-in-None c = λ so. absurd (false≢true so)

pub returns-in-Some : goal.returns-in-Some
returns-in-Some c = λ so. has_watched c.args.watched.now c.args.device _ c.in-Some.ensures.some
