use Rattle.scenario_words.proofs.Cuts.{place_found}
use Rattle.scenario_words.proofs.cutting.place_of.Goals as goal

pub returns : goal.returns
returns c = place_found c.args.byte c.args.bytes.now c.memchr.result c.memchr.ensures
