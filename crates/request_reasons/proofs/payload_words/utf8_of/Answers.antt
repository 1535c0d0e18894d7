use Rattle.std.proofs.Common.{rules}
use Rattle.scenario_words.proofs.QuoteLaws.{checked_utf8}
use Rattle.request_reasons.proofs.payload_words.utf8_of.Goals as goal

pub returns : goal.returns
returns c = checked_utf8 c.args.bytes.now c.ok.result (search rules)
