use Rattle.std.proofs.Common.{arith, ◌∙◌}
use Rattle.scenario_words.proofs.Scanning.{plain_first, plain_more}
use Rattle.scenario_words.proofs.line.plain_len.Goals as goal

pub loop-len-init : goal.loop-len-init
loop-len-init c = record {
  within = omega arith;
  so_far = plain_first c.args.line.now c.requires.some c.requires.no_space c.requires.no_comment c.requires.no_quotes;
}

pub loop-len-preserved : goal.loop-len-preserved
loop-len-preserved c = record {
  within = omega arith;
  so_far =
      plain_more c.args.line.now c.loop-len.len c.loop-len-test.true c.if-line-len-ne32.true
      ∙ c.loop-len.invariant.so_far;
}
