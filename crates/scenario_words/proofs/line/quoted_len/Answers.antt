use Rattle.std.proofs.Common.{arith, sym, ◌∙◌}
use Rattle.scenario_words.proofs.Scanning.{quoted_first, next_byte}
use Rattle.scenario_words.proofs.line.quoted_len.Goals as goal

pub loop-len-init : goal.loop-len-init
loop-len-init c = record {
  within = omega arith;
  so_far = quoted_first c.args.line.now c.requires.some c.requires.quotes;
}

pub loop-len-preserved : goal.loop-len-preserved
loop-len-preserved c = record {
  within = omega arith;
  so_far =
      rw c.stays_quoted-quoted.ensures (next_byte c.args.line.now c.loop-len.quoted c.loop-len.len c.loop-len-test.true
      (sym c.if-is_in_word.ensures))
      ∙ c.loop-len.invariant.so_far;
}
