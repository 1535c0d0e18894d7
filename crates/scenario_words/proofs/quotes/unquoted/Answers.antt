use Rattle.std.proofs.Common.{ap, sym, ◌∙◌}
use Rattle.scenario_words.specs.Quoted.{unquoted_bytes}
use Rattle.scenario_words.proofs.QuoteLaws.{all_before, one_before}
use Rattle.scenario_words.proofs.quotes.unquoted.Goals as goal

pub loop-byte-preserved : goal.loop-byte-preserved
loop-byte-preserved c =
    rw c.in_ok-push.ensures.items (one_before c.loop-byte.text.items c.in-Some.byte
    (unquoted_bytes c.in-Some.behind.now))
    ∙ ap (all_before c.loop-byte.text.items) (sym c.in-Some.ensures.byte) ∙ c.loop-byte.invariant
