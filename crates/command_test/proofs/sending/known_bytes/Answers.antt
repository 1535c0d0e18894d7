use Rattle.std.proofs.Common.{ap, sym, ◌∙◌}
use Rattle.scenario_words.proofs.QuoteLaws.{all_before, one_before}
use Rattle.command_test.specs.Stated.{known_bytes}
use Rattle.command_test.proofs.sending.known_bytes.Goals as goal

pub loop-byte-preserved : goal.loop-byte-preserved
loop-byte-preserved c =
    rw c.in_ok-push.ensures.items
    (one_before c.loop-byte.bytes.items c.in-Some.byte (known_bytes c.in-Some.others.now))
    ∙ ap (all_before c.loop-byte.bytes.items) (sym c.in-Some.ensures.known) ∙ c.loop-byte.invariant
