use Rattle.std.proofs.Common.{sym}
use Rattle.scenario_words.specs.Words.{words}
use Rattle.case_text.specs.BytesWords.{hex_up_to_at}
use Rattle.case_text.proofs.Parts.{next_word_hex}
use Rattle.case_text.proofs.bytes_words.hex_up_to_at.Goals as goal

pub loop-word-preserved : goal.loop-word-preserved
loop-word-preserved c =
    rw (c.in_ok-extend_from_slice.ensures.items, c.as_slice.ensures.value)
    (next_word_hex (words c.loop-word.rest.now) (words c.in-Some.behind.now) c.in-Some.word.now c.loop-word.all.items
    c.in_ok-hex.hex.items (hex_up_to_at (words c.args.line.now)) c.in-Some.ensures (sym c.if-is_name.ensures)
    c.in_ok-hex.ensures c.loop-word.invariant)
