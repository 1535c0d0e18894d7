-- A line that stands several times.
use Rattle.std.proofs.Common.{◌≡◌, ℕ, List, ◌∷◌, ap, sym, ◌∙◌}
use Rattle.scenario_words.specs.Words.{parts}
use Rattle.case_text.specs.Digits.{times_of}
use Rattle.case_text.specs.Expanding.{expanded_line}
use Rattle.case_text.specs.Lines.{counted_by, counted_of}
use Rattle.case_text.proofs.Parts.{some_part}

-- the line stands after the count, whatever it is
pub counted_behind : (count line : List ℕ)
    → counted_of (count ∷ parts 32 line) ≡ counted_by (times_of count) (expanded_line (parts 32 line))
counted_behind count line =
    let some = some_part 32 line in
    ap (λ ws. counted_of (count ∷ ws)) some.2 ∙ sym (ap (λ ws. counted_by (times_of count) (expanded_line ws)) some.2)
