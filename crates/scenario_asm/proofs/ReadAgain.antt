-- The lines of statements are found again, and are read as these statements.
use Rattle.std.proofs.Common.{◌≡◌, ℕ, List, [], ◌∷◌, ◌++◌, map, Ok, refl, sym, ap, ◌∙◌}
use Rattle.std.specs.List.{AllByRecursion}
use Rattle.std.proofs.lemmas.List.Folds.{flat_map-map}
use Rattle.scenario_words.specs.Words.{lines, ended_line, IsLine}
use Rattle.scenario_words.specs.Reading.{◌>>=◌}
use Rattle.scenario_words.proofs.WordLaws.{lines_again}
use Rattle.scenario_statements.specs.declared.statement.Statement.{Statement}
use Rattle.scenario_statements.specs.Grammar.{statement_of}
use Rattle.scenario_statements.specs.Spelling.{IsSayable, line_of}
use Rattle.scenario_statements.proofs.Again.{words_of_line, line_alone, statement_again}
use Rattle.scenario_asm.specs.Canonical.{printed_lines}
use Rattle.scenario_asm.specs.Reading.{statements_from, said_in, said_by}
use Rattle.scenario_asm.proofs.Each.{each_map}

pub lines_of : (ss : List Statement) → AllByRecursion IsSayable ss
    → lines (printed_lines ss) ≡ map line_of ss ++ [] ∷ []
lines_of ss h = ap lines (sym (flat_map-map ended_line line_of ss))
    ∙ lines_again (map line_of ss) (each_map IsSayable IsLine line_of line_alone ss h)

said_more : (s : Statement) (rest : List (List ℕ)) (ss : List Statement) → IsSayable s → said_in rest ≡ Ok ss
    → said_in (line_of s ∷ rest) ≡ Ok (s ∷ ss)
said_more s rest ss h e =
    ap (λ ws. statement_of ws >>= (λ o. said_in rest >>= (λ r. Ok (statements_from o r)))) (words_of_line s h)
    ∙ ap (λ o. o >>= (λ p. said_in rest >>= (λ r. Ok (statements_from p r)))) (statement_again s h)
    ∙ ap (λ r. r >>= (λ q. Ok (s ∷ q))) e

said_lines : (ss : List Statement) → AllByRecursion IsSayable ss → said_in (map line_of ss ++ [] ∷ []) ≡ Ok ss
said_lines [] h = refl
said_lines (s ∷ ss) h = said_more s (map line_of ss ++ [] ∷ []) ss h.0 (said_lines ss h.1)

-- what the lines of statements say is these statements
pub said_again : (ss : List Statement) → AllByRecursion IsSayable ss → said_by (printed_lines ss) ≡ Ok ss
said_again ss h = ap said_in (lines_of ss h) ∙ said_lines ss h

pub same_statements : (ss rs : List Statement) → AllByRecursion IsSayable ss → AllByRecursion IsSayable rs
    → printed_lines ss ≡ printed_lines rs → ss ≡ rs
same_statements ss rs h k e = let f : Ok ss ≡ Ok rs = sym (said_again ss h) ∙ ap said_by e ∙ said_again rs k in cc
