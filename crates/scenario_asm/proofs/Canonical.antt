-- The canonical text of a scenario denotes it, where its statements lead to it.
use Rattle.std.proofs.Common.{◌≡◌, ℕ, true, List, [], ◌∷◌, ◌++◌, Option, None, Some, Result, Ok, Err, refl, sym, subst}
use Rattle.scenario_image.specs.Scenario.{Scenario}
use Rattle.scenario_words.specs.declared.cause.Cause.{Cause}
use Rattle.scenario_words.specs.Reading.{◌>>=◌}
use Rattle.scenario_words.specs.Words.{lines, words}
use Rattle.scenario_statements.specs.declared.statement.Statement.{Statement}
use Rattle.scenario_statements.specs.Grammar.{statement_of}
use Rattle.scenario_asm.specs.Canonical.{statements, text_of_scenario}
use Rattle.scenario_asm.specs.Reading.{IsScenario, said_in, statements_from}
use Rattle.scenario_asm.proofs.ReadAgain.{said_again}
use Rattle.scenario_asm.proofs.Sayable.{all_said}
use Rattle.scenario_asm.specs.Draft.{Draft, closed_scenario, nothing}
use Rattle.scenario_asm.specs.Denotes.{AreSaid, Lead}
use Rattle.scenario_asm.specs.Denotes.AreSaid.{done, blank, stated}
use Rattle.scenario_asm.specs.Text.{scenario_of_text}
use Rattle.scenario_asm.proofs.Denoting.{denotes_so, wordless}

-- statements after others
pub lead_append : (d e f : Draft) (xs ys : List Statement) → Lead d xs e → Lead e ys f → Lead d (xs ++ ys) f
lead_append d e f [] ys l m = subst (λ x. Lead x ys f) (sym l) m
lead_append d e f (x ∷ xs) ys l m = (l.0, l.1, lead_append l.0 e f xs ys l.2 m)

-- lines that are read say their statements
by_line : (line : List ℕ) (ls : List (List ℕ)) (ss : List Statement) (r : Result (Option Statement) Cause)
    (q : Result (List Statement) Cause) → statement_of (words line) ≡ r → said_in ls ≡ q
    → (r >>= (λ o. q >>= (λ rest. Ok (statements_from o rest)))) ≡ Ok ss
    → ((rest : List Statement) → said_in ls ≡ Ok rest → AreSaid ls rest) → AreSaid (line ∷ ls) ss
by_line line ls ss (Err cause) q is had h more = absurd cc
by_line line ls ss (Ok o) (Err cause) is had h more = absurd cc
by_line line ls ss (Ok None) (Ok rest) is had h more =
    let same : rest ≡ ss = cc in
    subst (AreSaid (line ∷ ls)) same (blank line (wordless (words line) is) (more rest had))
by_line line ls ss (Ok (Some s)) (Ok rest) is had h more =
    let same : s ∷ rest ≡ ss = cc in
    subst (AreSaid (line ∷ ls)) same (stated line s is (more rest had))

pub said_are : (ls : List (List ℕ)) (ss : List Statement) → said_in ls ≡ Ok ss → AreSaid ls ss
said_are [] ss h = let same : [] ≡ ss = cc in subst (AreSaid []) same done
said_are (line ∷ ls) ss h =
    by_line line ls ss (statement_of (words line)) (said_in ls) refl refl h (λ rest g. said_are ls rest g)

pub canonical : (s : Scenario) (d : Draft) → IsScenario s → Lead nothing (statements s) d → d.begun ≡ true
    → closed_scenario d ≡ s → scenario_of_text (text_of_scenario s) ≡ Ok s
canonical s d is lead begun same =
    denotes_so (text_of_scenario s) s (record {
      statements = statements s;
      said = said_are (lines (text_of_scenario s)) (statements s) (said_again (statements s) (all_said s is));
      draft = d;
      lead = lead;
      begun = begun;
      scenario = same;
    })
