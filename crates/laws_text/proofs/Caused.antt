-- What a line states, and why it is refused, by its words.
use Rattle.std.proofs.Common.{◌≡◌, ◌⊎◌, ℕ, List, [], ◌∷◌, Some, Ok, Err, inl, inr, refl, ap, ◌∙◌}
use Rattle.scenario_words.specs.declared.cause.Cause.{Cause}
use Rattle.scenario_words.specs.Words.{words}
use Rattle.scenario_statements.specs.declared.statement.Statement.{Statement}
use Rattle.scenario_statements.specs.Grammar.{statement_of}
use Rattle.scenario_asm.specs.Draft.{Draft}
use Rattle.laws_reading.specs.Statements.{IsSaidBy}
use Rattle.laws_reading.specs.WrongStatements.{IsRefused}
use Rattle.laws_reading.proofs.Line.{lines_have_words}
use Rattle.laws_reading.proofs.Statements.{statements_are_said}
use Rattle.laws_reading.proofs.WrongStatements.{wrong_statements_said}
use Rattle.laws_text.specs.FirstCause.{IsCauseAt, first_cause}
use Rattle.laws_text.specs.SaidCause.{CausesAreSaid, IsSaidCause, LinesAreSaid}

pub lines_are_said : LinesAreSaid
lines_are_said line s = (
  (λ h. (words line, (lines_have_words line (words line)).0 refl, (statements_are_said (words line) s).0 h)),
  (λ h. ap statement_of ((lines_have_words line h.0).1 h.1) ∙ (statements_are_said h.0 s).1 h.2),
)

said_by : (line : List ℕ) (d : Draft) (cause : Cause) (ws : List (List ℕ)) → words line ≡ ws
    → ((statement_of ws ≡ Err cause)
    ⊎ ((s : Statement) × (statement_of ws ≡ Ok (Some s)) × (first_cause s d ≡ Some cause)))
    → IsSaidCause line d cause
said_by line d cause [] e (inl h) = cc h
said_by line d cause [] e (inr h) = let none = h.1 in cc none
said_by line d cause (w ∷ ws) e (inl h) =
    (w, ws, (lines_have_words line (w ∷ ws)).0 e, inl ((wrong_statements_said w ws cause).0 h))
said_by line d cause (w ∷ ws) e (inr h) =
    (w, ws, (lines_have_words line (w ∷ ws)).0 e, inr (h.0, (statements_are_said (w ∷ ws) h.0).0 h.1, h.2))

caused_by : (line : List ℕ) (d : Draft) (cause : Cause) → IsSaidCause line d cause → IsCauseAt line d cause
caused_by line d cause h = by h.3
  where
    same : statement_of (words line) ≡ statement_of (h.0 ∷ h.1)
    same = ap statement_of ((lines_have_words line (h.0 ∷ h.1)).1 h.2)

    by : IsRefused h.0 h.1 cause ⊎ ((s : Statement) × IsSaidBy s (h.0 ∷ h.1) × (first_cause s d ≡ Some cause))
        → IsCauseAt line d cause
    by (inl r) = inl (same ∙ (wrong_statements_said h.0 h.1 cause).1 r)
    by (inr s) = inr (s.0, same ∙ (statements_are_said (h.0 ∷ h.1) s.0).1 s.1, s.2)

pub causes_are_said : CausesAreSaid
causes_are_said line d cause = (said_by line d cause (words line) refl, caused_by line d cause)
