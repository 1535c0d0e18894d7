-- A text that assembles to a scenario denotes it, and the other way round.
use Rattle.std.proofs.Common.{◌≡◌, ℕ, ◌+◌, Bool, true, false, cond, List, [], ◌∷◌, Option, None, Some, Result, Ok, Err}
use Rattle.std.proofs.Common.{refl, sym, ap, ◌∙◌}
use Rattle.scenario_image.specs.Scenario.{Scenario}
use Rattle.scenario_words.specs.declared.cause.Cause.{Cause}
use Rattle.scenario_words.specs.declared.cause.Cause.TheVariants.{Missing}
use Rattle.scenario_words.specs.Words.{lines, words}
use Rattle.scenario_words.specs.Reading.{◌>>=◌}
use Rattle.scenario_statements.specs.declared.statement.Statement.{Statement}
use Rattle.scenario_statements.specs.Grammar.{some, statement_by, statement_of}
use Rattle.scenario_asm.specs.declared.fault.AsmFault.{AsmFault}
use Rattle.scenario_asm.specs.Draft.{Draft, closed_scenario, nothing}
use Rattle.scenario_asm.specs.Effect.{effect}
use Rattle.scenario_asm.specs.Denotes.{AreSaid, Denotes, Lead}
use Rattle.scenario_asm.specs.Denotes.AreSaid.{done, blank, stated}
use Rattle.scenario_asm.specs.Text.{at_line, effect_of, lines_after, scenario_of_text, then_lines, whole_of}
use Rattle.scenario_asm.specs.Text.{whole_scenario}

-- what lines say, and where it leads
abbrev Found : List (List ℕ) → Draft → Draft → Type 0
Found ls d e = (ss : List Statement) × AreSaid ls ss × Lead d ss e

-- a line that says nothing has no words
not_some : (r : Result Statement Cause) → some r ≡ Ok None → ⊥
not_some (Ok s) h = let e : Some s ≡ None = cc in cc
not_some (Err cause) h = cc

pub wordless : (ws : List (List ℕ)) → statement_of ws ≡ Ok None → ws ≡ []
wordless [] h = refl
wordless (w ∷ ws) h = absurd (not_some (statement_by w ws) h)

-- a statement that had its effect
by_effect : (line : List ℕ) (ls : List (List ℕ)) (n : ℕ) (d e : Draft) (s : Statement) (r : Result Draft Cause)
    → statement_of (words line) ≡ Ok (Some s) → effect s d ≡ r
    → then_lines (lines_after ls (n + 1)) (at_line (n + 1) r) ≡ Ok e
    → ((f : Draft) → lines_after ls (n + 1) f ≡ Ok e → Found ls f e) → Found (line ∷ ls) d e
by_effect line ls n d e s (Err cause) is had h more = absurd cc
by_effect line ls n d e s (Ok f) is had h more =
    let rest = more f h in
    (s ∷ rest.0, stated line s is rest.1, (f, had, rest.2))

-- a line that was taken
by_line : (line : List ℕ) (ls : List (List ℕ)) (n : ℕ) (d e : Draft) (r : Result (Option Statement) Cause)
    → statement_of (words line) ≡ r
    → then_lines (lines_after ls (n + 1)) (at_line (n + 1) (r >>= (λ o. effect_of o d))) ≡ Ok e
    → ((f : Draft) → lines_after ls (n + 1) f ≡ Ok e → Found ls f e) → Found (line ∷ ls) d e
by_line line ls n d e (Err cause) is h more = absurd cc
by_line line ls n d e (Ok None) is h more =
    let rest = more d h in
    (rest.0, blank line (wordless (words line) is) rest.1, rest.2)
by_line line ls n d e (Ok (Some s)) is h more = by_effect line ls n d e s (effect s d) is refl h more

found : (ls : List (List ℕ)) (n : ℕ) (d e : Draft) → lines_after ls n d ≡ Ok e → Found ls d e
found [] n d e h = let same : d ≡ e = cc in ([], done, same)
found (line ∷ ls) n d e h = by_line line ls n d e (statement_of (words line)) refl h (λ f g. found ls (n + 1) f e g)

pub lead_on : (ls : List (List ℕ)) (ss : List Statement) (n : ℕ) (d e : Draft) → AreSaid ls ss → Lead d ss e
    → lines_after ls n d ≡ Ok e
lead_on _ _ n d e done lead = ap (λ x. Ok x) lead
lead_on _ _ n d e (blank {ls} {ss} line none rest) lead =
    ap (λ ws. then_lines (lines_after ls (n + 1)) (at_line (n + 1) (statement_of ws >>= (λ o. effect_of o d)))) none
    ∙ lead_on ls ss (n + 1) d e rest lead
lead_on _ _ n d e (stated {ls} {ss} line s is rest) lead =
    ap (λ r. then_lines (lines_after ls (n + 1)) (at_line (n + 1) (r >>= (λ o. effect_of o d)))) is
    ∙ ap (λ r. then_lines (lines_after ls (n + 1)) (at_line (n + 1) r)) lead.1
    ∙ lead_on ls ss (n + 1) lead.0 e rest lead.2

no_scenario : (fault : AsmFault) (s : Scenario) → Err fault ≡ Ok s → ⊥
no_scenario fault s h = cc

-- a text denotes what its draft states
whole_is : (text : List ℕ) (s : Scenario) (d : Draft) (b : Bool) → d.begun ≡ b → Found (lines text) nothing d
    → whole_scenario d ≡ Ok s → Denotes text s
whole_is text s d true begun f h =
    let is : Ok (closed_scenario d) ≡ Ok s =
    sym (ap (λ b. cond b (Ok (closed_scenario d)) (Err (record { line = 1; cause = Missing }))) begun) ∙ h in
    let same : closed_scenario d ≡ s = cc in
    record { statements = f.0; said = f.1; draft = d; lead = f.2; begun = begun; scenario = same }
whole_is text s d false begun f h =
    absurd (no_scenario _ s (sym (ap (λ b. cond b (Ok (closed_scenario d)) (Err (record { line = 1; cause = Missing })))
    begun)
    ∙ h))

by_all : (text : List ℕ) (s : Scenario) (r : Result Draft AsmFault) → lines_after (lines text) 0 nothing ≡ r
    → whole_of r ≡ Ok s → Denotes text s
by_all text s (Err fault) is h = absurd cc
by_all text s (Ok d) is h = whole_is text s d d.begun refl (found (lines text) 0 nothing d is) h

pub so_denotes : (text : List ℕ) (s : Scenario) → scenario_of_text text ≡ Ok s → Denotes text s
so_denotes text s h = by_all text s (lines_after (lines text) 0 nothing) refl h

pub denotes_so : (text : List ℕ) (s : Scenario) → Denotes text s → scenario_of_text text ≡ Ok s
denotes_so text s d =
    ap whole_of (lead_on (lines text) d.statements 0 nothing d.draft d.said d.lead)
    ∙ ap (λ b. cond b (Ok (closed_scenario d.draft)) (Err (record { line = 1; cause = Missing }))) d.begun
    ∙ ap (λ x. Ok x) d.scenario
