-- A text has just its first fault.
use Rattle.std.proofs.Common.{◌≡◌, ◌⊎◌, inl, inr, ℕ, ◌+◌, List, [], ◌∷◌, length, Option, None, Some, Result, Ok, Err}
use Rattle.std.proofs.Common.{refl, sym, ap, subst, ◌∙◌}
use Rattle.scenario_words.specs.declared.cause.Cause.{Cause}
use Rattle.scenario_words.specs.declared.cause.Cause.TheVariants.{Missing}
use Rattle.scenario_words.specs.Words.{lines, words}
use Rattle.scenario_words.specs.Reading.{◌>>=◌}
use Rattle.scenario_statements.specs.declared.statement.Statement.{Statement}
use Rattle.scenario_statements.specs.Grammar.{statement_of}
use Rattle.scenario_asm.specs.declared.fault.AsmFault.{AsmFault}
use Rattle.scenario_asm.specs.Denotes.{AreSaid, Lead}
use Rattle.scenario_asm.specs.Denotes.AreSaid.{done, blank, stated}
use Rattle.scenario_asm.specs.Draft.{Draft, nothing}
use Rattle.scenario_asm.specs.Effect.{effect}
use Rattle.scenario_asm.specs.Text.{effect_of, line_after, lines_after, scenario_of_text, whole_of}
use Rattle.scenario_asm.proofs.Denoting.{lead_on, wordless}
use Rattle.laws_text.specs.FirstCause.{FaultsAreFirst, IsCauseAt, IsFaultOf}
use Rattle.laws_text.specs.WrongLine.{StatesNothing}
use Rattle.laws_text.proofs.Causes.{cause_in, cause_is}
use Rattle.laws_text.proofs.Runs.{go_on, stop_is, stops_at}
use Rattle.laws_text.proofs.Wrong.{fault_at, line_is, nothing_is_missing, number, same_whole, states_nothing}

-- ---- what lines that are taken say

abbrev IsLed : List (List ℕ) → Draft → Draft → Type 0
IsLed ls d e = (ss : List Statement) × AreSaid ls ss × Lead d ss e

led_by_effect : (line : List ℕ) (ls : List (List ℕ)) (n : ℕ) (d e : Draft) (s : Statement) (r : Result Draft Cause)
    → statement_of (words line) ≡ Ok (Some s) → effect s d ≡ r → go_on ls n r ≡ Ok e
    → ((f : Draft) → lines_after ls (n + 1) f ≡ Ok e → IsLed ls f e) → IsLed (line ∷ ls) d e
led_by_effect line ls n d e s (Err cause) is had h more = absurd cc
led_by_effect line ls n d e s (Ok f) is had h more =
    let rest = more f h in
    (s ∷ rest.0, stated line s is rest.1, (f, had, rest.2))

led_by : (line : List ℕ) (ls : List (List ℕ)) (n : ℕ) (d e : Draft) (r : Result (Option Statement) Cause)
    → statement_of (words line) ≡ r → go_on ls n (r >>= (λ o. effect_of o d)) ≡ Ok e
    → ((f : Draft) → lines_after ls (n + 1) f ≡ Ok e → IsLed ls f e) → IsLed (line ∷ ls) d e
led_by line ls n d e (Err cause) is h more = absurd cc
led_by line ls n d e (Ok None) is h more =
    let rest = more d h in
    (rest.0, blank line (wordless (words line) is) rest.1, rest.2)
led_by line ls n d e (Ok (Some s)) is h more = led_by_effect line ls n d e s (effect s d) is refl h more

led : (ls : List (List ℕ)) (n : ℕ) (d e : Draft) → lines_after ls n d ≡ Ok e → IsLed ls d e
led [] n d e h = let same : d ≡ e = cc in ([], done, same)
led (line ∷ ls) n d e h = led_by line ls n d e (statement_of (words line)) refl h (λ f g. led ls (n + 1) f e g)

-- ---- why a line is refused

cause_by : (line : List ℕ) (d : Draft) (cause : Cause) (q : Result (Option Statement) Cause)
    → statement_of (words line) ≡ q → (q >>= (λ o. effect_of o d)) ≡ Err cause → IsCauseAt line d cause
cause_by line d cause (Err other) is h = let same : other ≡ cause = cc in inl (is ∙ ap (λ c. Err c) same)
cause_by line d cause (Ok None) is h = absurd cc
cause_by line d cause (Ok (Some s)) is h = inr (s, is, sym (cause_is s d) ∙ ap cause_in h)

cause_of_line : (line : List ℕ) (d : Draft) (cause : Cause) → line_after line d ≡ Err cause → IsCauseAt line d cause
cause_of_line line d cause h = cause_by line d cause (statement_of (words line)) refl h

cause_was : (r : Result Draft Cause) (cause : Cause) → cause_in r ≡ Some cause → r ≡ Err cause
cause_was (Ok d) cause h = absurd cc
cause_was (Err other) cause h = let same : other ≡ cause = cc in ap (λ c. Err c) same

line_refused : (line : List ℕ) (d : Draft) (cause : Cause) → IsCauseAt line d cause → line_after line d ≡ Err cause
line_refused line d cause (inl h) = ap (λ q. q >>= (λ o. effect_of o d)) h
line_refused line d cause (inr h) =
    ap (λ q. q >>= (λ o. effect_of o d)) h.1 ∙ cause_was (effect h.0 d) cause (cause_is h.0 d ∙ h.2)

-- ---- the fault

abbrev AnyFault : List ℕ → AsmFault → Type 0
AnyFault text fault = IsFaultOf text fault ⊎ (StatesNothing text × (fault ≡ record { line = 1; cause = Missing }))

fault_by : (text : List ℕ) (fault : AsmFault) (r : Result Draft AsmFault) → scenario_of_text text ≡ Err fault
    → lines_after (lines text) 0 nothing ≡ r → whole_of r ≡ Err fault → AnyFault text fault
fault_by text fault (Ok d) all is h =
    let states = (states_nothing text d d.begun fault refl is h).0 in
    inr (
      states,
      same_whole (scenario_of_text text) fault (record { line = 1; cause = Missing }) all
          (nothing_is_missing text states),
    )
fault_by text fault (Err first) all is h =
    let equal : first ≡ fault = cc in
    let so : lines_after (lines text) 0 nothing ≡ Err fault = is ∙ ap (λ f. Err f) equal in
    let s = stops_at (lines text) 0 nothing fault so in
    let what = stop_is (lines text) 0 nothing fault so s in
    let lead = led s.before 0 nothing s.draft s.taken in
    inl (record {
      before = s.before;
      here = s.here;
      behind = s.behind;
      cut = s.cut;
      line = line_is fault _ what ∙ number (length s.before);
      statements = lead.0;
      said = lead.1;
      draft = s.draft;
      lead = lead.2;
      cause = subst (IsCauseAt s.here s.draft) (sym (ap (λ x. x.cause) what))
          (cause_of_line s.here s.draft s.cause s.refused);
    })

so_it_is : (text : List ℕ) (fault : AsmFault) → AnyFault text fault → scenario_of_text text ≡ Err fault
so_it_is text fault (inl f) =
    fault_at text fault.line fault.cause f.before f.behind f.here f.draft f.cut f.line
    (lead_on f.before f.statements 0 nothing f.draft f.said f.lead)
    (line_refused f.here f.draft fault.cause f.cause)
so_it_is text fault (inr h) = nothing_is_missing text h.0 ∙ ap (λ f. Err f) (sym h.1)

pub faults_are_first : FaultsAreFirst
faults_are_first text fault = (
  (λ h. fault_by text fault (lines_after (lines text) 0 nothing) h refl h),
  (λ h. so_it_is text fault h),
)
