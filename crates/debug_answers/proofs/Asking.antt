-- A line that is `help` alone, and which commands a debugger has.
use Rattle.std.proofs.Common.{◌≡◌, ◌↔◌, Bool, true, false, cond, List, [], ◌∷◌, ℕ, codes, refl, ap, sym, ◌∙◌}
use Rattle.std.proofs.Common.{Option, Some, subst}
use Rattle.std.specs.Str.{bytes_eq}
use Rattle.std.proofs.lemmas.Bool.{false≢true}
use Rattle.std.proofs.lemmas.Slice.Eq.{bytes_eq-Decides}
use Rattle.scenario_words.specs.Words.{words}
use Rattle.debug_answers.specs.declared.command.Command.{Command}
use Rattle.debug_answers.specs.Saying.{HasCommand, IsCommandIn, IsHelp, IsLineOf, is_plain}
use Rattle.debug_answers.specs.Reading.{is_help, is_last}

-- words of which the first is this name, and the last too
alone : (w : List ℕ) (ws : List (List ℕ)) (b : Bool) → bytes_eq w (codes "help") ≡ b
    → cond b (is_last ws) false ≡ true → w ∷ ws ≡ codes "help" ∷ []
alone w [] true same h = ap (λ v. v ∷ []) ((bytes_eq-Decides w (codes "help")).0 same)
alone w (v ∷ ws) true same h = absurd (false≢true h)
alone w ws false same h = absurd (false≢true h)

help_alone : (ws : List (List ℕ)) → (is_help ws ≡ true) ↔ (ws ≡ codes "help" ∷ [])
help_alone [] = (λ h. absurd (false≢true h), λ h. cc)
help_alone (w ∷ ws) = (alone w ws (bytes_eq w (codes "help")) refl, λ h. ap is_help h)

-- a line of printable characters
pub help_line : (line : List ℕ) (help : Bool) → is_plain line ≡ true → help ≡ is_help (words line)
    → (help ≡ true) ↔ IsHelp line
help_line line help plain same =
    (λ h. (plain, (help_alone (words line)).0 (sym same ∙ h)), λ h. same ∙ (help_alone (words line)).1 h.1)

-- another one
pub no_help : (line : List ℕ) → is_plain line ≡ false → (false ≡ true) ↔ IsHelp line
no_help line other = (λ h. absurd (false≢true h), λ h. sym other ∙ h.0)

same_command : (c d : Command) → Some c ≡ Some d → c ≡ d
same_command c d same = cc

-- the debugger has the only command that the line says
pub had : (reasons : Bool) (line : List ℕ) (c : Command) (b : Bool) → IsLineOf c line
    → (b ≡ true) ↔ HasCommand reasons c → b ≡ true → IsCommandIn reasons c line
had reasons line c b is has there = (is, has.0 there)

-- it lacks that command
pub not_had : (reasons : Bool) (line : List ℕ) (c : Command) (b : Bool)
    → ((d : Command) → IsLineOf d line → Some c ≡ Some d) → (b ≡ true) ↔ HasCommand reasons c → b ≡ false
    → (d : Command) → IsCommandIn reasons d line → ⊥
not_had reasons line c b only has lacks d h =
    false≢true (sym lacks ∙ has.1 (subst (HasCommand reasons) (sym (same_command c d (only d h.0))) h.1))

pub only_not_had : (reasons : Bool) (line : List ℕ) (c : Command) (b : Bool) (r : Option Command)
    → ((d : Command) → IsLineOf d line → Some c ≡ Some d) → (b ≡ true) ↔ HasCommand reasons c → b ≡ false
    → (d : Command) → IsCommandIn reasons d line → r ≡ Some d
only_not_had reasons line c b r only has lacks d h = absurd (not_had reasons line c b only has lacks d h)
