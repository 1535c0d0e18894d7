-- The text of two lists of entries, one after the other, and of those that are selected.
use Rattle.std.proofs.Common.{◌≡◌, ℕ, ◌+◌, List, [], ◌∷◌, ◌++◌, length, None, refl, sym, ap, ◌∙◌}
use Rattle.std.proofs.Common.{append_assoc, arith}
use Rattle.scenario_image.specs.Scenario.{Scenario}
use Rattle.trace_file.specs.declared.entry.Entry.{Entry}
use Rattle.trace_text.specs.Selection.{numbered_entries, numbered_text, selected_entries}
use Rattle.trace_text.specs.Text.{entries_text, entry_text}

pub joined : (s : Scenario) (number : ℕ) (a b : List Entry)
    → entries_text s number (a ++ b) ≡ entries_text s number a ++ entries_text s (number + length a) b
joined s number [] b = let same : number ≡ number + 0 = omega arith in ap (λ n. entries_text s n b) same
joined s number (e ∷ es) b =
    let same : number + 1 + length es ≡ number + length (e ∷ es) = omega arith in
    ap (λ t. entry_text s number e ++ t)
    (joined s (number + 1) es b ∙ ap (λ n. entries_text s (number + 1) es ++ entries_text s n b) same)
    ∙ sym (append_assoc (entry_text s number e) (entries_text s (number + 1) es)
    (entries_text s (number + length (e ∷ es)) b))

-- all entries are selected where nothing is asked for
pub whole : (s : Scenario) (number : ℕ) (es : List Entry)
    → numbered_text s (selected_entries (record { device = None; from = None; to = None }) (numbered_entries number es))
    ≡ entries_text s number es
whole s number [] = refl
whole s number (e ∷ es) = ap (λ t. entry_text s number e ++ t) (whole s (number + 1) es)
