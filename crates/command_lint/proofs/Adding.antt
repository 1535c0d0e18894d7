-- What is added for a device.
use Rattle.std.proofs.Common.{◌≡◌, ℕ, List, [], ◌∷◌, ◌++◌, length, map, refl, sym, ap, subst, ◌∙◌, append_assoc}
use Rattle.std.specs.Prelude.{Result, Ok, Err, OnOk, slice_get}
use Rattle.std.proofs.lemmas.List.{append-nil}
use Rattle.scenario_image.specs.Scenario.{Scenario}
use Rattle.server_lint.specs.declared.finding.Finding.{Finding}
use Rattle.server_lint.specs.declared.rule.Rule.{Rule}
use Rattle.server_lint.specs.Findings.{AreThose, IsFinding, candidates}
use Rattle.server_lint.specs.History.{Transmission}
use Rattle.command_lint.specs.History.{end_of, history_of}
use Rattle.command_lint.specs.Lines.{AreFoundLines, found_line, line_in}
use Rattle.command_lint.specs.Reasons.{IsBelowAt}
use Rattle.command_lint.specs.Lint.{IsFound, candidates_of}
use Rattle.command_lint.specs.declared.form.LintForm.{LintForm}
use Rattle.command_lint.specs.declared.rows.Found.{Found}
use Rattle.command_lint.proofs.Those.{those_append, those_map}

abbrev pub of_device : ℕ → Finding → Found
of_device d finding = record { device = d; finding = finding }

pub row_found : (chosen : List Rule) (s : Scenario) (d : ℕ) (history : List Transmission) (end : ℕ)
    (found : List Finding) (so_far old new : List Found) → history ≡ history_of s d → end ≡ end_of s d
    → AreThose (IsFinding chosen history end) (candidates (length history)) found
    → new ≡ old ++ map (of_device d) found → AreThose (IsFound chosen s) so_far old
    → AreThose (IsFound chosen s) (so_far ++ candidates_of s d) new
row_found chosen s d history end found so_far old new is at those then before =
    let there : AreThose (IsFinding chosen (history_of s d) end) (candidates (length (history_of s d))) found =
    subst (λ h. AreThose (IsFinding chosen h end) (candidates (length h)) found) is those in
    let here : AreThose (IsFinding chosen (history_of s d) (end_of s d)) (candidates (length (history_of s d))) found =
    subst (λ n. AreThose (IsFinding chosen (history_of s d) n) (candidates (length (history_of s d))) found) at there in
    subst (AreThose (IsFound chosen s) (so_far ++ candidates_of s d)) (sym then)
    (those_append (IsFound chosen s) so_far (candidates_of s d) old (map (of_device d) found) before
    (those_map (of_device d) (IsFound chosen s) (candidates (length (history_of s d))) found here))

-- one finding more
found_more : (form : LintForm) (s : Scenario) (found : List Found) (f : Found) (text below more : List ℕ)
    → IsBelowAt form s f.device (slice_get (history_of s f.device) f.finding.place) below
    → more ≡ text ++ (found_line form s f ++ below)
    → AreFoundLines form s found text → AreFoundLines form s (found ++ f ∷ []) more
found_more form s [] f text below more so then none = (
  below,
  [],
  so,
  refl,
  then ∙ ap (λ t. t ++ (found_line form s f ++ below)) none
      ∙ ap (λ t. found_line form s f ++ t) (sym (append-nil below)),
)
found_more form s (g ∷ found) f text below more so then (under, rest, first, others, is) = (
  under,
  rest ++ (found_line form s f ++ below),
  first,
  found_more form s found f rest below (rest ++ (found_line form s f ++ below)) so refl others,
  then ∙ ap (λ t. t ++ (found_line form s f ++ below)) is
      ∙ append_assoc (found_line form s g) (under ++ rest) (found_line form s f ++ below)
      ∙ ap (λ t. found_line form s g ++ t) (append_assoc under rest (found_line form s f ++ below)),
)

pub line_added : (form : LintForm) (s : Scenario) (d : ℕ) (history : List Transmission) (end : ℕ) (finding : Finding)
    (old new : List Found) (text line below mid more : List ℕ) → history ≡ history_of s d → end ≡ end_of s d
    → line ≡ line_in form d history end finding → IsBelowAt form s d (slice_get history finding.place) below
    → mid ≡ text ++ line → more ≡ mid ++ below → new ≡ old ++ of_device d finding ∷ []
    → AreFoundLines form s old text → AreFoundLines form s new more
line_added form s d history end finding old new text line below mid more is at told under first then added before =
    let here : line ≡ found_line form s (of_device d finding) =
    told ∙ ap (λ h. line_in form d h end finding) is ∙ ap (λ n. line_in form d (history_of s d) n finding) at in
    let whole : more ≡ text ++ (found_line form s (of_device d finding) ++ below) =
    then ∙ ap (λ t. t ++ below) first ∙ append_assoc text line below ∙ ap (λ t. text ++ (t ++ below)) here in
    subst (λ l. AreFoundLines form s l more) (sym added)
    (found_more form s old (of_device d finding) text below more
    (subst (λ h. IsBelowAt form s d (slice_get h finding.place) below) is under) whole before)

pub row_found_ok : {T E : Type 0} (r : Result T E) (chosen : List Rule) (s : Scenario) (d : ℕ)
    (history : List Transmission) (end : ℕ) (found : List Finding) (old new : List Found) → history ≡ history_of s d
    → end ≡ end_of s d → AreThose (IsFinding chosen history end) (candidates (length history)) found
    → OnOk r (new ≡ old ++ map (of_device d) found)
    → OnOk r ((so_far : List Found) → AreThose (IsFound chosen s) so_far old
    → AreThose (IsFound chosen s) (so_far ++ candidates_of s d) new)
row_found_ok (Ok x) chosen s d history end found old new is at those then =
    λ so_far before. row_found chosen s d history end found so_far old new is at those then before
row_found_ok (Err e) chosen s d history end found old new is at those then = tt
