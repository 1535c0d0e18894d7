-- The canonical text of a scenario denotes it.
use Rattle.std.proofs.Common.{◌≡◌, ℕ, List, [], length, Ok, refl, ap, ◌∙◌}
use Rattle.std.specs.List.{flat_map}
use Rattle.scenario_image.specs.Scenario.{Scenario}
use Rattle.scenario_asm.specs.Canonical.{of_class, of_row, text_of_scenario}
use Rattle.scenario_asm.specs.Reading.{IsScenario}
use Rattle.scenario_asm.specs.Text.{scenario_of_text}
use Rattle.scenario_asm.proofs.Canonical.{canonical, lead_append}
use Rattle.scenario_asm.proofs.ClassRuns.{classes_lead}
use Rattle.scenario_asm.proofs.RowRuns.{from_none, rows_lead, shut}

pub canonical_again : (s : Scenario) → IsScenario s → scenario_of_text (text_of_scenario s) ≡ Ok s
canonical_again s is =
    let begun = shut (record { classes = []; rows = [] }) in
    let first = classes_lead [] s.classes begun refl refl is.built
    (from_none (length s.classes) 256 is.valid.classes) in
    let second = rows_lead s.classes [] s.rows first.0 first.2 first.3 is.valid.each
    (from_none (length s.rows) 16384 is.valid.rows) in
    canonical s second.0 is (
      begun,
      refl,
      lead_append begun first.0 second.0 (flat_map of_class s.classes) (flat_map of_row s.rows) first.1 second.1,
    )
    second.2 second.3

-- and so does that of each that there is
pub text_again : (s : Scenario) (text : List ℕ) → IsScenario s → text ≡ text_of_scenario s
    → scenario_of_text text ≡ Ok s
text_again s text is same = ap scenario_of_text same ∙ canonical_again s is
