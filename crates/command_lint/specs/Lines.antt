-- The lines of findings and of rules.
use Rattle.std.specs.Prelude.{ℕ, ◌≡◌, ◌+◌, List, [], ◌∷◌, ◌++◌, Option, None, Some, codes, slice_get, take, drop}
use Rattle.std.specs.Fmt.{decimal}
use Rattle.scenario_image.specs.Scenario.{Scenario}
use Rattle.scenario_words.specs.Words.{ended_line}
use Rattle.trace_json.specs.Writing.{json_line}
use Rattle.server_lint.specs.declared.finding.Finding.{Finding}
use Rattle.server_lint.specs.declared.rule.Rule.{Rule}
use Rattle.server_lint.specs.History.{Transmission}
use Rattle.server_lint.specs.Names.{rule_name, section_of, standard_of, summary_of}
use Rattle.server_lint.specs.Text.{finding_text}
use Rattle.command_lint.specs.History.{end_of, history_of}
use Rattle.command_lint.specs.Objects.{count_json, finding_json}
use Rattle.command_lint.specs.Reasons.{IsBelowAt}
use Rattle.command_lint.specs.declared.form.LintForm.{LintForm}
use Rattle.command_lint.specs.declared.form.LintForm.TheVariants.{Text, Reasons, JsonLines}
use Rattle.command_lint.specs.declared.rows.Found.{Found}

-- `device D step K second S: WORDS`
abbrev pub placed_line : ℕ → ℕ → ℕ → List ℕ → List ℕ
placed_line device step second words =
    ended_line (codes "device " ++ decimal device ++ codes " step " ++ decimal step ++ codes " second "
    ++ decimal second ++ codes ": " ++ words)

-- `STANDARD section N`
abbrev pub source_words : List ℕ → List ℕ → List ℕ
source_words standard section = standard ++ codes " section " ++ section

-- `RULE: WORDS (RFC 7252 section N)`
abbrev pub broken_words : List ℕ → List ℕ → List ℕ → List ℕ → List ℕ
broken_words name words standard section =
    name ++ codes ": " ++ words ++ codes " (" ++ source_words standard section ++ codes ")"

-- the line of a rule that a datagram breaks, with what is said of it: as text, or as an object
abbrev pub text_line : ℕ → Rule → Transmission → List ℕ → List ℕ
text_line device rule t words =
    placed_line device t.step t.second
    (broken_words (rule_name rule) words (standard_of rule) (section_of rule))

abbrev pub line_with : LintForm → ℕ → Rule → Transmission → List ℕ → List ℕ
line_with Text device rule t words = text_line device rule t words
line_with Reasons device rule t words = text_line device rule t words
line_with JsonLines device rule t words = json_line (finding_json device rule t words)

-- the line of a rule that a datagram breaks which stands between these, in a history that ends in this second
abbrev pub line_of : LintForm → ℕ → Rule → List Transmission → Transmission → List Transmission → ℕ → List ℕ
line_of form device rule before t after end = line_with form device rule t (finding_text rule before t after end)

-- the line of a finding in a history that ends in this second
abbrev pub line_at : LintForm → ℕ → List Transmission → ℕ → Finding → Option Transmission → List ℕ
line_at form device history end f None = []
line_at form device history end f (Some t) =
    line_of form device f.rule (take f.place history) t (drop (f.place + 1) history) end

abbrev pub line_in : LintForm → ℕ → List Transmission → ℕ → Finding → List ℕ
line_in form device history end f = line_at form device history end f (slice_get history f.place)

-- the line of what was found of a device
abbrev pub found_line : LintForm → Scenario → Found → List ℕ
found_line form s found =
    line_in form found.device (history_of s found.device) (end_of s found.device) found.finding

-- the lines of what was found, each with what stands below it
abbrev pub AreFoundLines : LintForm → Scenario → List Found → List ℕ → Type 0
AreFoundLines form s [] text = text ≡ []
AreFoundLines form s (f ∷ fs) text =
    (below : List ℕ) × (rest : List ℕ)
    × IsBelowAt form s f.device (slice_get (history_of s f.device) f.finding.place) below
    × AreFoundLines form s fs rest × (text ≡ found_line form s f ++ (below ++ rest))

-- `N findings`, or the object that says so
abbrev pub count_text : ℕ → List ℕ
count_text n = ended_line (decimal n ++ codes " findings")

abbrev pub count_line : LintForm → ℕ → List ℕ
count_line Text n = count_text n
count_line Reasons n = count_text n
count_line JsonLines n = json_line (count_json n)

-- `RULE (RFC 7252 section N): a server WHAT`
abbrev pub rule_words : List ℕ → List ℕ → List ℕ → List ℕ → List ℕ
rule_words name standard section summary =
    name ++ codes " (" ++ source_words standard section ++ codes "): a server " ++ summary

abbrev pub rule_line : Rule → List ℕ
rule_line rule = ended_line (rule_words (rule_name rule) (standard_of rule) (section_of rule) (summary_of rule))

-- a word that is the name of no rule
abbrev pub unknown_line : List ℕ → List ℕ
unknown_line word = ended_line (codes "no such rule: " ++ word)
