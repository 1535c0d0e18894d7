-- The lines of values, gathered in one text.
use Rattle.std.proofs.Common.{◌≡◌, ℕ, ◌+◌, Bool, true, false, cond, List, [], ◌∷◌, ◌++◌, map, refl, sym, ap, subst, ◌∙◌}
use Rattle.std.proofs.Common.{append_assoc}
use Rattle.std.proofs.lemmas.Grind.{flat_map-append}
use Rattle.lemmas.proofs.Lists.{each_appended}
use Rattle.scenario_image.specs.Scenario.{Scenario}
use Rattle.trace_file.specs.declared.entry.Entry.{Entry}
use Rattle.trace_text.specs.declared.selection.Selection.{Selection}
use Rattle.trace_text.specs.Selection.{is_selected, numbered_entries, selected_entries}
use Rattle.std.specs.List.{AllByRecursion, flat_map}
use Rattle.serde_json.specs.Data.{Data}
use Rattle.serde_json.specs.Written.{compact_text}
use Rattle.scenario_words.specs.Words.{IsLine, ended_line, lines}
use Rattle.scenario_words.proofs.WordLaws.{lines_again}
use Rattle.trace_json.specs.Entries.{entry_json, selected_json}
use Rattle.trace_json.specs.Lines.{AreLinesOf, json_lines}
use Rattle.trace_json.specs.Writing.{IsReadAgain, json_line}

each_line : (values : List Data) → AllByRecursion IsReadAgain values → AllByRecursion IsLine (map compact_text values)
each_line [] again = tt
each_line (d ∷ ds) again = (again.0.line, each_line ds again.1)

as_lines : (values : List Data) → json_lines values ≡ flat_map ended_line (map compact_text values)
unfolding json_line
as_lines [] = refl
as_lines (d ∷ ds) = ap (λ t. ended_line (compact_text d) ++ t) (as_lines ds)

pub are_lines : (values : List Data) (text : List ℕ) → text ≡ json_lines values → AllByRecursion IsReadAgain values
    → AreLinesOf values text
are_lines values text is again = record {
  text_is = is;
  lines_are = ap lines (is ∙ as_lines values) ∙ lines_again (map compact_text values) (each_line values again);
  read_again = again;
}

-- ---- one entry after another

one_more : (b : Bool) (f : ℕ × Entry → Data) (p : ℕ × Entry) (ps : List (ℕ × Entry))
    → map f (cond b (p ∷ ps) ps) ≡ map f (cond b (p ∷ []) []) ++ map f ps
one_more true f p ps = refl
one_more false f p ps = refl

-- what is selected of an entry and those after it
parted : (s : Scenario) (sel : Selection) (n : ℕ) (e : Entry) (es : List Entry)
    → selected_json s sel n (e ∷ es) ≡ selected_json s sel n (e ∷ []) ++ selected_json s sel (n + 1) es
parted s sel n e es =
    one_more (is_selected sel n e) (λ p. entry_json s p.0 p.1) (n, e)
    (selected_entries sel (numbered_entries (n + 1) es))

pub text_grows : (s : Scenario) (sel : Selection) (n : ℕ) (e : Entry) (rest more : List Entry) (old new whole : List ℕ)
    → rest ≡ e ∷ more → new ≡ old ++ json_lines (selected_json s sel n (e ∷ []))
    → old ++ json_lines (selected_json s sel n rest) ≡ whole
    → new ++ json_lines (selected_json s sel (n + 1) more) ≡ whole
text_grows s sel n e rest more old new whole is added so_far =
    let one = selected_json s sel n (e ∷ []) in
    let others = selected_json s sel (n + 1) more in
    let both : selected_json s sel n rest ≡ one ++ others = ap (selected_json s sel n) is ∙ parted s sel n e more in
    ap (λ t. t ++ json_lines others) added ∙ append_assoc old (json_lines one) (json_lines others)
    ∙ ap (λ t. old ++ t) (sym (ap json_lines both ∙ flat_map-append json_line one others)) ∙ so_far

pub again_grows : (s : Scenario) (sel : Selection) (n : ℕ) (e : Entry) (rest more : List Entry) (whole : List Data)
    → rest ≡ e ∷ more → AllByRecursion IsReadAgain (selected_json s sel n (e ∷ []))
    → (AllByRecursion IsReadAgain (selected_json s sel n rest) → AllByRecursion IsReadAgain whole)
    → AllByRecursion IsReadAgain (selected_json s sel (n + 1) more) → AllByRecursion IsReadAgain whole
again_grows s sel n e rest more whole is one so_far others =
    let both = ap (selected_json s sel n) is ∙ parted s sel n e more in
    so_far (subst (AllByRecursion IsReadAgain) (sym both)
    (each_appended IsReadAgain (selected_json s sel n (e ∷ [])) (selected_json s sel (n + 1) more) one others))
