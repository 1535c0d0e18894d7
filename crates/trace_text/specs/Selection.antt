-- A part of a trace as text: the entries of one device, or those whose numbers lie between two numbers, or both.
use Rattle.std.specs.Prelude.{◌≡◌, ℕ, ◌+◌, ◌==◌, nat_le, nat_lt, ◌&&◌, Bool, true, false, ⊤, List, [], ◌∷◌, filter}
use Rattle.std.specs.Prelude.{length, Option, None, Some}
use Rattle.std.specs.List.{flat_map}
use Rattle.scenario_image.specs.Scenario.{Scenario}
use Rattle.trace_file.specs.declared.entry.Entry.{Entry}
use Rattle.trace_text.specs.declared.selection.Selection.{Selection}
use Rattle.trace_text.specs.declared.selection.SelectionFault.{SelectionFault}
use Rattle.trace_text.specs.declared.selection.SelectionFault.TheVariants.{NoDevice, PastEnd, Range, Memory}
use Rattle.trace_text.specs.Text.{entry_text}

-- ---- what is selected

-- it is the one that is asked for; without such a one, any is
abbrev pub is_wanted : Option ℕ → ℕ → Bool
is_wanted None d = true
is_wanted (Some device) d = d == device

abbrev pub is_from : Option ℕ → ℕ → Bool
is_from None n = true
is_from (Some from) n = nat_le from n

abbrev pub is_up_to : Option ℕ → ℕ → Bool
is_up_to None n = true
is_up_to (Some to) n = nat_le n to

-- the entry of this number is one of those that are selected: both ends belong to them
abbrev pub is_selected : Selection → ℕ → Entry → Bool
is_selected sel number e = is_wanted sel.device e.device && (is_from sel.from number && is_up_to sel.to number)

-- entries with their numbers, the first of this number
abbrev pub numbered_entries : ℕ → List Entry → List (ℕ × Entry)
numbered_entries number [] = []
numbered_entries number (e ∷ es) = (number, e) ∷ numbered_entries (number + 1) es

-- those that are selected, in their order; each keeps its number
abbrev pub selected_entries : Selection → List (ℕ × Entry) → List (ℕ × Entry)
selected_entries sel numbered = filter (λ p. is_selected sel p.0 p.1) numbered

-- the text of entries with their numbers
abbrev pub numbered_text : Scenario → List (ℕ × Entry) → List ℕ
numbered_text s numbered = flat_map (λ p. entry_text s p.0 p.1) numbered

-- the text of the selected entries of a trace
abbrev pub selected_text : Scenario → Selection → List Entry → List ℕ
selected_text s sel es = numbered_text s (selected_entries sel (numbered_entries 0 es))

-- ---- what is refused

-- the number that is asked for, if one is, is below this count
abbrev pub is_below : Option ℕ → ℕ → Bool
is_below None count = true
is_below (Some n) count = nat_lt n count

-- the last number, if one is asked for, is not below the first one, which is 0 where none is asked for
abbrev pub is_ordered : Option ℕ → Option ℕ → Bool
is_ordered None to = true
is_ordered (Some from) None = true
is_ordered (Some from) (Some to) = nat_le from to

-- the scenario has the device, the trace has an entry of the first number, and the numbers are in order
abbrev pub IsSelectable : Scenario → Selection → List Entry → Type 0
IsSelectable s sel es =
    (is_below sel.device (length s.rows) ≡ true) × (is_below sel.from (length es) ≡ true)
    × (is_ordered sel.from sel.to ≡ true)

-- the first of these that does not hold is the fault, unless memory runs out
abbrev pub IsSelectionFault : Scenario → Selection → List Entry → SelectionFault → Type 0
IsSelectionFault s sel es NoDevice = is_below sel.device (length s.rows) ≡ false
IsSelectionFault s sel es PastEnd =
    (is_below sel.device (length s.rows) ≡ true) × (is_below sel.from (length es) ≡ false)
IsSelectionFault s sel es Range =
    (is_below sel.device (length s.rows) ≡ true) × (is_below sel.from (length es) ≡ true)
    × (is_ordered sel.from sel.to ≡ false)
IsSelectionFault s sel es Memory = ⊤
