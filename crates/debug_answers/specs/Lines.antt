-- The lines that are answered.
use Rattle.std.specs.Prelude.{ℕ, List, ◌++◌, codes}
use Rattle.std.specs.Fmt.{decimal}
use Rattle.scenario_words.specs.Words.{ended_line}
use Rattle.debugger.specs.declared.breaks.Stop.{Stop}
use Rattle.debugger.specs.declared.breaks.Stop.TheVariants as stops

-- `at N`
abbrev pub at_line : ℕ → List ℕ
at_line place = ended_line (codes "at " ++ decimal place)

-- `break ID`
abbrev pub break_line : ℕ → List ℕ
break_line id = ended_line (codes "break " ++ decimal id)

-- `cleared ID`
abbrev pub cleared_line : ℕ → List ℕ
cleared_line id = ended_line (codes "cleared " ++ decimal id)

-- a place, after ` at `
abbrev pub at_word : ℕ → List ℕ
at_word place = codes " at " ++ decimal place

abbrev pub break_text : ℕ → List ℕ → List ℕ
break_text id place = ended_line (codes "break " ++ decimal id ++ place)

-- `break ID at N`
abbrev pub break_at_line : ℕ → ℕ → List ℕ
break_at_line id place = break_text id (at_word place)

-- `end at N`
abbrev pub end_line : ℕ → List ℕ
end_line place = ended_line (codes "end at " ++ decimal place)

-- `break ID at N` or `end at N`
abbrev pub stop_line : Stop → ℕ → List ℕ
stop_line (stops.Break id) place = break_at_line id place
stop_line stops.End place = end_line place
