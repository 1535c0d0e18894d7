-- What the program prints of a scenario.
use Rattle.std.specs.Prelude.{ℕ, List, ◌++◌, length, codes}
use Rattle.std.specs.List.{sum_by}
use Rattle.std.specs.Fmt.{decimal}
use Rattle.scenario_image.specs.Scenario.{Scenario}
use Rattle.scenario_words.specs.Words.{ended_line}

abbrev pub ok_line : ℕ → ℕ → ℕ → List ℕ
ok_line classes devices steps =
    ended_line (codes "ok " ++ decimal classes ++ codes " classes " ++ decimal devices ++ codes " devices "
    ++ decimal steps ++ codes " steps")

-- `ok C classes D devices S steps`: how many a scenario has; the steps of all its rows together
abbrev pub count_line : Scenario → List ℕ
count_line s = ok_line (length s.classes) (length s.rows) (sum_by (λ row. length row.steps) s.rows)
