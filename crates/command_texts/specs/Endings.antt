-- What the program prints of a run at its end.
use Rattle.std.specs.Prelude.{ℕ, List, [], ◌∷◌, ◌++◌, codes}
use Rattle.std.specs.Fmt.{decimal}
use Rattle.std.specs.List.{flat_map}
use Rattle.scenario_words.specs.Words.{ended_line}

-- `done E`: all devices are at the end of their rows, after E entries
abbrev pub done_line : ℕ → List ℕ
done_line count = ended_line (codes "done " ++ decimal count)

-- a device, after a space
abbrev pub device_word : ℕ → List ℕ
device_word d = codes " " ++ decimal d

abbrev pub device_words : List ℕ → List ℕ
device_words devices = flat_map device_word devices

abbrev pub stalled_text : ℕ → List ℕ → List ℕ
stalled_text count devices = ended_line (codes "stalled " ++ decimal count ++ codes " waiting" ++ devices)

-- `stalled E waiting D ..`: after E entries these devices are not at the end of their rows
abbrev pub stalled_line : ℕ → List ℕ → List ℕ
stalled_line count devices = stalled_text count (device_words devices)

-- the line of a run of n entries, after which these devices are not at the end of their rows
abbrev pub end_line : ℕ → List ℕ → List ℕ
end_line count [] = done_line count
end_line count (d ∷ ds) = stalled_line count (d ∷ ds)
