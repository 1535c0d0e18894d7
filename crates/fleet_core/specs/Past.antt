-- The entries that a replay has taken.
use Rattle.std.specs.Prelude.{List, [], ◌∷◌, ◌++◌}
use Rattle.trace_file.specs.declared.entry.Entry.{Entry}
use Rattle.fleet_core.specs.declared.past.Past.{Past, Nothing, Then'}

-- in the order in which they were taken
abbrev pub past_entries : Past → List Entry
past_entries Nothing = []
past_entries (Then' at before entry) = past_entries before ++ entry.value ∷ []
