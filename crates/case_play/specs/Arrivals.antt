-- What came of a file where something else was stated.
use Rattle.std.specs.Prelude.{◌≡◌, List, length}
use Rattle.scenario_image.specs.Scenario.{Scenario}
use Rattle.trace_file.specs.declared.entry.Entry.{Entry}
use Rattle.case_text.specs.declared.file_stated.FileStated.{FileStated}
use Rattle.case_text.specs.declared.file_stated.FileStated.TheVariants as states
use Rattle.case_play.specs.declared.came.Came.{Came}
use Rattle.case_play.specs.declared.came.Came.TheVariants as came
use Rattle.case_play.specs.Came.{ImageCame, TraceCame, TextCame}
use Rattle.case_play.specs.declared.finding.Finding.{Finding}
use Rattle.case_play.specs.declared.finding.Finding.TheVariants as found
use Rattle.case_play.specs.Answers.{count_steps}
use Rattle.case_play.specs.EntryWords.{entries_in_words}

-- of a scenario: its image or its canonical text, where one is stated; else how many classes, devices and steps it has
abbrev pub ScenarioCame : FileStated → Scenario → Came → Type 0
ScenarioCame (states.Image digits) s x = ImageCame s x
ScenarioCame states.Text s x = TextCame s x
ScenarioCame stated s x = x ≡ came.Ok (length s.classes) (length s.rows) (count_steps s)

-- of entries: their trace file, or they in words, where these are stated; else how many there are
abbrev pub EntriesCame : FileStated → List Entry → Came → Type 0
EntriesCame (states.Trace digits) es x = TraceCame es x
EntriesCame states.Entries es x = x ≡ came.Entries (entries_in_words es)
EntriesCame stated es x = x ≡ came.OkEntries (length es)

-- of what is found; of a fault its words
abbrev pub FindingCame : FileStated → Finding → Came → Type 0
FindingCame stated (found.Scenario s) x = ScenarioCame stated s x
FindingCame stated (found.Entries es) x = EntriesCame stated es x
FindingCame stated (found.Fault words) x = x ≡ came.Fault words
