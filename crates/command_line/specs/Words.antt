-- The words of the command line: which `clap` takes, and what they then ask for.
use Rattle.std.specs.Prelude.{⊤, ◌≡◌, ◌≢◌, ◌↔◌, ◌⊎◌, ◌<◌, ◌^◌, ◌||◌, ℕ, pos, Bool, true, false, IsTrue, List, [], ◌∷◌}
use Rattle.std.specs.Prelude.{Option, None, Some, fold, is_some, map, not, option_map, unwrap_or, codes}
use Rattle.std.specs.Str.{bytes_eq}
use Rattle.std.specs.Str.Parse.{IsNumeral, digits_value, without_leading_plus}
use Rattle.clap.specs.Words.{App, IsAmong, Row, Rule, Text as Word, all_of, fault_of, first_of, new_app, new_rule}
use Rattle.clap.specs.Words.{one_of, subcommand_of, with_rule, with_subcommand}
use Rattle.clap.specs.declared.builder.action.ArgAction.TheVariants.{Append, SetTrue}
use Rattle.clap.specs.declared.builder.value_parser.ValueParser.TheVariants as parsers
use Rattle.clap.specs.declared.error.kind.ErrorKind.{ErrorKind}
use Rattle.clap.specs.declared.error.kind.ErrorKind.TheVariants.{DisplayHelp, DisplayVersion}
use Rattle.command_line.specs.declared.words.Job.{Job}
use Rattle.command_line.specs.declared.words.Job.TheVariants as jobs
use Rattle.command_line.specs.declared.words.Live.{Live}
use Rattle.command_line.specs.declared.fleet_words.AskedFleet.{AskedFleet}
use Rattle.command_line.specs.declared.verdict_words.AskedVerdict.{AskedVerdict}
use Rattle.command_line.specs.declared.wire_words.AskedWire.{AskedWire}
use Rattle.command_line.specs.declared.words.Asked.{Asked}
use Rattle.command_line.specs.declared.words.Asked.TheVariants as asked
use Rattle.command_line.specs.declared.words.EntriesForm.{EntriesForm}
use Rattle.command_line.specs.declared.words.EntriesForm.TheVariants as entries
use Rattle.command_line.specs.declared.words.TraceForm.{TraceForm}
use Rattle.command_line.specs.declared.words.TraceForm.TheVariants as forms
use Rattle.command_line.specs.declared.words.CaseForm.{CaseForm}
use Rattle.command_line.specs.declared.words.CaseForm.TheVariants as case_forms

-- ---- what is taken

-- a word that has to be there
abbrev pub required_word : Word → Rule
required_word name = record (new_rule name) { required = true }

-- a word that has to be there, and may be there several times
abbrev pub several : Word → Rule
several name = record (required_word name) { action = Some Append }

-- a word that may be there
abbrev pub may_stand : Word → Rule
may_stand name = new_rule name

-- `--NAME TEXT`
abbrev pub text_option : Word → Rule
text_option name = record (new_rule name) { long = Some name; value_names = 1 }

-- `--NAME TEXT`, as often as one likes
abbrev pub text_options : Word → Rule
text_options name = record (text_option name) { action = Some Append }

-- a number from `least` to `most` that has to be there
abbrev pub needed_number : Word → ℕ → ℕ → Rule
needed_number name least most = record (required_word name) { parser = Some (parsers.Signed (pos least) (pos most)) }

-- `--NAME N`, a number from `least` to `most`
abbrev pub optional_from : Word → ℕ → ℕ → Rule
optional_from name least most =
    record (new_rule name) { long = Some name; value_names = 1; parser = Some (parsers.Signed (pos least) (pos most)) }

-- `--NAME N`, a number from 0 to `most`
abbrev pub optional_number : Word → ℕ → Rule
optional_number name most = optional_from name 0 most

-- `--NAME`
abbrev pub flag : Word → Rule
flag name = record (new_rule name) { long = Some name; action = Some SetTrue }

-- the same; where it is not given, `default`
abbrev pub number : Word → ℕ → Word → Rule
number name most default = record (optional_number name most) { defaults = default ∷ [] }

-- the same, a number from `least` to `most`
abbrev pub number_from : Word → ℕ → ℕ → Word → Rule
number_from name least most default =
    record (number name most default) { parser = Some (parsers.Signed (pos least) (pos most)) }

-- `--NAME TEXT`; where it is not given, `default`
abbrev pub text_or : Word → Word → Rule
text_or name default = record (text_option name) { defaults = default ∷ [] }

-- a subcommand has to be there, and there is a version
abbrev pub with_settings : App → App
with_settings a = record a { top = record a.top { subcommand_required = true; has_version = true } }

-- a command with these arguments
abbrev pub command : Word → List Rule → App
command name rules = fold with_rule (new_app name) rules

abbrev pub commands : List App
commands =
    -- `one HEX [--json] [--why]`
    command (codes "one") (required_word (codes "HEX") ∷ flag (codes "json") ∷ flag (codes "why") ∷ [])
    -- `say HEX [--server S]`
    ∷ command (codes "say") (required_word (codes "HEX") ∷ number_from (codes "server") 1 65534 (codes "1") ∷ [])
    -- `spell STATEMENT ..`
    ∷ command (codes "spell") (several (codes "STATEMENT") ∷ [])
    -- `play FILE [--device N] [--from N] [--to N] [--json] [--why]`
    ∷ command (codes "play") (required_word (codes "FILE") ∷ optional_number (codes "device") 65535
    ∷ optional_number (codes "from") 4294967295 ∷ optional_number (codes "to") 4294967295 ∷ flag (codes "json")
    ∷ flag (codes "why") ∷ [])
    -- `asm IN OUT`
    ∷ command (codes "asm") (required_word (codes "IN") ∷ required_word (codes "OUT") ∷ [])
    -- `dis IN`
    ∷ command (codes "dis") (required_word (codes "IN") ∷ [])
    -- `run IMAGE [--workers N] [--batch N] [--trace FILE]`
    ∷ command (codes "run") (required_word (codes "IMAGE") ∷ number (codes "workers") 65535 (codes "2")
    ∷ number (codes "batch") 4294967295 (codes "16") ∷ text_option (codes "trace") ∷ [])
    -- `check IMAGE TRACE [--json]`
    ∷ command (codes "check") (required_word (codes "IMAGE") ∷ required_word (codes "TRACE") ∷ flag (codes "json") ∷ [])
    -- `show IMAGE TRACE [--device N] [--from N] [--to N] [--json] [--why]`
    ∷ command (codes "show") (required_word (codes "IMAGE") ∷ required_word (codes "TRACE") ∷ optional_number
    (codes "device") 65535
    ∷ optional_number (codes "from") 4294967295 ∷ optional_number (codes "to") 4294967295 ∷ flag (codes "json")
    ∷ flag (codes "why") ∷ [])
    -- `pcap IMAGE TRACE OUT`
    ∷ command (codes "pcap") (required_word (codes "IMAGE") ∷ required_word (codes "TRACE") ∷ required_word
    (codes "OUT") ∷ [])
    -- `debug IMAGE TRACE [--why]`
    ∷ command (codes "debug") (required_word (codes "IMAGE") ∷ required_word (codes "TRACE") ∷ flag (codes "why") ∷ [])
    -- `live IMAGE DEVICE PORT TURNS [--save FILE] [--show]`
    ∷ command (codes "live") (required_word (codes "IMAGE") ∷ needed_number (codes "DEVICE") 0 65535
    ∷ needed_number (codes "PORT") 0 65535 ∷ needed_number (codes "TURNS") 1 100000 ∷ text_option (codes "save")
    ∷ flag (codes "show") ∷ [])
    -- `fleet FILE PORT [--seconds N] [--devices A-B] [--copies N] [--play] [--loop] [--bind ADDRESS]
    -- [--server S=ADDRESS[:PORT]] .. [--ports FILE] [--lose-in WHICH] [--lose-out WHICH] [--twice WHICH]
    -- [--swap WHICH] [--late WHICH] [--late-by N] [--seed N] [--save FILE] [--expect FILE] [--junit FILE]
    -- [--strict] [--show] [--json]`
    ∷ command (codes "fleet") (required_word (codes "FILE") ∷ needed_number (codes "PORT") 0 65535
    ∷ optional_from (codes "seconds") 1 4294967295 ∷ text_option (codes "devices")
    ∷ optional_from (codes "copies") 1 16384 ∷ flag (codes "play") ∷ flag (codes "loop")
    ∷ text_or (codes "bind") (codes "127.0.0.1")
    ∷ text_options (codes "server") ∷ text_option (codes "ports") ∷ text_option (codes "lose-in")
    ∷ text_option (codes "lose-out") ∷ text_option (codes "twice") ∷ text_option (codes "swap")
    ∷ text_option (codes "late") ∷ number_from (codes "late-by") 1 4294967295 (codes "1")
    ∷ number (codes "seed") 4294967295 (codes "0") ∷ text_option (codes "save") ∷ text_option (codes "expect")
    ∷ text_option (codes "junit") ∷ flag (codes "strict") ∷ flag (codes "show") ∷ flag (codes "json") ∷ [])
    -- `join OUT IMAGE ..`
    ∷ command (codes "join") (required_word (codes "OUT") ∷ several (codes "IMAGE") ∷ [])
    -- `lint FILE [--only RULE] .. [--not RULE] .. [--json] [--why]`,
    -- `lint --rules [--only RULE] .. [--not RULE] ..`
    ∷ command (codes "lint") (may_stand (codes "FILE") ∷ text_options (codes "only") ∷ text_options (codes "not")
    ∷ flag (codes "rules") ∷ flag (codes "json") ∷ flag (codes "why") ∷ [])
    -- `test FILE .. [--only WORDS] [--on IMAGE] [--device N] [--list] [--tap] [--json] [--junit FILE]`
    ∷ command (codes "test") (several (codes "FILE") ∷ text_option (codes "only") ∷ text_option (codes "on")
    ∷ optional_number (codes "device") 65535 ∷ flag (codes "list") ∷ flag (codes "tap") ∷ flag (codes "json")
    ∷ text_option (codes "junit") ∷ []) ∷ []

-- the program
abbrev pub bench_app : App
bench_app = fold (λ app c. with_subcommand app c.top) (with_settings (new_app (codes "lwbench"))) commands

-- ---- what is asked for

-- the word is this number, in decimal and below 2 ^ bits
pub record SpellsNumber (bits : ℕ) (word : Word) (n : ℕ) : Type 0 where
  pub digits : IsNumeral 10 (without_leading_plus word)
  pub value : n ≡ digits_value 10 (without_leading_plus word)
  pub bound : n < 2 ^ bits

-- there is a word, and it is this number
abbrev pub IsNumber : ℕ → Option Word → ℕ → Type 0
IsNumber bits None n = ⊥
IsNumber bits (Some word) n = SpellsNumber bits word n

-- there is no word, or it is not a number
abbrev pub IsNoNumber : ℕ → Option Word → Type 0
IsNoNumber bits word = (n : ℕ) → IsNumber bits word n → ⊥

-- a number that may be there: it is this one; or there is none
abbrev pub IsOptionalNumber : ℕ → Option Word → Option ℕ → Type 0
IsOptionalNumber bits word None = IsNoNumber bits word
IsOptionalNumber bits word (Some n) = IsNumber bits word n

-- whether a flag is given: its word is then `true`
abbrev pub is_true : Option Word → Bool
is_true None = false
is_true (Some word) = bytes_eq word (codes "true")

abbrev pub is_set : Word → List Row → Bool
is_set name rows = is_true (first_of name rows)

-- of a subcommand with its values: the text that has this name
abbrev pub IsText : Word × List Row → Word → Word → Type 0
IsText found name text = first_of name found.1 ≡ Some text

-- the texts that have this name, in their order
abbrev pub AreTexts : Word × List Row → Word → List Word → Type 0
AreTexts found name texts = all_of name found.1 ≡ Some texts

-- the words of `test`: its files, and how the titles of cases begin
abbrev pub AsksForCases : Word × List Row → List Word → Option Word → Type 0
AsksForCases found files only =
    (found.0 ≡ codes "test") × AreTexts found (codes "FILE") files × (first_of (codes "only") found.1 ≡ only)

-- the words of `show` and `play` ask for entries in this form: `--json` and `--why` may stand beside each other
abbrev pub AsksForEntries : List Row → EntriesForm → Type 0
AsksForEntries rows entries.Text = (is_set (codes "json") rows ≡ false) × (is_set (codes "why") rows ≡ false)
AsksForEntries rows entries.Reasons = (is_set (codes "json") rows ≡ false) × (is_set (codes "why") rows ≡ true)
AsksForEntries rows entries.JsonLines = (is_set (codes "json") rows ≡ true) × (is_set (codes "why") rows ≡ false)
AsksForEntries rows entries.ReasonedLines = (is_set (codes "json") rows ≡ true) × (is_set (codes "why") rows ≡ true)

-- the words of `one` and `lint` ask for this form: `--json` and `--why` exclude each other
abbrev pub AsksForForm : List Row → TraceForm → Type 0
AsksForForm rows forms.Text = (is_set (codes "json") rows ≡ false) × (is_set (codes "why") rows ≡ false)
AsksForForm rows forms.Reasons = (is_set (codes "json") rows ≡ false) × (is_set (codes "why") rows ≡ true)
AsksForForm rows forms.JsonLines = (is_set (codes "json") rows ≡ true) × (is_set (codes "why") rows ≡ false)

-- the words of `test` ask for this form: `--tap` and `--json` exclude each other
abbrev pub AsksForCaseForm : List Row → CaseForm → Type 0
AsksForCaseForm rows case_forms.Text = (is_set (codes "tap") rows ≡ false) × (is_set (codes "json") rows ≡ false)
AsksForCaseForm rows case_forms.Tap = (is_set (codes "tap") rows ≡ true) × (is_set (codes "json") rows ≡ false)
AsksForCaseForm rows case_forms.JsonLines = (is_set (codes "tap") rows ≡ false) × (is_set (codes "json") rows ≡ true)

-- the words of `test` name no recorded session, and no device of one
pub record IsWithoutRecord (rows : List Row) : Type 0 where
  pub no_image : first_of (codes "on") rows ≡ None
  pub no_device : IsNoNumber 16 (one_of (codes "device") rows)

-- other forms are there of what is found in a file, and of nothing else
abbrev pub MayHaveForm : {X : Type 0} → Option X → TraceForm → Type 0
MayHaveForm None form = form ≡ forms.Text
MayHaveForm (Some file) form = ⊤

-- a subcommand with its values asks for this
abbrev pub AsksFor : Word × List Row → Job → Type 0
AsksFor found (jobs.One hex form) =
    (found.0 ≡ codes "one") × IsText found (codes "HEX") hex.now × AsksForForm found.1 form
AsksFor found (jobs.Say hex server) =
    (found.0 ≡ codes "say") × IsText found (codes "HEX") hex.now × (hex.now ≢ codes "-")
    × IsNumber 16 (one_of (codes "server") found.1) server
AsksFor found (jobs.Spell statement) =
    (found.0 ≡ codes "spell") × AreTexts found (codes "STATEMENT") (map (λ w. w.now) statement.items)
AsksFor found (jobs.Play file device from to form) =
    (found.0 ≡ codes "play") × IsText found (codes "FILE") file.now
    × IsOptionalNumber 16 (one_of (codes "device") found.1) device
    × IsOptionalNumber 32 (one_of (codes "from") found.1) from × IsOptionalNumber 32 (one_of (codes "to") found.1) to
    × AsksForEntries found.1 form
AsksFor found (jobs.Asm input output) =
    (found.0 ≡ codes "asm") × IsText found (codes "IN") input.now × IsText found (codes "OUT") output.now
AsksFor found (jobs.Dis input) = (found.0 ≡ codes "dis") × IsText found (codes "IN") input.now
AsksFor found (jobs.Run image workers batch trace) =
    (found.0 ≡ codes "run") × IsText found (codes "IMAGE") image.now
    × IsNumber 16 (one_of (codes "workers") found.1) workers × IsNumber 32 (one_of (codes "batch") found.1) batch
    × (first_of (codes "trace") found.1 ≡ option_map (λ p. p.now) trace)
AsksFor found (jobs.Check image trace json) =
    (found.0 ≡ codes "check") × IsText found (codes "IMAGE") image.now × IsText found (codes "TRACE") trace.now
    × (is_set (codes "json") found.1 ≡ json)
AsksFor found (jobs.Show image trace device from to form) =
    (found.0 ≡ codes "show") × IsText found (codes "IMAGE") image.now × IsText found (codes "TRACE") trace.now
    × IsOptionalNumber 16 (one_of (codes "device") found.1) device
    × IsOptionalNumber 32 (one_of (codes "from") found.1) from × IsOptionalNumber 32 (one_of (codes "to") found.1) to
    × AsksForEntries found.1 form
AsksFor found (jobs.Pcap image trace output) =
    (found.0 ≡ codes "pcap") × IsText found (codes "IMAGE") image.now × IsText found (codes "TRACE") trace.now
    × IsText found (codes "OUT") output.now
AsksFor found (jobs.Debug image trace reasons) =
    (found.0 ≡ codes "debug") × IsText found (codes "IMAGE") image.now × IsText found (codes "TRACE") trace.now
    × (is_set (codes "why") found.1 ≡ reasons)
AsksFor found (jobs.Titles files only) =
    AsksForCases found (map (λ p. p.now) files.items) (option_map (λ w. w.now) only)
    × (is_set (codes "list") found.1 ≡ true) × AsksForCaseForm found.1 case_forms.Text
    × (first_of (codes "junit") found.1 ≡ None) × IsWithoutRecord found.1
AsksFor found (jobs.Test files only form junit) =
    AsksForCases found (map (λ p. p.now) files.items) (option_map (λ w. w.now) only)
    × (is_set (codes "list") found.1 ≡ false) × AsksForCaseForm found.1 form
    × (first_of (codes "junit") found.1 ≡ option_map (λ p. p.now) junit) × IsWithoutRecord found.1
AsksFor found (jobs.Expect files image device only form junit) =
    AsksForCases found (map (λ p. p.now) files.items) (option_map (λ w. w.now) only)
    × (is_set (codes "list") found.1 ≡ false) × AsksForCaseForm found.1 form
    × (first_of (codes "junit") found.1 ≡ option_map (λ p. p.now) junit) × IsText found (codes "on") image.now
    × IsOptionalNumber 16 (one_of (codes "device") found.1) device
AsksFor found (jobs.Join output images) =
    (found.0 ≡ codes "join") × IsText found (codes "OUT") output.now
    × AreTexts found (codes "IMAGE") (map (λ p. p.now) images.items)
-- `--rules` stands in the place of a file
AsksFor found (jobs.Lint file only except form) =
    (found.0 ≡ codes "lint") × (first_of (codes "FILE") found.1 ≡ option_map (λ p. p.now) file)
    × (is_set (codes "rules") found.1 ≡ not (is_some file))
    × (unwrap_or (all_of (codes "only") found.1) [] ≡ map (λ w. w.now) only.items)
    × (unwrap_or (all_of (codes "not") found.1) [] ≡ map (λ w. w.now) except.items)
    × AsksForForm found.1 form × MayHaveForm file form

-- a subcommand with its values asks for this device on the network
abbrev pub AsksToLive : Word × List Row → Live → Type 0
AsksToLive found live =
    (found.0 ≡ codes "live") × IsText found (codes "IMAGE") live.image.now
    × IsNumber 16 (one_of (codes "DEVICE") found.1) live.device × IsNumber 16 (one_of (codes "PORT") found.1) live.port
    × IsNumber 32 (one_of (codes "TURNS") found.1) live.turns
    × (first_of (codes "save") found.1 ≡ option_map (λ p. p.now) live.save)
    × (is_set (codes "show") found.1 ≡ live.show)

-- the words of `fleet` ask for this wire
abbrev pub AsksForWire : List Row → AskedWire → Type 0
AsksForWire rows wire =
    (first_of (codes "lose-in") rows ≡ option_map (λ w. w.now) wire.lose_in)
    × (first_of (codes "lose-out") rows ≡ option_map (λ w. w.now) wire.lose_out)
    × (first_of (codes "twice") rows ≡ option_map (λ w. w.now) wire.twice)
    × (first_of (codes "swap") rows ≡ option_map (λ w. w.now) wire.swap)
    × (first_of (codes "late") rows ≡ option_map (λ w. w.now) wire.late)
    × IsNumber 32 (one_of (codes "late-by") rows) wire.late_by × IsNumber 32 (one_of (codes "seed") rows) wire.seed

-- the second may be there only where the first is
abbrev pub StandsWith : {X Y : Type 0} → Option X → Option Y → Type 0
StandsWith None (Some y) = ⊥
StandsWith x y = ⊤

-- the words of `fleet` ask for this verdict: `--expect` goes with `--save`, and `--junit` with `--expect`
pub record AsksForVerdict (rows : List Row) (verdict : AskedVerdict) : Type 0 where
  pub file : first_of (codes "expect") rows ≡ option_map (λ p. p.now) verdict.file
  pub junit : first_of (codes "junit") rows ≡ option_map (λ p. p.now) verdict.junit
  pub saved : StandsWith (first_of (codes "save") rows) verdict.file
  pub reported : StandsWith verdict.file verdict.junit

-- a subcommand with its values asks for these devices on the network
abbrev pub AsksForFleet : Word × List Row → AskedFleet → Type 0
AsksForFleet found fleet =
    (found.0 ≡ codes "fleet") × IsText found (codes "FILE") fleet.file.now
    × IsNumber 16 (one_of (codes "PORT") found.1) fleet.port
    × IsOptionalNumber 32 (one_of (codes "seconds") found.1) fleet.seconds
    × (first_of (codes "devices") found.1 ≡ option_map (λ w. w.now) fleet.devices)
    × IsOptionalNumber 16 (one_of (codes "copies") found.1) fleet.copies
    × ((is_set (codes "play") found.1 || is_set (codes "loop") found.1) ≡ fleet.play)
    × (is_set (codes "loop") found.1 ≡ fleet.repeat)
    × IsText found (codes "bind") fleet.bind.now
    × (unwrap_or (all_of (codes "server") found.1) [] ≡ map (λ w. w.now) fleet.servers.items)
    × (first_of (codes "ports") found.1 ≡ option_map (λ p. p.now) fleet.ports)
    × AsksForWire found.1 fleet.wire × (first_of (codes "save") found.1 ≡ option_map (λ p. p.now) fleet.save)
    × AsksForVerdict found.1 fleet.verdict × (is_set (codes "strict") found.1 ≡ fleet.strict)
    × (is_set (codes "show") found.1 ≡ fleet.show) × (is_set (codes "json") found.1 ≡ fleet.json)

-- a subcommand with its values asks what the log says that standard input has: HEX is `-`
abbrev pub AsksForLog : Word × List Row → ℕ → Type 0
AsksForLog found server =
    (found.0 ≡ codes "say") × IsText found (codes "HEX") (codes "-")
    × IsNumber 16 (one_of (codes "server") found.1) server

-- a subcommand with its values asks for one of these; none asks for a text
abbrev pub MayAskFor : Word × List Row → Asked → Type 0
MayAskFor found (asked.Job job) = AsksFor found job
MayAskFor found (asked.Log server) = AsksForLog found server
MayAskFor found (asked.Live live) = AsksToLive found live
MayAskFor found (asked.Fleet fleet) = AsksForFleet found fleet
MayAskFor found (asked.Text text is_mistake) = ⊥

-- these words, of which the first is the program's name, ask for this
pub record IsAsked (words : List Word) (wanted : Asked) : Type 0 where
  pub found : Word × List Row
  pub entered : subcommand_of bench_app words ≡ Some found
  pub asks : MayAskFor found wanted

-- the kinds of the errors that `clap` may have at these words: none where it takes them
unfoldable pub refusals : List Word → List ErrorKind
refusals words = fault_of bench_app words

-- an error of one of these kinds is a mistake in the words, or not: help and the version are none
abbrev pub IsRefusedAs : List ErrorKind → Bool → Type 0
IsRefusedAs kinds is_mistake =
    (kind : ErrorKind) × IsAmong kind kinds
    × (IsTrue is_mistake ↔ ((kind ≢ DisplayHelp) × (kind ≢ DisplayVersion)))

-- the words ask for nothing
abbrev pub AsksNothing : List Word → Type 0
AsksNothing words = (wanted : Asked) → IsAsked words wanted → ⊥

-- what the words ask for; or a text, where `clap` refuses them or they ask for nothing
abbrev pub IsReadAs : List Word → Asked → Type 0
IsReadAs words (asked.Job job) = (refusals words ≡ []) × IsAsked words (asked.Job job)
IsReadAs words (asked.Log server) = (refusals words ≡ []) × IsAsked words (asked.Log server)
IsReadAs words (asked.Live live) = (refusals words ≡ []) × IsAsked words (asked.Live live)
IsReadAs words (asked.Fleet fleet) = (refusals words ≡ []) × IsAsked words (asked.Fleet fleet)
IsReadAs words (asked.Text text is_mistake) =
    IsRefusedAs (refusals words) is_mistake ⊎ ((refusals words ≡ []) × (is_mistake ≡ true) × AsksNothing words)
