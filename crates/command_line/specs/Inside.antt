-- The tables of arguments, and what commands lack, as clauses of private functions name them. No promise rests on it.
use Rattle.std.specs.Prelude.{◌≡◌, ◌≢◌, ◌⊎◌, ℕ, true, List, Option, None, Some, codes, is_some, map}
use Rattle.clap.specs.Words.{App, Row, Rule, Text as Word, all_of, first_of, one_of, with_subcommand}
use Rattle.command_line.specs.declared.argument.Argument.{Argument}
use Rattle.command_line.specs.declared.argument.ArgumentKind.{ArgumentKind}
use Rattle.command_line.specs.declared.argument.ArgumentKind.TheVariants as kinds
use Rattle.command_line.specs.declared.argument.Subcommand.{Subcommand}
use Rattle.command_line.specs.declared.words.Asked.{Asked}
use Rattle.command_line.specs.declared.words.Asked.TheVariants as asked
use Rattle.command_line.specs.Words.{AsksFor, AsksForFleet, AsksForLog, AsksToLive, IsNoNumber, IsNumber, MayAskFor}
use Rattle.command_line.specs.Words.{command, flag, is_set, may_stand, needed_number, number_from, optional_from}
use Rattle.command_line.specs.Words.{required_word, several, text_option, text_options, text_or}

-- the rule of an argument of this kind that has this name
abbrev pub rule_of_kind : ArgumentKind → Word → Rule
rule_of_kind kinds.Needed name = required_word name
rule_of_kind kinds.Several name = several name
rule_of_kind kinds.MayStand name = may_stand name
rule_of_kind (kinds.NeededNumber least most) name = needed_number name least most
rule_of_kind kinds.Flag name = flag name
rule_of_kind (kinds.Text value) name = text_option name
rule_of_kind (kinds.Texts value) name = text_options name
rule_of_kind (kinds.TextOr value default) name = text_or name default.now
rule_of_kind (kinds.Number value least most) name = optional_from name least most
rule_of_kind (kinds.NumberOr value least most default) name = number_from name least most default.now

-- the rule of an argument
abbrev pub rule_for : Argument → Rule
rule_for argument = rule_of_kind argument.kind argument.name.now

-- the command of a table
abbrev pub app_for : Subcommand → App
app_for subcommand = command subcommand.name.now (map rule_for subcommand.arguments.now)

-- a program with this command
abbrev pub with_app : App → App → App
with_app app added = with_subcommand app added.top

-- a value that a run needs is not there
abbrev pub LacksRun : List Row → Type 0
LacksRun rows =
    (first_of (codes "IMAGE") rows ≡ None)
    ⊎ (IsNoNumber 16 (one_of (codes "workers") rows) ⊎ IsNoNumber 32 (one_of (codes "batch") rows))

-- a value that `say` needs is not there
abbrev pub LacksSay : List Row → Type 0
LacksSay rows = (first_of (codes "HEX") rows ≡ None) ⊎ IsNoNumber 16 (one_of (codes "server") rows)

-- a value that a device on the network needs is not there
abbrev pub LacksLive : List Row → Type 0
LacksLive rows =
    (first_of (codes "IMAGE") rows ≡ None)
    ⊎ (IsNoNumber 16 (one_of (codes "DEVICE") rows) ⊎ (IsNoNumber 16 (one_of (codes "PORT") rows)
    ⊎ IsNoNumber 32 (one_of (codes "TURNS") rows)))

-- a value that a wire needs is not there
abbrev pub LacksWire : List Row → Type 0
LacksWire rows = IsNoNumber 32 (one_of (codes "late-by") rows) ⊎ IsNoNumber 32 (one_of (codes "seed") rows)

-- `--expect` stands there without `--save`, or `--junit` without `--expect`
abbrev pub LacksVerdict : List Row → Type 0
LacksVerdict rows =
    ((first_of (codes "save") rows ≡ None) × (first_of (codes "expect") rows ≢ None))
    ⊎ ((first_of (codes "expect") rows ≡ None) × (first_of (codes "junit") rows ≢ None))

-- a value that the devices on the network need is not there
abbrev pub LacksFleet : List Row → Type 0
LacksFleet rows =
    (first_of (codes "FILE") rows ≡ None)
    ⊎ (IsNoNumber 16 (one_of (codes "PORT") rows)
    ⊎ ((first_of (codes "bind") rows ≡ None) ⊎ (LacksWire rows ⊎ LacksVerdict rows)))

-- `join` has no place for its image, or no image to join
abbrev pub LacksJoin : List Row → Type 0
LacksJoin rows = (first_of (codes "OUT") rows ≡ None) ⊎ (all_of (codes "IMAGE") rows ≡ None)

-- `--list` stands beside `--tap`, `--json`, `--junit` or `--on`, of which each wants to know what comes of cases
abbrev pub ListsAndPlays : List Row → Type 0
ListsAndPlays rows =
    (is_set (codes "list") rows ≡ true)
    × ((is_set (codes "tap") rows ≡ true)
    ⊎ ((is_set (codes "json") rows ≡ true)
    ⊎ ((first_of (codes "junit") rows ≢ None) ⊎ (first_of (codes "on") rows ≢ None))))

-- `--device` stands there without `--on`
abbrev pub NamesADeviceOfNothing : List Row → Type 0
NamesADeviceOfNothing rows =
    (first_of (codes "on") rows ≡ None) × ((n : ℕ) × IsNumber 16 (one_of (codes "device") rows) n)

-- `--tap` stands beside `--json`, of which each wants a form of its own
abbrev pub WantsTwoCaseForms : List Row → Type 0
WantsTwoCaseForms rows = (is_set (codes "tap") rows ≡ true) × (is_set (codes "json") rows ≡ true)

-- words of `test` do not go together
abbrev pub ExcludesInTest : List Row → Type 0
ExcludesInTest rows = WantsTwoCaseForms rows ⊎ (ListsAndPlays rows ⊎ NamesADeviceOfNothing rows)

-- `test` has no file, or words that do not go together
abbrev pub LacksTest : List Row → Type 0
LacksTest rows = (all_of (codes "FILE") rows ≡ None) ⊎ ExcludesInTest rows

-- `--json` stands beside `--why`, of which each wants a form of its own
abbrev pub WantsTwoForms : List Row → Type 0
WantsTwoForms rows = (is_set (codes "json") rows ≡ true) × (is_set (codes "why") rows ≡ true)

-- `--json` or `--why` stands there
abbrev pub WantsOtherForm : List Row → Type 0
WantsOtherForm rows = (is_set (codes "json") rows ≡ true) ⊎ (is_set (codes "why") rows ≡ true)

-- `lint` has neither a file nor `--rules`, or both; or words that exclude each other; or asks for rules in a form that
-- they do not have
abbrev pub LacksLint : List Row → Type 0
LacksLint rows =
    (is_set (codes "rules") rows ≡ is_some (first_of (codes "FILE") rows))
    ⊎ (WantsTwoForms rows ⊎ ((first_of (codes "FILE") rows ≡ None) × WantsOtherForm rows))

-- `one` has no datagram, or words that exclude each other
abbrev pub LacksOne : List Row → Type 0
LacksOne rows = (first_of (codes "HEX") rows ≡ None) ⊎ WantsTwoForms rows

-- `play` has no file
abbrev pub LacksPlay : List Row → Type 0
LacksPlay rows = first_of (codes "FILE") rows ≡ None

-- `show` has no image, or no trace
abbrev pub LacksShow : List Row → Type 0
LacksShow rows = (first_of (codes "IMAGE") rows ≡ None) ⊎ (first_of (codes "TRACE") rows ≡ None)

-- what words that were taken ask for, by the subcommand that was found; a text where they ask for nothing
abbrev pub IsTakenAs : Option (Word × List Row) → Asked → Type 0
IsTakenAs found (asked.Job job) = (p : Word × List Row) × (found ≡ Some p) × AsksFor p job
IsTakenAs found (asked.Log server) = (p : Word × List Row) × (found ≡ Some p) × AsksForLog p server
IsTakenAs found (asked.Live live) = (p : Word × List Row) × (found ≡ Some p) × AsksToLive p live
IsTakenAs found (asked.Fleet fleet) = (p : Word × List Row) × (found ≡ Some p) × AsksForFleet p fleet
IsTakenAs found (asked.Text text is_mistake) =
    (is_mistake ≡ true) × ((p : Word × List Row) (wanted : Asked) → found ≡ Some p → MayAskFor p wanted → ⊥)

-- no command of this name takes a list of words, and it is not `say`
abbrev pub TakesNoList : Word → Type 0
TakesNoList name =
    (name ≢ codes "say") × (name ≢ codes "spell") × (name ≢ codes "test") × (name ≢ codes "join")
    × (name ≢ codes "lint")

-- it is the name of none of these commands, which take no trace
abbrev pub IsNoPlainName : Word → Type 0
IsNoPlainName name =
    (name ≢ codes "one") × (name ≢ codes "play") × (name ≢ codes "asm") × (name ≢ codes "dis")
    × (name ≢ codes "run")
