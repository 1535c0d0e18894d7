-- What is printed of a fault with `--json`: an object, in the place of the fault's line.
use Rattle.std.specs.Prelude.{ℕ, ◌≡◌, ◌⊎◌, List, [], ◌∷◌, Option, None, Some, codes, option_map}
use Rattle.std.specs.Io.KnownBytes.{Appends}
use Rattle.std.specs.String.{string_bytes}
use Rattle.scenario_words.specs.CauseWords.{cause_words}
use Rattle.serde_json.specs.Data.{string}
use Rattle.trace_json.specs.declared.notes.FaultParts.{FaultParts}
use Rattle.trace_json.specs.Json.{object_json}
use Rattle.trace_json.specs.Notes.{fault_json}
use Rattle.trace_json.specs.Writing.{json_line}
use Rattle.command_files.specs.FaultLine.{case_cause, case_word, fault_word, place_of, word_with_cause}
use Rattle.command_files.specs.Refusals.{IsReported}
use Rattle.command_files.specs.World.{StreamFaults, Streams}
use Rattle.command_files.specs.declared.fault.Fault.{Fault}
use Rattle.command_files.specs.declared.fault.Fault.TheVariants.{Bind, Cases, Hex, NoDatagram, NoDevice, NoSuchCase, Slices}
use Rattle.command_files.specs.declared.fault.Fault.TheVariants.{Text, Wire}
use Rattle.command_files.specs.declared.refusal.Why.{Why}
use Rattle.command_files.specs.declared.refusal.Why.TheVariants.{Word}

-- ---- what the object has

-- the name of a fault: its word, and `line` for that of a line
abbrev pub object_name : Fault → List ℕ
object_name (Text fault) = codes "line"
object_name (Cases fault) = codes "line"
object_name fault = fault_word fault

-- the line that is refused
abbrev pub refused_line : Fault → Option ℕ
refused_line (Text fault) = Some fault.line
refused_line (Cases fault) = Some fault.line
refused_line _ = None

-- why it is refused
abbrev pub refusal_cause : Fault → Option (List ℕ)
refusal_cause (Text fault) = Some (cause_words fault.cause)
refusal_cause (Cases fault) = Some (word_with_cause (case_word fault.why) (case_cause fault.why))
refusal_cause _ = None

-- the file that a fault is about, unless it is about a word
abbrev pub refused_file : Fault → Option (List ℕ) → Option (List ℕ)
refused_file Hex about = None
refused_file NoDevice about = None
refused_file Bind about = None
refused_file Wire about = None
refused_file NoSuchCase about = None
refused_file NoDatagram about = None
refused_file Slices about = None
refused_file _ about = about

-- the word of a refused line that a refusal says is to blame
abbrev pub blamed_word : Why → Option (List ℕ)
blamed_word (Word word) = Some (string_bytes word)
blamed_word _ = None

-- the word that a fault is about; of a line of a scenario's text the one that is to blame
abbrev pub IsRefusedWord : Fault → Option (List ℕ) → Option (List ℕ) → Option (List ℕ) → Type 0
IsRefusedWord Hex about blamed word = word ≡ about
IsRefusedWord NoDevice about blamed word = word ≡ about
IsRefusedWord Bind about blamed word = word ≡ about
IsRefusedWord Wire about blamed word = word ≡ about
IsRefusedWord NoSuchCase about blamed word = word ≡ about
IsRefusedWord NoDatagram about blamed word = word ≡ about
IsRefusedWord Slices about blamed word = word ≡ about
IsRefusedWord (Text fault) about blamed word = word ≡ blamed
IsRefusedWord _ about blamed word = word ≡ None

-- the members of the object of a fault that is about this file or word; in a line this word is to blame, if one is
pub record ArePartsOf (about blamed : Option (List ℕ)) (fault : Fault) (parts : FaultParts) : Type 0 where
  pub name : parts.name.now ≡ object_name fault
  pub line : parts.line ≡ refused_line fault
  pub place : parts.place ≡ place_of fault
  pub cause : option_map (λ x. x.now) parts.cause ≡ refusal_cause fault
  pub word : IsRefusedWord fault about blamed (option_map (λ x. x.now) parts.word)
  pub file : option_map (λ x. x.now) parts.file ≡ refused_file fault about

-- ---- its line

-- the line of the fault's object
abbrev pub IsObjectLine : Option (List ℕ) → Option (List ℕ) → Fault → List ℕ → Type 0
IsObjectLine about blamed fault text =
    (parts : FaultParts) × ArePartsOf about blamed fault parts × (text ≡ json_line (fault_json parts))

-- where no memory is left for that: `{"fault":"memory"}`
abbrev pub memory_line : List ℕ
memory_line = json_line (object_json ((codes "fault", string (codes "memory")) ∷ []))

abbrev pub IsFaultObject : Option (List ℕ) → Option (List ℕ) → Fault → List ℕ → Type 0
IsFaultObject about blamed fault text = IsObjectLine about blamed fault text ⊎ (text ≡ memory_line)

-- standard output got this text, and standard error at most one line about the fault; or the first was not taken, and
-- the second got nothing
abbrev pub IsToldWith : StreamFaults → Streams → Streams → Option (List ℕ) → List ℕ → Type 0
IsToldWith faults before after about text =
    (Appends before.output after.output text × IsReported faults before after about)
    ⊎ (faults.output_refuses text × (after.errors ≡ before.errors))

-- the fault was told as an object
abbrev pub IsToldInJson : StreamFaults → Streams → Streams → Option (List ℕ) → Option (List ℕ) → Fault → Type 0
IsToldInJson faults before after about blamed fault =
    (text : List ℕ) × IsFaultObject about blamed fault text × IsToldWith faults before after about text
