-- What is told of a fault as an object, put together from its parts.
use Rattle.std.proofs.Common.{◌≡◌, ℕ, List, Option, Result, Ok, Err, OnErr, OnOk, codes, option_map, inl, inr}
use Rattle.std.proofs.Common.{refl}
use Rattle.std.specs.Io.KnownBytes.{Appends}
use Rattle.trace_json.specs.declared.notes.FaultParts.{FaultParts}
use Rattle.trace_json.specs.Notes.{fault_json}
use Rattle.trace_json.specs.Writing.{json_line}
use Rattle.json.specs.Print.{escape_byte}
use Rattle.scenario_words.specs.Words.{ended_line}
use Rattle.command_files.specs.FaultLine.{place_of}
use Rattle.command_files.specs.Refusals.{IsReported}
use Rattle.command_files.specs.World.{StreamFaults, Streams}
use Rattle.command_files.specs.declared.fault.Fault.{Fault}
use Rattle.command_json.specs.Told.{ArePartsOf, IsFaultObject, IsObjectLine, IsRefusedWord, IsToldInJson, memory_line}
use Rattle.command_json.specs.Told.{object_name, refusal_cause, refused_file, refused_line}

pub object_line : (about blamed : Option (List ℕ)) (fault : Fault) (parts : FaultParts) (text : List ℕ)
    → parts.name.now ≡ object_name fault → parts.line ≡ refused_line fault → parts.place ≡ place_of fault
    → option_map (λ x. x.now) parts.cause ≡ refusal_cause fault
    → IsRefusedWord fault about blamed (option_map (λ x. x.now) parts.word)
    → option_map (λ x. x.now) parts.file ≡ refused_file fault about → text ≡ json_line (fault_json parts)
    → IsObjectLine about blamed fault text
object_line about blamed fault parts text name line place cause word file is = (
  parts,
  record { name = name; line = line; place = place; cause = cause; word = word; file = file },
  is,
)

-- the line of a lack of memory, as it is printed
memory_is : ended_line (codes "{\"fault\":\"memory\"}") ≡ memory_line
unfolding json_line escape_byte
memory_is = refl

pub printed_so : (about blamed : Option (List ℕ)) (fault : Fault) (text : List ℕ) (before after : Option (List ℕ))
    → IsObjectLine about blamed fault text → Appends before after text
    → (text : List ℕ) × IsFaultObject about blamed fault text × Appends before after text
printed_so about blamed fault text before after is appends = (text, inl is, appends)

pub memory_printed : {T E : Type 0} → (about blamed : Option (List ℕ)) (fault : Fault) (result : Result T E)
    (before after : Option (List ℕ))
    → OnOk result (Appends before after (ended_line (codes "{\"fault\":\"memory\"}")))
    → OnOk result ((text : List ℕ) × IsFaultObject about blamed fault text × Appends before after text)
memory_printed about blamed fault (Ok x) before after h =
    (ended_line (codes "{\"fault\":\"memory\"}"), inr memory_is, h)
memory_printed about blamed fault (Err e) before after h = tt

pub unprinted_so : (about blamed : Option (List ℕ)) (fault : Fault) (text : List ℕ) (refuses : List ℕ → Type 0)
    → IsObjectLine about blamed fault text → refuses text
    → (text : List ℕ) × IsFaultObject about blamed fault text × refuses text
unprinted_so about blamed fault text refuses is refused = (text, inl is, refused)

pub memory_refused : {T E : Type 0} → (about blamed : Option (List ℕ)) (fault : Fault) (result : Result T E)
    (refuses : List ℕ → Type 0) → OnErr result (refuses (ended_line (codes "{\"fault\":\"memory\"}")))
    → OnErr result ((text : List ℕ) × IsFaultObject about blamed fault text × refuses text)
memory_refused about blamed fault (Ok x) refuses h = tt
memory_refused about blamed fault (Err e) refuses h = (ended_line (codes "{\"fault\":\"memory\"}"), inr memory_is, h)

pub told : (faults : StreamFaults) (before after : Streams) (about blamed : Option (List ℕ)) (fault : Fault)
    → ((text : List ℕ) × IsFaultObject about blamed fault text × Appends before.output after.output text)
    → IsReported faults before after about → IsToldInJson faults before after about blamed fault
told faults before after about blamed fault (text, is, printed) reported = (text, is, inl (printed, reported))

pub untold : (faults : StreamFaults) (before after : Streams) (about blamed : Option (List ℕ)) (fault : Fault)
    → ((text : List ℕ) × IsFaultObject about blamed fault text × faults.output_refuses text)
    → after.errors ≡ before.errors → IsToldInJson faults before after about blamed fault
untold faults before after about blamed fault (text, is, refused) same = (text, is, inr (refused, same))
