-- Files that are written again, from what was read of them, as just these bytes.
use Rattle.std.specs.Prelude.{◌≡◌, ℕ, ◌+◌, ◌⊎◌, List, [], ◌∷◌, ◌++◌, length, codes}
use Rattle.scenario_image.specs.Image.{IsImageIn}
use Rattle.scenario_image.specs.Scenario.{Scenario}
use Rattle.trace_file.specs.declared.entry.Entry.{Entry}
use Rattle.trace_file.specs.Layout.{IsTraceFile}
use Rattle.case_text.specs.declared.file_case.FileKind.{FileKind}
use Rattle.case_text.specs.declared.file_case.FileKind.TheVariants.{Image, Trace, Text}

-- the longer list is the other one and n bytes 0 more, wherever these stand
abbrev pub HasZerosMore : ℕ → List ℕ → List ℕ → Type 0
HasZerosMore n short [] = (short ≡ []) × (n ≡ 0)
HasZerosMore n short (byte ∷ longer) =
    ((rest : List ℕ) × (short ≡ byte ∷ rest) × HasZerosMore n rest longer)
    ⊎ ((m : ℕ) × (byte ≡ 0) × (n ≡ m + 1) × HasZerosMore m short longer)

-- these bytes after the mark of an image and a version
abbrev pub after_version : ℕ → List ℕ → List ℕ
after_version version rest = codes "LWSC" ++ version ∷ rest

-- one file is an image of version 1, and the other one of version 2 says the same: each of n classes begins with a byte
-- 0 there, by which its devices send Non-confirmable notifications
pub record IsNewer (classes : ℕ) (file written : List ℕ) : Type 0 where
  pub old : List ℕ
  pub old_is : file ≡ after_version 1 old
  pub new : List ℕ
  pub new_is : written ≡ after_version 2 new
  pub zeros : HasZerosMore classes old new

-- what is written of an image of so many classes: the same bytes, or those of version 2 where it is of version 1
abbrev pub IsSameImage : ℕ → List ℕ → List ℕ → Type 0
IsSameImage classes file written = (written ≡ file) ⊎ IsNewer classes file written

-- the image of a scenario in the version that is written
pub record IsWrittenAs (file : List ℕ) (s : Scenario) : Type 0 where
  pub written : List ℕ
  pub image : IsImageIn 2 written s
  pub same : IsSameImage (length s.classes) file written

-- a file in which a scenario was found is just what is written of it. A text may be another one than the canonical text
abbrev pub IsKept : FileKind → List ℕ → Scenario → Type 0
IsKept Image file s = IsWrittenAs file s
IsKept Trace file s = ⊥
IsKept Text file s = Unit {0}

-- the same of one in which entries were found
abbrev pub AreKept : List ℕ → List Entry → Type 0
AreKept file es = IsTraceFile file es
