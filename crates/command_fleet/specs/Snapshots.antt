-- What is saved of a session while it goes on.
use Rattle.std.specs.Prelude.{⊤, ℕ, ◌≡◌, ◌+◌, ◌≤◌, ◌<◌, ◌&&◌, Bool, false, List, [], ◌∷◌, ◌++◌, length, Option, None}
use Rattle.std.specs.Prelude.{Some}
use Rattle.std.specs.Prelude.{codes, option_map}
use Rattle.command_line.specs.declared.fleet_words.AskedFleet.{AskedFleet}
use Rattle.scenario_image.specs.Image.{IsImageIn}
use Rattle.scenario_image.specs.Scenario.{Scenario}
use Rattle.fleet_link.specs.declared.slot.Slot.{Slot}
use Rattle.fleet_link.specs.Saved.{IsSaved}
use Rattle.fleet_link.specs.Serving.{AreRepeated, AreSwept, IsFleet}
use Rattle.fleet_link.specs.Traffic.{Traffic}
use Rattle.command_files.specs.Files.{Grows, MadeFile}

-- the place of the snapshots of a session that is to be saved at this path: `PATH.snapshot`
abbrev pub snapshot_path : List ℕ → List ℕ
snapshot_path path = path ++ codes ".snapshot"

-- of a turn of the devices, the seconds of the session at which it began and ended; the devices at its end; and the
-- bytes of the snapshot that was made then
pub record Snapshot : Type 0 where
  pub began : ℕ
  pub second : ℕ
  pub slots : List Slot
  pub bytes : List ℕ

-- It was made at the end of the first turn after which 60 seconds or more had passed since the last one, or since the
-- start. By then the devices had been served, as at a session's end, on ports that had told this, and each that goes on
-- had done what it had to do by the second at which the turn began. The bytes are the image, in version 2, of the
-- scenario of their steps.
pub record IsSnapshot (part : Scenario) (played repeat : Bool) (before : ℕ → Option Traffic) (last : ℕ) (s : Snapshot)
    : Type 0 where
  pub since : last ≤ s.began
  pub first : s.began < last + 60
  pub due : last + 60 ≤ s.second
  pub told : ℕ → Option Traffic
  pub fleet : IsFleet part played before s.slots s.second false told
  pub repeated : AreRepeated s.slots repeat
  pub swept : AreSwept s.slots (length s.slots) s.began
  pub scenario : Scenario
  pub saved : IsSaved part s.slots scenario
  pub image : IsImageIn 2 s.bytes scenario

-- the second of the last of snapshots, which stand the last one first; 0, the start, where there is none
abbrev pub last_of : List Snapshot → ℕ
last_of [] = 0
last_of (s ∷ earlier) = s.second

-- they were made one after another
abbrev pub AreSnapshots : Scenario → Bool → Bool → (ℕ → Option Traffic) → List Snapshot → Type 0
AreSnapshots part played repeat before [] = ⊤
AreSnapshots part played repeat before (s ∷ earlier) =
    IsSnapshot part played repeat before (last_of earlier) s × AreSnapshots part played repeat before earlier

-- their files, the first one first; each replaces the one before it
abbrev pub snapshot_files : List ℕ → List Snapshot → List MadeFile
snapshot_files path [] = []
snapshot_files path (s ∷ earlier) =
    snapshot_files path earlier ++ (record { path = snapshot_path path; bytes = s.bytes }) ∷ []

-- Up to this second of a session its snapshots were made beside the path, the last one at that second, and no other
-- file. Fewer than 60 seconds have passed since, so none is left out.
pub record AreKeptAt (path : List ℕ) (part : Scenario) (played repeat : Bool) (before : ℕ → Option Traffic)
    (last second : ℕ) (old new : Option (List MadeFile)) : Type 0 where
  pub snapshots : List Snapshot
  pub each : AreSnapshots part played repeat before snapshots
  pub last_is : last ≡ last_of snapshots
  pub since : last ≤ second
  pub soon : second < last + 60
  pub made : Grows old new (snapshot_files path snapshots)

-- the same where there is a path; else no file was made
abbrev pub AreKeptIf : Option (List ℕ) → Scenario → Bool → Bool → (ℕ → Option Traffic) → ℕ → ℕ → Option (List MadeFile)
    → Option (List MadeFile) → Type 0
AreKeptIf None part played repeat before last second old new = new ≡ old
AreKeptIf (Some path) part played repeat before last second old new =
    AreKeptAt path part played repeat before last second old new

-- the same of the session that is asked for
abbrev pub AreKept : AskedFleet → Scenario → (ℕ → Option Traffic) → ℕ → ℕ → Option (List MadeFile)
    → Option (List MadeFile)
    → Type 0
AreKept asked part before last second old new =
    AreKeptIf (option_map (λ p. p.now) asked.save) part asked.play (asked.play && asked.repeat) before last second old
    new
