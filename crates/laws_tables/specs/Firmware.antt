-- The table of firmware updates (OMA LwM2M 1.1 Core, object 5 Firmware Update; the table is this profile's). Resources
-- of its instance 0 are named by their numbers: 1 Package URI, 3 State, 5 Update Result. So are the States: 0 Idle,
-- 1 Downloading, 2 Downloaded, 3 Updating.
use Rattle.std.specs.Prelude.{◌≡◌, ◌≢◌, ℕ, ◌<◌, pos, ◌==◌, true, List, [], ◌∷◌, ◌++◌, map, Option, None, Some}
use Rattle.std.specs.Prelude.{option_map, MatchBool}
use Rattle.std.specs.List.{AllByRecursion, list_any}
use Rattle.std.specs.Option.{option_or, unwrap_or}
use Rattle.lwm2m_values.specs.declared.value.Value.TheVariants as value
use Rattle.object_defs.specs.declared.path.FullPath.{FullPath}
use Rattle.instance_store.specs.Stored.{Stored, has_instance, value_at}
use Rattle.device_firmware.specs.declared.event.FirmwareEvent.{FirmwareEvent}
use Rattle.device_firmware.specs.declared.event.FirmwareEvent.TheVariants.{Cleared, Package, Uri, Update, Ended}
use Rattle.device_firmware.specs.Firmware.{event_of_package, event_of_uri, firmware_after}
use Rattle.device_template.specs.Template.{with_idle_firmware}

abbrev pub firmware_path : ℕ → FullPath
firmware_path resource = record { object = 5; instance = 0; resource = resource; part = None }

-- ---- the table

-- a line: an event, the States in which it is taken, and the Package URI, the State and the Update Result that follow;
-- with None the Package URI stays
pub record Line : Type 0 where
  pub event : FirmwareEvent
  pub states : List ℕ
  pub uri : Option (List ℕ)
  pub state : ℕ
  pub result : ℕ

abbrev pub line : FirmwareEvent → List ℕ → Option (List ℕ) → ℕ → ℕ → Line
line event states uri state result =
    record { event = event; states = states; uri = uri; state = state; result = result }

-- a download or an update that fails with this code
abbrev pub line_of_failure : ℕ → Line
line_of_failure code = line (Ended code) (1 ∷ 3 ∷ []) None 0 code

-- the lines, of which one is of another Package URI, this one
abbrev pub lines : List ℕ → List Line
lines text =
    (
    line Cleared (0 ∷ 1 ∷ 2 ∷ 3 ∷ []) (Some []) 0 0
    ∷ line Package (0 ∷ 2 ∷ []) None 2 0
    ∷ line (Uri text) (0 ∷ []) (Some text) 1 0
    ∷ line Update (2 ∷ []) None 3 0
    ∷ line (Ended 0) (1 ∷ []) None 2 0
    ∷ line (Ended 1) (3 ∷ []) None 0 1
    ∷ line (Ended 8) (3 ∷ []) None 2 8
    ∷ []
    ) ++ map line_of_failure (2 ∷ 3 ∷ 4 ∷ 5 ∷ 6 ∷ 7 ∷ 9 ∷ [])

-- ---- what a line says

-- the instance is there, and in this State
pub record IsInState (stored : Stored) (state : ℕ) : Type 0 where
  pub there : has_instance stored (record { object = 5; instance = 0 }) ≡ true
  pub state_is : value_at stored (firmware_path 3) ≡ Some (value.Whole (pos state))
  pub known : state < 4

-- what a line leads to; all else stays
pub record IsAfter (line : Line) (old new : Stored) : Type 0 where
  pub uri : value_at new (firmware_path 1)
      ≡ option_or (option_map value.Text line.uri) (value_at old (firmware_path 1))
  pub state : value_at new (firmware_path 3) ≡ Some (value.Whole (pos line.state))
  pub result : value_at new (firmware_path 5) ≡ Some (value.Whole (pos line.result))
  pub others : (q : FullPath) → q ≢ firmware_path 1 → q ≢ firmware_path 3 → q ≢ firmware_path 5
      → value_at new q ≡ value_at old q
  pub instances : new.instances ≡ old.instances

-- in its States its event leads there; in the other States it is not taken
abbrev pub Holds : Line → Type 0
Holds line =
    (stored : Stored) (state : ℕ) → IsInState stored state
    → MatchBool (list_any (λ s. s == state) line.states)
    ((new : Stored) × (firmware_after stored line.event ≡ Some new) × IsAfter line stored new)
    (firmware_after stored line.event ≡ None)

abbrev pub LinesHold : Type 0
LinesHold = (text : List ℕ) → AllByRecursion Holds (lines text)

-- no other code is in the table
abbrev pub OtherCodesAreRefused : Type 0
OtherCodesAreRefused =
    (stored : Stored) (state code : ℕ) → IsInState stored state → 9 < code
    → firmware_after stored (Ended code) ≡ None

-- ---- what a Write is an event of

pub record WritesAreEvents : Type 0 where
  pub empty_package : event_of_package [] ≡ Cleared
  pub zero_byte : event_of_package (0 ∷ []) ≡ Cleared
  pub other_package : (bytes : List ℕ) → bytes ≢ [] → bytes ≢ 0 ∷ [] → event_of_package bytes ≡ Package
  pub empty_uri : event_of_uri [] ≡ Cleared
  pub other_uri : (text : List ℕ) → text ≢ [] → event_of_uri text ≡ Uri text

-- ---- the start

-- a device starts as one whose firmware was cleared; without Firmware Update it starts with the values of its class
abbrev pub StartsAsCleared : Type 0
StartsAsCleared = (stored : Stored) → with_idle_firmware stored ≡ unwrap_or (firmware_after stored Cleared) stored
