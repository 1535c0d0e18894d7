-- The scenario of a file, which is its image or its text.
use Rattle.std.specs.Prelude.{ℕ, ◌≡◌, nat_eq, Bool, true, false, MatchBool, List, codes}
use Rattle.std.specs.List.{starts_with}
use Rattle.scenario_image.specs.Image.{IsImage}
use Rattle.scenario_image.specs.Scenario.{Scenario}
use Rattle.scenario_asm.specs.Denotes.{Denotes}
use Rattle.command_files.specs.Loading.{IsNoImage}
use Rattle.command_files.specs.declared.fault.Fault.{Fault}
use Rattle.command_texts.specs.Texts.{IsNoText}

-- bytes begin with the mark of an image, which begins no word of a scenario's text
abbrev pub is_marked : List ℕ → Bool
is_marked bytes = starts_with nat_eq bytes (codes "LWSC")

-- the bytes are the scenario's image, in either version, or a text that denotes it
abbrev pub IsScenarioOf : List ℕ → Scenario → Type 0
IsScenarioOf bytes s = MatchBool (is_marked bytes) (IsImage bytes s) (Denotes bytes s)

-- why bytes are neither: bytes with the mark are not an image, others are not a text
abbrev pub IsNoScenario : List ℕ → Fault → Type 0
IsNoScenario bytes fault = MatchBool (is_marked bytes) (IsNoImage bytes fault) (IsNoText bytes fault)

-- a file with the mark is no text: the mark begins no line of a text
abbrev pub NoTextIsMarked : Type 0
NoTextIsMarked = (text : List ℕ) (s : Scenario) → Denotes text s → is_marked text ≡ false

-- a file without the mark is no image
abbrev pub ImagesAreMarked : Type 0
ImagesAreMarked = (bytes : List ℕ) (s : Scenario) → IsImage bytes s → is_marked bytes ≡ true
