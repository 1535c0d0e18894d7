-- A scenario as bytes: this profile's image of it, in two versions. In version 1 classes do not say how their devices
-- notify. Version 2 is the one that is written.
use Rattle.std.specs.Prelude.{ℕ, ◌==◌, ◌||◌, List}
use Rattle.std.specs.Int.{w8, w16, w32}
use Rattle.byte_layout.specs.declared.fault.Break.TheVariants.{Magic, Version}
use Rattle.byte_layout.specs.declared.fault.LayoutFault.{LayoutFault}
use Rattle.byte_layout.specs.Layout.{Layout, number, layout_with_test, at_most, split, last, after_mark}
use Rattle.byte_layout.specs.Layout.{constant_layout, list_with_count}
use Rattle.byte_layout.specs.Whole.{IsAll, HasFault}
use Rattle.device_template.specs.Template.{Template}
use Rattle.scenario_layout.specs.Class.{class}
use Rattle.scenario_image.specs.Scenario.{Row, Scenario}
use Rattle.scenario_image.specs.Layout.{rows}

-- at most 256 classes, as a version has them
unfoldable pub classes : ℕ → Layout (List Template)
classes version = list_with_count (at_most 256 (number w16)) (λ before. class version)

abbrev pub script_of : List Template → List Row → Scenario
script_of classes rows = record { classes = classes; rows = rows }

-- after the classes: rows of devices of these
abbrev pub behind_classes : List Template → Layout Scenario
behind_classes known = last (λ s. s.rows) (script_of known) (rows known)

-- the classes, and the rows
unfoldable pub lists : ℕ → Layout Scenario
lists version = split (λ s. s.classes) (classes version) behind_classes

-- the version: 1 or 2
abbrev pub version : Layout ℕ
version = layout_with_test (λ left. Version) (λ n. n == 1 || n == 2) (number w8)

-- a part, beside the version that it is laid out by
abbrev pub in_version : {A : Type 0} → (ℕ → Layout A) → ℕ → Layout (ℕ × A)
in_version part v = last (λ x. x.1) (λ a. (v, a)) (part v)

-- the image's mark and version, and this as the version has it
abbrev pub after_header : {A : Type 0} → (ℕ → Layout A) → Layout (ℕ × A)
after_header part = after_mark Magic 0x4C575343 (number w32) (split (λ x. x.0) version (in_version part))

-- the mark and the version alone
abbrev pub header : Layout (ℕ × Unit {0})
header = after_header (λ v. constant_layout tt)

-- the image's mark and version, the classes, and the rows: a version, and a scenario that it can say
unfoldable pub image : Layout (ℕ × Scenario)
image = after_header lists

-- its front: the mark, the version, and how many classes there are
unfoldable pub front : Layout (ℕ × ℕ)
front = after_header (λ v. at_most 256 (number w16))

-- the bytes are the image of this scenario in this version
abbrev pub IsImageIn : ℕ → List ℕ → Scenario → Type 0
IsImageIn v bytes s = IsAll image bytes (v, s)

-- the bytes are an image of this scenario, in either version
abbrev pub IsImage : List ℕ → Scenario → Type 0
IsImage bytes s = (v : ℕ) × IsImageIn v bytes s

-- the bytes are no scenario's image in any version, and this is their fault, the first from the left
abbrev pub HasImageFault : List ℕ → LayoutFault → Type 0
HasImageFault bytes fault = HasFault image bytes fault
