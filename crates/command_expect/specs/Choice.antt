-- The cases that are asked for by their titles, and the devices by their numbers.
use Rattle.std.specs.Prelude.{⊤, ℕ, zero, suc, ◌<◌, List, [], ◌∷◌, ◌++◌, Option, None, Some, length, map}
use Rattle.std.specs.List.{flat_map}
use Rattle.scenario_image.specs.Scenario.{Scenario}
use Rattle.expectations.specs.declared.expectation.ExpectedCase.{ExpectedCase}
use Rattle.test_reports.specs.Choice.{CaseOfFile, choice}
use Rattle.test_reports.specs.declared.case_file.CaseFile.{CaseFile}

-- the cases of files that are chosen by their titles, in their order
abbrev pub chosen_cases : Option (List ℕ) → List (CaseFile ExpectedCase) → List (CaseOfFile ExpectedCase)
chosen_cases only files = choice (λ case. case.title) only files

-- ---- devices

-- the devices with the numbers below this one
abbrev pub devices_to : ℕ → List ℕ
devices_to zero = []
devices_to (suc device) = devices_to device ++ device ∷ []

-- the device that is asked for, or all devices of the scenario, in their order
abbrev pub devices_of : Option ℕ → Scenario → List ℕ
devices_of None s = devices_to (length s.rows)
devices_of (Some device) s = device ∷ []

-- the scenario has the device that is asked for
abbrev pub HasDevice : Option ℕ → Scenario → Type 0
HasDevice None s = ⊤
HasDevice (Some device) s = device < length s.rows

-- ---- cases of devices

-- a case for a device
abbrev pub CaseOfDevice : Type 0
CaseOfDevice = ℕ × CaseOfFile ExpectedCase

-- these cases for a device
abbrev pub cases_of_device : List (CaseOfFile ExpectedCase) → ℕ → List CaseOfDevice
cases_of_device chosen device = map (λ of. (device, of)) chosen

-- for each of these devices each of these cases
abbrev pub cases_of_devices : List (CaseOfFile ExpectedCase) → List ℕ → List CaseOfDevice
cases_of_devices chosen devices = flat_map (cases_of_device chosen) devices
