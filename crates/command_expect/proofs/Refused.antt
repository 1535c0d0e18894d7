-- Why nothing is done, put together from its parts.
use Rattle.std.proofs.Common.{ℕ, ◌≡◌, ◌≢◌, ◌⊎◌, List, [], Option, inl, inr, sym, subst}
use Rattle.scenario_image.specs.Scenario.{Scenario}
use Rattle.expectations.specs.ExpectedCases.{expected_cases_in}
use Rattle.expectations.specs.declared.expectation.ExpectedCase.{ExpectedCase}
use Rattle.command_files.specs.Fault.{IsReadingFault}
use Rattle.command_files.specs.Loading.{IsHeld}
use Rattle.command_files.specs.declared.fault.Fault.{Fault}
use Rattle.command_files.specs.declared.fault.Fault.TheVariants as faults
use Rattle.command_sources.specs.Sources.{IsNoScenario}
use Rattle.test_reports.specs.Reading.{AreRead, IsRefusalOf}
use Rattle.test_reports.specs.declared.case_file.CaseFile.{CaseFile}
use Rattle.command_expect.specs.Choice.{HasDevice, chosen_cases}
use Rattle.command_expect.specs.Expect.{HasNoSource, HasNoSuchCase, IsExpectFault, IsSource, LacksDevice}

-- no memory is left
pub memory : (holds : List ℕ → List ℕ → Type 0) (fails : List ℕ → Type 0) (paths : List (List ℕ)) (image : List ℕ)
    (device : Option ℕ) (only : Option (List ℕ)) (f : Fault) → f ≡ faults.Memory
    → IsExpectFault holds fails paths image device only f
memory holds fails paths image device only f same =
    subst (IsExpectFault holds fails paths image device only) (sym same) tt

-- one of the files is refused
pub unread : (holds : List ℕ → List ℕ → Type 0) (fails : List ℕ → Type 0) (paths : List (List ℕ)) (image : List ℕ)
    (device : Option ℕ) (only about : Option (List ℕ)) (f : Fault)
    → IsRefusalOf expected_cases_in holds fails paths about f
    → IsExpectFault holds fails paths image device only f
unread holds fails paths image device only about faults.Memory h = tt
unread holds fails paths image device only about _ h = inl (about, h)

-- what is refused after the files were read
later : (holds : List ℕ → List ℕ → Type 0) (fails : List ℕ → Type 0) (paths : List (List ℕ)) (image : List ℕ)
    (device : Option ℕ) (only : Option (List ℕ)) (f : Fault)
    → HasNoSuchCase holds paths only f ⊎ (HasNoSource holds fails paths image only f
    ⊎ LacksDevice holds paths image device only f)
    → IsExpectFault holds fails paths image device only f
later holds fails paths image device only faults.Memory h = tt
later holds fails paths image device only _ h = inr h

-- no case is chosen
pub unchosen : (holds : List ℕ → List ℕ → Type 0) (fails : List ℕ → Type 0) (paths : List (List ℕ)) (image : List ℕ)
    (device : Option ℕ) (only : Option (List ℕ)) (files : List (CaseFile ExpectedCase)) (f : Fault)
    → AreRead expected_cases_in holds paths files → chosen_cases only files ≡ [] → f ≡ faults.NoSuchCase
    → IsExpectFault holds fails paths image device only f
unchosen holds fails paths image device only files f read none same =
    later holds fails paths image device only f
    (inl (record {
      files = files;
      read = read;
      none = none;
      fault_is = same;
    }))

-- there is no scenario
pub no_source : (holds : List ℕ → List ℕ → Type 0) (fails : List ℕ → Type 0) (paths : List (List ℕ)) (image : List ℕ)
    (device : Option ℕ) (only : Option (List ℕ)) (files : List (CaseFile ExpectedCase)) (f : Fault)
    → AreRead expected_cases_in holds paths files → chosen_cases only files ≢ []
    → IsReadingFault (fails image) f ⊎ IsHeld holds image (λ bytes. IsNoScenario bytes f)
    → IsExpectFault holds fails paths image device only f
no_source holds fails paths image device only files f read some refused =
    later holds fails paths image device only f
    (inr (inl (record {
      files = files;
      read = record { read = read; some = some };
      refused = refused;
    })))

-- the scenario lacks the device
pub no_device : (holds : List ℕ → List ℕ → Type 0) (fails : List ℕ → Type 0) (paths : List (List ℕ)) (image : List ℕ)
    (device : Option ℕ) (only : Option (List ℕ)) (files : List (CaseFile ExpectedCase)) (s : Scenario) (f : Fault)
    → AreRead expected_cases_in holds paths files → chosen_cases only files ≢ [] → IsSource holds image s
    → (HasDevice device s → ⊥) → f ≡ faults.NoDevice → IsExpectFault holds fails paths image device only f
no_device holds fails paths image device only files s f read some source missing same =
    later holds fails paths image device only f (inr (inr (record {
      files = files;
      read = record { read = read; some = some };
      scenario = s;
      source = source;
      missing = missing;
      fault_is = same;
    })))
