-- The scenario of a file, or why it has none, put together from its parts.
use Rattle.std.proofs.Common.{ℕ, ◌≡◌, ◌⊎◌, Bool, true, false, List, inl, inr}
use Rattle.std.specs.Prelude.{MatchBool}
use Rattle.scenario_image.specs.Scenario.{Scenario}
use Rattle.scenario_image.specs.Image.{IsImage}
use Rattle.scenario_asm.specs.Denotes.{Denotes}
use Rattle.command_files.specs.Fault.{IsReadingFault}
use Rattle.command_files.specs.Loading.{IsHeld, IsNoImage}
use Rattle.command_files.specs.declared.fault.Fault.{Fault}
use Rattle.command_sources.specs.Sources.{IsNoScenario, IsScenarioOf, is_marked}
use Rattle.command_texts.specs.Texts.{IsNoText}

of_true : (b : Bool) (P Q : Type 0) → b ≡ true → P → MatchBool b P Q
of_true true P Q same h = h
of_true false P Q same h = cc

of_false : (b : Bool) (P Q : Type 0) → b ≡ false → Q → MatchBool b P Q
of_false true P Q same h = cc
of_false false P Q same h = h

pub of_image : (bytes : List ℕ) (s : Scenario) → is_marked bytes ≡ true → IsImage bytes s → IsScenarioOf bytes s
of_image bytes s marked h = of_true (is_marked bytes) (IsImage bytes s) (Denotes bytes s) marked h

pub of_text : (bytes : List ℕ) (s : Scenario) → is_marked bytes ≡ false → Denotes bytes s → IsScenarioOf bytes s
of_text bytes s plain h = of_false (is_marked bytes) (IsImage bytes s) (Denotes bytes s) plain h

pub no_image : (bytes : List ℕ) (f : Fault) → is_marked bytes ≡ true → IsNoImage bytes f → IsNoScenario bytes f
no_image bytes f marked h = of_true (is_marked bytes) (IsNoImage bytes f) (IsNoText bytes f) marked h

pub no_text : (bytes : List ℕ) (f : Fault) → is_marked bytes ≡ false → IsNoText bytes f → IsNoScenario bytes f
no_text bytes f plain h = of_false (is_marked bytes) (IsNoImage bytes f) (IsNoText bytes f) plain h

pub held : (holds : List ℕ → List ℕ → Type 0) (path bytes : List ℕ) (s : Scenario) → holds path bytes
    → IsScenarioOf bytes s → IsHeld holds path (λ bytes. IsScenarioOf bytes s)
held holds path bytes s there h = record { bytes = bytes; held = there; so = h }

pub unread : (holds : List ℕ → List ℕ → Type 0) (fails : List ℕ → Type 0) (path : List ℕ) (f : Fault)
    → IsReadingFault (fails path) f → IsReadingFault (fails path) f ⊎ IsHeld holds path (λ bytes. IsNoScenario bytes f)
unread holds fails path f h = inl h

pub no_scenario : (holds : List ℕ → List ℕ → Type 0) (fails : List ℕ → Type 0) (path bytes : List ℕ) (f : Fault)
    → holds path bytes → IsNoScenario bytes f
    → IsReadingFault (fails path) f ⊎ IsHeld holds path (λ bytes. IsNoScenario bytes f)
no_scenario holds fails path bytes f there h = inr (record { bytes = bytes; held = there; so = h })
