-- Each statement of a scenario is one that words can say.
use Rattle.std.proofs.Common.{◌≡◌, ℕ, ◌≤◌, Bool, true, false, ◌||◌, leb, eqb, List, [], ◌∷◌, length, Option, None, Some}
use Rattle.std.proofs.Common.{refl, subst, arith}
use Rattle.std.specs.Prelude.{is_some, IfSome}
use Rattle.std.specs.List.{AllByRecursion, flat_map, list_any}
use Rattle.std.proofs.lemmas.Bool.{and_parts, leb-true, eqb-true}
use Rattle.std.proofs.lemmas.Option.{slice_get_within}
use Rattle.lemmas.proofs.Lists.{each_appended, each_at, each_flat}
use Rattle.object_defs.specs.Path.{full_path}
use Rattle.object_defs.specs.declared.path.Path.{Path}
use Rattle.object_defs.specs.declared.path.Path.TheVariants as path
use Rattle.device_template.specs.Template.{Template}
use Rattle.device_template.specs.Built.{IsBuilt}
use Rattle.device_machine.specs.declared.event.Event.TheVariants.{Recv, Put, Firmware, Tick}
use Rattle.byte_layout.specs.Exact.{IsBytes}
use Rattle.scenario_image.specs.declared.step.Step.{Step}
use Rattle.scenario_image.specs.declared.step.Step.TheVariants.{Event, Post, Need}
use Rattle.scenario_image.specs.Scenario.{Row, Scenario, HasShortNumbers, IsGoodStep, IsGoodRow}
use Rattle.scenario_words.specs.PathWord.{IsPath}
use Rattle.scenario_mnemonics.specs.declared.mnemonic.Mnemonic.{Mnemonic}
use Rattle.scenario_mnemonics.specs.Denoting.{mnemonic_of}
use Rattle.scenario_mnemonics.proofs.Candidates.{denotes}
use Rattle.scenario_statements.specs.Spelling.{IsWithin, IsSayable}
use Rattle.scenario_asm.specs.Canonical.{of_class, of_datagram, of_step, of_row, statements}
use Rattle.scenario_asm.specs.Reading.{IsScenario}
use Rattle.scenario_asm.proofs.Each.{each_map}
use Rattle.scenario_asm.proofs.Numbers.{bytes_below, bytes_all, good_value}
use Rattle.scenario_asm.proofs.ClassParts.{has_words}
use Rattle.scenario_asm.proofs.ClassSayable.{class_said}

datagram_said : (server : ℕ) (bytes : List ℕ) (m : Option Mnemonic) → mnemonic_of bytes ≡ m → IsWithin 1 65534 server
    → IsBytes bytes → IsSayable (of_datagram server bytes m)
datagram_said server bytes None e h k = (h, bytes_below bytes k)
datagram_said server bytes (Some m) e h k = (h, ((denotes bytes m (bytes_all bytes k)).0 e).0)

full_said : (p : Path) → is_some (full_path p) ≡ true → IfSome (full_path p) HasShortNumbers → IsPath p
full_said (path.Object o) some h = absurd cc
full_said (path.Instance o i) some h = absurd cc
full_said (path.Resource o i r) some h = (h.object, h.instance, h.resource)
full_said (path.Part o i r n) some h = (h.object, h.instance, h.resource, h.part)

first_or : {P : Type 0} (b c : Bool) → (b ≡ true → P) → (c ≡ true → P) → (b || c) ≡ true → P
first_or true c f g h = f refl
first_or false c f g h = g h

account_said : (accounts : List ℕ) (server : ℕ) → AllByRecursion (IsWithin 1 65534) accounts
    → list_any (λ account. eqb account server) accounts ≡ true → IsWithin 1 65534 server
account_said [] server each h = absurd cc
account_said (a ∷ accounts) server each h =
    first_or (eqb a server) (list_any (λ account. eqb account server) accounts)
    (λ e. subst (IsWithin 1 65534) (eqb-true a server e) each.0) (λ e. account_said accounts server each.1 e) h

step_said : (accounts : List ℕ) → AllByRecursion (IsWithin 1 65534) accounts → (step : Step) → IsGoodStep accounts step
    → IsSayable (of_step step)
step_said accounts each (Event (Recv server bytes)) good =
    datagram_said server bytes (mnemonic_of bytes) refl (account_said accounts server each good.known) good.fields.1
step_said accounts each (Event (Put p v)) good = (full_said p good.range good.fields.0, good_value v good.fields.1)
step_said accounts each (Event (Firmware code)) good = leb-true code 9 good.range
step_said accounts each (Event (Tick seconds)) good =
    let both = and_parts (leb 1 seconds) (leb seconds 86400) good.range
    in (leb-true 1 seconds both.0, leb-true seconds 86400 both.1)
step_said accounts each (Post group) good = good.fields
step_said accounts each (Need group count) good =
    let both = and_parts (leb 1 count) (leb count 1000000) good.range
    in (good.fields, (leb-true 1 count both.0, leb-true count 1000000 both.1))

row_said : (classes : List Template) → length classes ≤ 256 → AllByRecursion IsBuilt classes → (row : Row)
    → IsGoodRow classes row → AllByRecursion IsSayable (of_row row)
row_said classes few built row good =
    let has = has_words good.class (each_at IsBuilt classes row.class good.class built good.stated) in (
      omega (arith, few, slice_get_within classes row.class good.class good.stated),
      each_map (IsGoodStep good.class.accounts) IsSayable of_step
          (step_said good.class.accounts has.accounts) row.steps good.each,
    )

pub all_said : (s : Scenario) → IsScenario s → AllByRecursion IsSayable (statements s)
all_said s h = (
  tt,
  each_appended IsSayable (flat_map of_class s.classes) (flat_map of_row s.rows)
      (each_flat IsBuilt IsSayable of_class class_said s.classes h.built)
      (each_flat (IsGoodRow s.classes) IsSayable of_row
      (row_said s.classes h.valid.classes h.built) s.rows h.valid.each),
)
