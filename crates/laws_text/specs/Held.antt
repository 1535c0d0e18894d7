-- What a class of a text's scenario holds: just what its part of the text states, in whatever order.
use Rattle.std.specs.Prelude.{◌≡◌, ◌↔◌, ◌⊎◌, ℕ, ◌<◌, ◌==◌, true, List, [], ◌∷◌, Option, None, Some, is_some, Ok}
use Rattle.std.specs.List.{list_any}
use Rattle.lwm2m_values.specs.declared.value.Value.{Value}
use Rattle.object_defs.specs.Base.{base}
use Rattle.object_defs.specs.Catalog.{definition_of, object_of}
use Rattle.object_defs.specs.Path.{full_path}
use Rattle.object_defs.specs.declared.definition.ResourceDef.{ResourceDef}
use Rattle.object_defs.specs.declared.path.FullPath.{FullPath}
use Rattle.object_defs.specs.declared.path.InstancePath.{InstancePath}
use Rattle.object_defs.specs.declared.path.Path.{Path}
use Rattle.instance_store.specs.Stored.{has_instance, value_at}
use Rattle.device_template.specs.Template.{Template}
use Rattle.scenario_image.specs.Scenario.{Scenario}
use Rattle.scenario_statements.specs.declared.statement.Statement.{Statement}
use Rattle.scenario_statements.specs.declared.statement.Statement.TheVariants as says
use Rattle.scenario_asm.specs.Reading.{said_by}
use Rattle.scenario_asm.specs.Text.{scenario_of_text}
use Rattle.laws_text.specs.Parts.{AreMatched, class_parts, object_since}

-- one of the statements is so; this may depend on the object that was stated last before it, which at first is that one
abbrev pub StatesOne : (Option ℕ → Statement → Type 0) → Option ℕ → List Statement → Type 0
StatesOne P object [] = ⊥
StatesOne P object (s ∷ ss) = P object s ⊎ StatesOne P (object_since s object) ss

-- the part of a class has such a statement
abbrev pub HasOne : (Option ℕ → Statement → Type 0) → List Statement → Type 0
HasOne P part = StatesOne P None part

-- a first timeout is there by its `notify`, and is 0 otherwise; an account is there by its `account`, an object of the
-- class's own by its `object`, its resource by a `def` after that, an instance by its `instance`, a value by its
-- `value`; and nothing else is there but the base objects
pub record HoldsWhatIsStated (part : List Statement) (c : Template) : Type 0 where
  pub notify : (seconds : ℕ)
      → 0 < seconds → (c.notify ≡ seconds) ↔ HasOne (λ object s. s ≡ says.Notify seconds) part
  pub accounts : (server : ℕ)
      → (list_any (λ a. a == server) c.accounts ≡ true) ↔ HasOne (λ object s. s ≡ says.Account server) part
  pub objects : (id : ℕ)
      → (is_some (object_of c.catalog id) ≡ true)
      ↔ ((is_some (object_of base id) ≡ true) ⊎ HasOne (λ object s. s ≡ says.Object id) part)
  pub definitions : (id resource : ℕ) (d : ResourceDef)
      → (definition_of c.catalog id resource ≡ Some d)
      ↔ ((definition_of base id resource ≡ Some d)
      ⊎ HasOne (λ object s. (object ≡ Some id) × (s ≡ says.Def d) × (d.id ≡ resource)) part)
  pub instances : (place : InstancePath)
      → (has_instance c.store place ≡ true) ↔ HasOne (λ object s. s ≡ says.Instance place) part
  pub values : (p : FullPath) (v : Value)
      → (value_at c.store p ≡ Some v)
      ↔ HasOne (λ object s. (path : Path) × (full_path path ≡ Some p) × (s ≡ says.Value path v)) part

abbrev pub ClassesHoldWhatIsStated : Type 0
ClassesHoldWhatIsStated =
    (text : List ℕ) (s : Scenario) → scenario_of_text text ≡ Ok s
    → (ss : List Statement) × (said_by text ≡ Ok ss) × AreMatched HoldsWhatIsStated (class_parts ss) s.classes
