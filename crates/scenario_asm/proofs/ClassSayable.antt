-- Each statement of a class is one that words can say.
use Rattle.std.proofs.Common.{◌≡◌, ℕ, ◌<◌, Bool, true, false, cond, eqb, [], ◌∷◌, drop, map, length, Option, None, Some}
use Rattle.std.proofs.Common.{refl, sym, subst, arith}
use Rattle.std.proofs.lemmas.Bool.Decides.{nat_tests}
use Rattle.std.specs.Prelude.{IfSome}
use Rattle.std.specs.List.{AllByRecursion, flat_map}
use Rattle.std.specs.FinMap as finite
use Rattle.lemmas.proofs.Lists.{each_appended, each_flat}
use Rattle.lwm2m_values.specs.Value.{IsGood}
use Rattle.lwm2m_values.specs.declared.value.Value.{Value}
use Rattle.object_defs.specs.Base.{base}
use Rattle.object_defs.specs.Path.{path_with}
use Rattle.object_defs.specs.declared.definition.ObjectDef.{ObjectDef}
use Rattle.object_defs.specs.declared.definition.ResourceDef.{ResourceDef}
use Rattle.object_defs.specs.declared.path.FullPath.{FullPath}
use Rattle.object_defs.specs.declared.path.InstancePath.{InstancePath}
use Rattle.device_template.specs.Template.{Template, is_notify}
use Rattle.device_template.specs.Built.{IsBuilt, IsShort}
use Rattle.scenario_layout.specs.Class.{objects_in, instances_in, values_in}
use Rattle.scenario_words.specs.PathWord.{IsPath}
use Rattle.scenario_statements.specs.declared.statement.Statement.TheVariants as says
use Rattle.scenario_statements.specs.Spelling.{IsWithin, IsSayable}
use Rattle.scenario_asm.specs.Canonical.{of_notify, of_object, of_value, of_class}
use Rattle.scenario_asm.proofs.Each.{each_map}
use Rattle.scenario_asm.proofs.Numbers.{good_value}
use Rattle.scenario_asm.proofs.OwnObjects.{HasOwn, IsOwn}
use Rattle.scenario_asm.proofs.ClassParts.{IsPlace, has_words}
use Rattle.scenario_layout.proofs.GoodClass.{is_one_of}

object_said : (o : ObjectDef) → IsOwn o → AllByRecursion IsSayable (of_object o)
object_said o h =
    (h.0, each_map (λ (d : ResourceDef). d.id < 65536) IsSayable (λ d. says.Def d) (λ d k. k) o.resources h.1)

own_said : (c : Template) → HasOwn c.catalog → AllByRecursion IsSayable (flat_map of_object (objects_in c))
own_said c has =
    subst (λ k. AllByRecursion IsSayable (flat_map of_object (drop (length base) k))) (sym has.are)
    (each_flat IsOwn IsSayable of_object object_said has.own has.each)

path_said : (o i r : ℕ) (part : Option ℕ) → o < 65536 → i < 65536 → r < 65536 → IfSome part (λ n. n < 65536)
    → IsPath (path_with o i r part)
path_said o i r None h k l m = (h, k, l)
path_said o i r (Some n) h k l m = (h, k, l, m)

value_said : (e : FullPath × Value) → IsShort e.0 × IsGood e.1 → IsSayable (of_value e)
value_said e h = (path_said e.0.object e.0.instance e.0.resource e.0.part h.0.0 h.0.1 h.0.2 h.0.3, good_value e.1 h.1)

within : (seconds : ℕ) → is_notify seconds ≡ true → eqb seconds 0 ≡ false → IsWithin 2 3 seconds
within seconds h k = grind (arith, nat_tests)

-- a first timeout that words can say, where there is one
notify_said : (seconds : ℕ) → is_notify seconds ≡ true → AllByRecursion IsSayable (of_notify seconds)
notify_said seconds h =
    elim (eqb seconds 0) as (λ b. eqb seconds 0 ≡ b
    → AllByRecursion IsSayable (cond b [] (says.Notify seconds ∷ []))) [
      | true ↦ λ e. tt
      | false ↦ λ e. (within seconds h e, tt)
    ] refl

pub class_said : (c : Template) → IsBuilt c → AllByRecursion IsSayable (of_class c)
class_said c built =
    let has = has_words c built in
    let places = each_map (λ (e : InstancePath × Unit {0}). IsPlace e.0 × Unit {0}) IsPlace
    (λ (e : InstancePath × Unit {0}). e.0) (λ e k. k.0) (finite.entries c.store.instances) has.instances in (
      tt,
      each_appended IsSayable (of_notify c.notify) _ (notify_said c.notify (is_one_of c built))
          (each_appended IsSayable (map (λ s. says.Account s) c.accounts) _
          (each_map (IsWithin 1 65534) IsSayable (λ s. says.Account s) (λ s k. k) c.accounts has.accounts)
          (each_appended IsSayable (flat_map of_object (objects_in c)) _ (own_said c has.objects)
          (each_appended IsSayable (map (λ p. says.Instance p) (instances_in c)) _
          (each_map IsPlace IsSayable (λ p. says.Instance p) (λ p k. k) (instances_in c) places)
          (each_map (λ (e : FullPath × Value). IsShort e.0 × IsGood e.1) IsSayable of_value value_said
          (values_in c) has.values)))),
    )
