-- Changes that stay within an instance.
use Rattle.std.proofs.Common.{◌≡◌, ℕ, Bool, true, false, cond, not, ◌&&◌, eqb, List, [], ◌∷◌, None, Some, refl}
use Rattle.std.proofs.Common.{sym, ap, ◌∙◌, arith}
use Rattle.std.specs.Ordering.{eq_by_cmp}
use Rattle.std.proofs.lemmas.Bool.{eq-eqb, false≢true}
use Rattle.std.proofs.lemmas.Bool.Decides.{nat_tests}
use Rattle.instance_store.proofs.SetValues.{value_after, value_elsewhere}
use Rattle.lwm2m_values.specs.declared.value.Value.{Value}
use Rattle.object_defs.specs.Path.{path_cmp, single_of, part_of}
use Rattle.object_defs.specs.declared.definition.ResourceDef.{ResourceDef}
use Rattle.object_defs.specs.declared.path.FullPath.{FullPath}
use Rattle.object_defs.specs.declared.path.InstancePath.{InstancePath}
use Rattle.object_defs.specs.declared.path.Path.{Path}
use Rattle.object_defs.proofs.PathOrder.{path_total, path_exact}
use Rattle.object_defs.proofs.MapLaws.{get_kept}
use Rattle.instance_store.specs.Stored.{Stored, value_at, lies_in, resource_path}
use Rattle.instance_store.specs.Stored.{with_value, without_values}
use Rattle.lwm2m_payloads.specs.Changes.{resource_of, with_parts, with_given, is_kept, with_assignments, is_lost}
use Rattle.lwm2m_payloads.specs.Changes.{without_lost, instance_written}
use Rattle.lwm2m_payloads.specs.PartList.{PartList}
use Rattle.lwm2m_payloads.specs.declared.given.Assignment.{Assignment}
use Rattle.lwm2m_payloads.specs.declared.given.Given.{Given}
use Rattle.lwm2m_payloads.specs.declared.given.Given.TheVariants.{Single, Parts}
use Rattle.lwm2m_payloads.specs.declared.given.Mode.TheVariants.{Replace}
use Rattle.device_instances.specs.Deletions.{instance_in, is_same}

-- values elsewhere and the instances stay
pub record Within (place : InstancePath) (s t : Stored) : Type 0 where
  pub values : (q : FullPath) → is_same (instance_in q) place ≡ false → value_at t q ≡ value_at s q
  pub instances : t.instances ≡ s.instances

-- ---- one value

single_itself : (o i r : ℕ)
    → eq_by_cmp path_cmp (record { object = o; instance = i; resource = r; part = None })
    (record { object = o; instance = i; resource = r; part = None }) ≡ true
single_itself o i r = grind (arith, nat_tests)

pub here : (s : Stored) (o i r : ℕ) (v : Value)
    → value_at (with_value s (record { object = o; instance = i; resource = r; part = None }) v)
    (record { object = o; instance = i; resource = r; part = None }) ≡ Some v
here s o i r v =
    value_after s _ _ v ∙ ap (λ b. cond b (Some v)
    (value_at s (record { object = o; instance = i; resource = r; part = None }))) (single_itself o i r)

pub kept : (s : Stored) (path : Path) (q : FullPath)
    → value_at (without_values s path) q ≡ cond (not (lies_in path q)) (value_at s q) None
kept s path q = get_kept path_total path_exact s.values (λ k. not (lies_in path k)) q

-- ---- an instance

pub unchanged : (place : InstancePath) (s : Stored) → Within place s s
unchanged place s = record { values = λ q h. refl; instances = refl }

pub then : (place : InstancePath) (s t u : Stored) → Within place s t → Within place t u → Within place s u
then place s t u a b = record { values = λ q h. b.values q h ∙ a.values q h; instances = b.instances ∙ a.instances }

pub is_itself : (p : InstancePath) → is_same p p ≡ true
is_itself p = ap (λ b. b && eqb p.instance p.instance) (eq-eqb p.object p.object refl)
    ∙ eq-eqb p.instance p.instance refl

pub value_within : (place : InstancePath) (s : Stored) (p : FullPath) (v : Value) → is_same (instance_in p) place ≡ true
    → Within place s (with_value s p v)
value_within place s p v inside = record {
  values = λ q h. value_elsewhere s p q v (λ e. false≢true
      (sym h ∙ ap (λ k. is_same (instance_in k) place) e ∙ inside));
  instances = refl;
}

pub resource_within : (place : InstancePath) (s : Stored) (r : ℕ)
    → Within place s (without_values s (resource_path (resource_of place r)))
resource_within place s r = record {
  values = λ q h. kept s (resource_path (resource_of place r)) q
      ∙ ap (λ b. cond (not (b && eqb q.resource r)) (value_at s q) None) h;
  instances = refl;
}

pub parts_within : (place : InstancePath) (r : ℕ) (es : PartList) (s : Stored)
    → Within place s (with_parts s (resource_of place r) es)
parts_within place r [] s = unchanged place s
parts_within place r (e ∷ es) s =
    then place s (with_value s (part_of (resource_of place r) e.0) e.1)
    (with_parts (with_value s (part_of (resource_of place r) e.0) e.1) (resource_of place r) es)
    (value_within place s (part_of (resource_of place r) e.0) e.1 (is_itself place))
    (parts_within place r es (with_value s (part_of (resource_of place r) e.0) e.1))

pub given_within : (place : InstancePath) (r : ℕ) (given : Given) (s : Stored)
    → Within place s (with_given Replace s (resource_of place r) given)
given_within place r (Single v) s = value_within place s (single_of (resource_of place r)) v (is_itself place)
given_within place r (Parts es) s =
    then place s (without_values s (resource_path (resource_of place r)))
    (with_parts (without_values s (resource_path (resource_of place r))) (resource_of place r) es)
    (resource_within place s r) (parts_within place r es (without_values s (resource_path (resource_of place r))))

either_within : (place : InstancePath) (b : Bool) (s t : Stored) → Within place s t → Within place s (cond b t s)
either_within place true s t h = h
either_within place false s t h = unchanged place s

assigned : List ResourceDef → InstancePath → Stored → Assignment → Stored
assigned resources place s a =
    cond (is_kept resources a) (with_given Replace s (resource_of place a.resource) a.given) s

pub assignments_within : (resources : List ResourceDef) (place : InstancePath) (given : List Assignment) (s : Stored)
    → Within place s (with_assignments Replace resources s place given)
unfolding assigned
assignments_within resources place [] s = unchanged place s
assignments_within resources place (a ∷ given) s =
    then place s (assigned resources place s a)
    (with_assignments Replace resources (assigned resources place s a) place given)
    (either_within place (is_kept resources a) s (with_given Replace s (resource_of place a.resource) a.given)
    (given_within place a.resource a.given s))
    (assignments_within resources place given (assigned resources place s a))

lost : InstancePath → List Assignment → Stored → ResourceDef → Stored
lost place given s d = cond (is_lost given d) (without_values s (resource_path (resource_of place d.id))) s

pub lost_within : (resources : List ResourceDef) (place : InstancePath) (given : List Assignment) (s : Stored)
    → Within place s (without_lost resources s place given)
unfolding lost
lost_within [] place given s = unchanged place s
lost_within (d ∷ ds) place given s =
    then place s (lost place given s d) (without_lost ds (lost place given s d) place given)
    (either_within place (is_lost given d) s (without_values s (resource_path (resource_of place d.id)))
    (resource_within place s d.id))
    (lost_within ds place given (lost place given s d))

pub written_within : (resources : List ResourceDef) (place : InstancePath) (given : List Assignment) (s : Stored)
    → Within place s (instance_written Replace resources s place given)
written_within resources place given s =
    then place s (without_lost resources s place given) (instance_written Replace resources s place given)
    (lost_within resources place given s) (assignments_within resources place given
    (without_lost resources s place given))
