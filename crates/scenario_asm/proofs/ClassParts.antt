-- What accepted additions put into a class has numbers of 16 bits, and valid values.
use Rattle.std.proofs.Common.{◌≡◌, ℕ, ◌≤◌, ◌<◌, Bool, true, false, ◌&&◌, leb, List, [], ◌∷◌, length, None, refl, sym}
use Rattle.std.proofs.Common.{subst, ◌∙◌}
use Rattle.std.specs.Prelude.{not, ◌==◌, nat_le, is_some}
use Rattle.std.specs.List.{AllByRecursion, list_any}
use Rattle.std.specs.FinMap as finite
use Rattle.std.specs.declared.cmp.Ordering.{Ordering}
use Rattle.std.proofs.lemmas.Bool.{and_parts, leb-true}
use Rattle.lemmas.proofs.Lists.{empty_from_length}
use Rattle.lwm2m_values.specs.Value.{IsGood}
use Rattle.lwm2m_values.specs.declared.value.Value.{Value}
use Rattle.object_defs.specs.Catalog.{object_of}
use Rattle.object_defs.specs.Lines.{first_line}
use Rattle.object_defs.specs.Path.{path_cmp, instance_cmp}
use Rattle.object_defs.specs.declared.path.FullPath.{FullPath}
use Rattle.object_defs.specs.declared.path.InstancePath.{InstancePath}
use Rattle.object_defs.proofs.PathOrder.{path_total, instance_total}
use Rattle.instance_store.specs.Stored.{has_instance, instances_of}
use Rattle.device_template.specs.declared.fault.TemplateFault.{TemplateFault}
use Rattle.device_template.specs.declared.fault.TemplateFault.TheVariants.{Range, Missing, Duplicate, Full}
use Rattle.device_template.specs.Template.{Template, most_accounts, account_fault, instance_fault, may_stand}
use Rattle.device_template.specs.Built.{IsBuilt, IsShort}
use Rattle.device_template.specs.Built.IsBuilt.{nothing, account, object, resource, instance, value, notify}
use Rattle.scenario_layout.proofs.Items.{object_vendor}
use Rattle.scenario_statements.specs.Spelling.{IsWithin}
use Rattle.scenario_asm.proofs.Each.{each_inserted, each_put}
use Rattle.scenario_asm.proofs.OwnObjects.{HasOwn, object_more, resource_more, definition_vendor}

-- the numbers of an instance
abbrev pub IsPlace : InstancePath → Type 0
IsPlace p = (p.object < 65536) × (p.instance ≤ 65534)

-- a class whose accounts, objects, instances and values words can say
pub record HasWords (c : Template) : Type 0 where
  pub accounts : AllByRecursion (IsWithin 1 65534) c.accounts
  pub objects : HasOwn c.catalog
  pub instances : AllByRecursion (λ (e : InstancePath × Unit {0}). IsPlace e.0 × Unit {0})
      (finite.entries c.store.instances)
  pub values : AllByRecursion (λ (e : FullPath × Value). IsShort e.0 × IsGood e.1) (finite.entries c.store.values)

-- where a first line does not apply
first : (b : Bool) (fault : TemplateFault) (ls : List (Bool × TemplateFault)) → first_line ((not b, fault) ∷ ls) ≡ None
    → b ≡ true
first true fault ls h = refl
first false fault ls h = absurd cc

abbrev account_lines : Template → ℕ → List (Bool × TemplateFault)
account_lines c s =
    (list_any (λ account. account == s) c.accounts, Duplicate) ∷ (nat_le most_accounts (length c.accounts), Full) ∷ []

abbrev instance_lines : Template → InstancePath → List (Bool × TemplateFault)
instance_lines c p =
    (not (is_some (object_of c.catalog p.object)), Missing)
    ∷ (has_instance c.store p, Duplicate)
    ∷ (nat_le 64 (length (instances_of c.store p.object)), Full)
    ∷ []

account_range : (c : Template) (s : ℕ) → account_fault c s ≡ None → IsWithin 1 65534 s
account_range c s h = let both =
    and_parts (leb 1 s) (leb s 65534) (first (leb 1 s && leb s 65534) Range (account_lines c s) h)
    in (leb-true 1 s both.0, leb-true s 65534 both.1)

instance_range : (c : Template) (p : InstancePath) → instance_fault c p ≡ None → p.instance ≤ 65534
instance_range c p h =
    let both = and_parts _ _ (first (may_stand p) Range (instance_lines c p) h) in
    leb-true p.instance 65534 (and_parts (leb p.instance 65534) _ both.1).0

each_empty : {K X : Type 0} (R : K → K → Ordering) (P : K × X → Type 0)
    → AllByRecursion P (finite.entries (finite.empty {X = X} {R = R}))
each_empty R P =
    subst (AllByRecursion P) (sym (empty_from_length (finite.entries finite.empty)
    (sym (finite.len-entries finite.empty) ∙ finite.len-empty _ _))) tt

pub has_words : (c : Template) → IsBuilt c → HasWords c
has_words _ nothing =
    record {
      accounts = tt;
      objects = record { own = []; are = refl; each = tt };
      instances = each_empty instance_cmp (λ (e : InstancePath × Unit {0}). IsPlace e.0 × Unit {0});
      values = each_empty path_cmp (λ (e : FullPath × Value). IsShort e.0 × IsGood e.1);
    }
has_words _ (account {class} server built free) =
    let before = has_words class built in
    record {
      accounts = each_inserted (IsWithin 1 65534) (λ a. a) server class.accounts
          (account_range class server free) before.accounts;
      objects = before.objects;
      instances = before.instances;
      values = before.values;
    }
has_words _ (object {class} id built free) =
    let before = has_words class built in
    record {
      accounts = before.accounts;
      objects = object_more class.catalog id (object_vendor class id free) before.objects;
      instances = before.instances;
      values = before.values;
    }
has_words _ (resource {class} id d small built free) =
    let before = has_words class built in
    record {
      accounts = before.accounts;
      objects = resource_more class.catalog id d (definition_vendor class id d free) small before.objects;
      instances = before.instances;
      values = before.values;
    }
has_words _ (instance {class} place small built free) =
    let before = has_words class built in
    record {
      accounts = before.accounts;
      objects = before.objects;
      instances = subst (AllByRecursion (λ (e : InstancePath × Unit {0}). IsPlace e.0 × Unit {0}))
          (sym (finite.entries-insert instance_total class.store.instances place tt))
          (each_put instance_cmp IsPlace (λ (u : Unit {0}). Unit {0}) place tt (finite.entries class.store.instances)
          (small, instance_range class place free) tt before.instances);
      values = before.values;
    }
has_words _ (value {class} p v short good built free) =
    let before = has_words class built in
    record {
      accounts = before.accounts;
      objects = before.objects;
      instances = before.instances;
      values = subst (AllByRecursion (λ (e : FullPath × Value). IsShort e.0 × IsGood e.1))
          (sym (finite.entries-insert path_total class.store.values p v))
          (each_put path_cmp IsShort IsGood p v (finite.entries class.store.values) short good before.values);
    }
has_words _ (notify {class} seconds built fits) =
    let before = has_words class built in
    record {
      accounts = before.accounts;
      objects = before.objects;
      instances = before.instances;
      values = before.values;
    }
