-- The objects of a class's own stand after the base objects, and have numbers that words can say.
use Rattle.std.proofs.Common.{◌≡◌, ℕ, ◌≤◌, ◌<◌, Bool, true, false, cond, eqb, ltb, leb, List, [], ◌∷◌, ◌++◌, Option}
use Rattle.std.proofs.Common.{None, refl, ap, ◌∙◌, arith}
use Rattle.std.specs.Prelude.{option_map}
use Rattle.std.specs.List.{AllByRecursion}
use Rattle.std.proofs.lemmas.Bool.{and_parts, leb-true}
use Rattle.std.proofs.lemmas.Bool.Decides.{nat_tests}
use Rattle.object_defs.specs.Base.{base}
use Rattle.object_defs.specs.Catalog.{object_of}
use Rattle.object_defs.specs.Vendor.{is_vendor, new_object, resource_fault_in, with_definition, with_inserted}
use Rattle.object_defs.specs.Vendor.{with_object, with_resource}
use Rattle.object_defs.specs.declared.definition.ObjectDef.{ObjectDef}
use Rattle.object_defs.specs.declared.definition.ResourceDef.{ResourceDef}
use Rattle.device_template.specs.Template.{Template, definition_fault, fault_of}
use Rattle.scenario_statements.specs.Spelling.{IsWithin}
use Rattle.scenario_asm.proofs.Each.{chosen, each_inserted}

-- an object of a vendor's number, whose resources have numbers of 16 bits
abbrev pub IsOwn : ObjectDef → Type 0
IsOwn o = IsWithin 10241 32768 o.id × AllByRecursion (λ d. d.id < 65536) o.resources

-- the base objects, and after them such objects
pub record HasOwn (catalog : List ObjectDef) : Type 0 where
  pub own : List ObjectDef
  pub are : catalog ≡ base ++ own
  pub each : AllByRecursion IsOwn own

pub vendor_range : (n : ℕ) → is_vendor n ≡ true → IsWithin 10241 32768 n
vendor_range n h = let both =
    and_parts (leb 10241 n) (leb n 32768) h in (leb-true 10241 n both.0, leb-true n 32768 both.1)

-- ---- the base objects have lower numbers

not_below : (n k : ℕ) → 10241 ≤ n → k < 10241 → ltb n k ≡ false
not_below n k h l = grind (arith, nat_tests)

not_same : (n k : ℕ) → 10241 ≤ n → k < 10241 → eqb k n ≡ false
not_same n k h l = grind (arith, nat_tests)

base_low : AllByRecursion (λ (o : ObjectDef). o.id < 10241) base
base_low = (omega arith, (omega arith, (omega arith, (omega arith, (omega arith, tt)))))

inserted_behind : (o : ObjectDef) (front back : List ObjectDef) → 10241 ≤ o.id
    → AllByRecursion (λ (f : ObjectDef). f.id < 10241) front
    → with_inserted (λ (f : ObjectDef). f.id) o (front ++ back) ≡ front
    ++ with_inserted (λ (f : ObjectDef). f.id) o back
inserted_behind o [] back h low = refl
inserted_behind o (f ∷ front) back h low =
    ap (λ b. cond b (o ∷ f ∷ front ++ back) (f ∷ with_inserted (λ (g : ObjectDef). g.id) o (front ++ back)))
    (not_below o.id f.id h low.0)
    ∙ ap (λ t. f ∷ t) (inserted_behind o front back h low.1)

resource_behind : (id : ℕ) (d : ResourceDef) (front back : List ObjectDef) → 10241 ≤ id
    → AllByRecursion (λ (f : ObjectDef). f.id < 10241) front
    → with_resource (front ++ back) id d ≡ front ++ with_resource back id d
resource_behind id d [] back h low = refl
resource_behind id d (f ∷ front) back h low =
    ap (λ b. cond b (with_definition f d ∷ front ++ back) (f ∷ with_resource (front ++ back) id d))
    (not_same id f.id h low.0)
    ∙ ap (λ t. f ∷ t) (resource_behind id d front back h low.1)

-- ---- what is added

each_defined : (id : ℕ) (d : ResourceDef) (own : List ObjectDef) → d.id < 65536 → AllByRecursion IsOwn own
    → AllByRecursion IsOwn (with_resource own id d)
each_defined id d [] small each = tt
each_defined id d (o ∷ own) small each =
    chosen (AllByRecursion IsOwn) (eqb o.id id) (with_definition o d ∷ own) (o ∷ with_resource own id d)
    (λ e. ((each.0.0, each_inserted (λ r. r.id < 65536) (λ r. r.id) d o.resources small each.0.1), each.1))
    (λ e. (each.0, each_defined id d own small each.1))

pub object_more : (c : List ObjectDef) (id : ℕ) → is_vendor id ≡ true → HasOwn c → HasOwn (with_object c id)
object_more c id vendor has =
    let range = vendor_range id vendor in
    record {
      own = with_object has.own id;
      are = ap (λ k. with_object k id) has.are ∙ inserted_behind (new_object id) base has.own range.0 base_low;
      each = each_inserted IsOwn (λ o. o.id) (new_object id) has.own (range, tt) has.each;
    }

pub resource_more : (c : List ObjectDef) (id : ℕ) (d : ResourceDef) → is_vendor id ≡ true → d.id < 65536 → HasOwn c
    → HasOwn (with_resource c id d)
resource_more c id d vendor small has =
    record {
      own = with_resource has.own id d;
      are = ap (λ k. with_resource k id d) has.are
          ∙ resource_behind id d base has.own (vendor_range id vendor).0 base_low;
      each = each_defined id d has.own small has.each;
    }

vendor_of : (b : Bool) (d : ResourceDef) (o : Option ObjectDef)
    → option_map fault_of (resource_fault_in d (cond b o None)) ≡ None → b ≡ true
vendor_of true d o h = refl
vendor_of false d o h = absurd cc

pub definition_vendor : (c : Template) (id : ℕ) (d : ResourceDef) → definition_fault c id d ≡ None → is_vendor id ≡ true
definition_vendor c id d h = vendor_of (is_vendor id) d (object_of c.catalog id) h
