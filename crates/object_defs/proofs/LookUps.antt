-- What is found in a catalog that has grown.
use Rattle.std.proofs.Common.{◌≡◌, ◌≢◌, ℕ, Bool, true, false, cond, eqb, ltb, List, [], ◌∷◌, Option, None, Some, refl}
use Rattle.std.proofs.Common.{sym, ap, ◌∙◌, arith, eqb-true}
use Rattle.std.specs.List.{find}
use Rattle.std.specs.Option.{is_some, option_map, option_and_then}
use Rattle.std.proofs.lemmas.Bool.{false≢true, ne_eqb}
use Rattle.std.proofs.lemmas.Bool.Decides.{nat_tests}
use Rattle.lemmas.proofs.Options.{none_from_test}
use Rattle.object_defs.specs.declared.definition.ResourceDef.{ResourceDef}
use Rattle.object_defs.specs.declared.definition.ObjectDef.{ObjectDef}
use Rattle.object_defs.specs.Catalog.{object_of, resource_in, definition_of}
use Rattle.object_defs.specs.Lines.{first_line}
use Rattle.object_defs.specs.Vendor.{with_inserted, is_vendor, vendor_fault, resource_fault, resource_fault_in}
use Rattle.object_defs.specs.Vendor.{with_definition, with_object, with_resource, new_object}

pub same_number : (n : ℕ) → eqb n n ≡ true
same_number n = grind (arith, nat_tests)

pub skipped : {X : Type 0} (b : Bool) (x : X) (o : Option X) → cond b (Some x) o ≡ None → (b ≡ false) × (o ≡ None)
skipped true x o h = let f : ⊥ = cc in absurd f
skipped false x o h = (refl, h)

pub find-inserted_other : {X : Type 0} (number : X → ℕ) (p : X → Bool) (x : X) (xs : List X) → p x ≡ false
    → find p (with_inserted number x xs) ≡ find p xs
find-inserted_other number p x [] h = ap (λ b. cond b (Some x) None) h
find-inserted_other number p x (y ∷ ys) h =
    elim (ltb (number x) (number y)) as (λ b.
    find p (cond b (x ∷ y ∷ ys) (y ∷ with_inserted number x ys)) ≡ find p (y ∷ ys)) [
      | true ↦ ap (λ b. cond b (Some x) (find p (y ∷ ys))) h
      | false ↦ ap (λ o. cond (p y) (Some y) o) (find-inserted_other number p x ys h)
    ]

pub find-inserted_same : {X : Type 0} (number : X → ℕ) (p : X → Bool) (x : X) (xs : List X) → p x ≡ true
    → find p xs ≡ None → find p (with_inserted number x xs) ≡ Some x
find-inserted_same number p x [] h absent = ap (λ b. cond b (Some x) None) h
find-inserted_same number p x (y ∷ ys) h absent =
    let later = skipped (p y) y (find p ys) absent in
    elim (ltb (number x) (number y)) as (λ b. find p (cond b (x ∷ y ∷ ys) (y ∷ with_inserted number x ys)) ≡ Some x) [
      | true ↦ ap (λ b. cond b (Some x) (find p (y ∷ ys))) h
      | false ↦ ap (λ b. cond b (Some y) (find p (with_inserted number x ys))) later.0
          ∙ find-inserted_same number p x ys h later.1
    ]

-- of three lines that do not apply the second does not
second : {X : Type 0} (a b d : Bool) (x y z : X) → first_line ((a, x) ∷ (b, y) ∷ (d, z) ∷ []) ≡ None → b ≡ false
second true b d x y z h = let f : ⊥ = cc in absurd f
second false true d x y z h = let f : ⊥ = cc in absurd f
second false false d x y z h = refl

-- an object that can be added is not there
pub object_absent : (c : List ObjectDef) (id : ℕ) → vendor_fault c id ≡ None → object_of c id ≡ None
object_absent c id h = none_from_test (object_of c id) (second _ _ _ _ _ _ h)

resource_absent_in : (d : ResourceDef) (o : Option ObjectDef) → resource_fault_in d o ≡ None
    → option_and_then (λ o. resource_in o.resources d.id) o ≡ None
resource_absent_in d None h = refl
resource_absent_in d (Some o) h = none_from_test (resource_in o.resources d.id) (second _ _ _ _ _ _ h)

pub vendor_is : (b : Bool) (d : ResourceDef) (o : Option ObjectDef) → resource_fault_in d (cond b o None) ≡ None
    → (b ≡ true) × (resource_fault_in d o ≡ None)
vendor_is true d o h = (refl, h)
vendor_is false d o h = let f : ⊥ = cc in absurd f

-- a resource that can be added is not there
pub resource_absent : (c : List ObjectDef) (id : ℕ) (d : ResourceDef) → resource_fault c id d ≡ None
    → definition_of c id d.id ≡ None
resource_absent c id d h = resource_absent_in d (object_of c id) (vendor_is (is_vendor id) d (object_of c id) h).1

object_is : (d : ResourceDef) (o : Option ObjectDef) → resource_fault_in d o ≡ None → is_some o ≡ true
object_is d None h = let f : ⊥ = cc in absurd f
object_is d (Some o) h = refl

-- and its object is
pub object_there : (c : List ObjectDef) (id : ℕ) (d : ResourceDef) → resource_fault c id d ≡ None
    → is_some (object_of c id) ≡ true
object_there c id d h = object_is d (object_of c id) (vendor_is (is_vendor id) d (object_of c id) h).1

pub object_of-with_object_same : (c : List ObjectDef) (id : ℕ) → vendor_fault c id ≡ None
    → object_of (with_object c id) id ≡ Some (new_object id)
object_of-with_object_same c id h =
    find-inserted_same (λ o. o.id) (λ o. eqb o.id id) (new_object id) c (same_number id) (object_absent c id h)

pub object_of-with_object_other : (c : List ObjectDef) (id q : ℕ) → q ≢ id
    → object_of (with_object c id) q ≡ object_of c q
object_of-with_object_other c id q h =
    find-inserted_other (λ o. o.id) (λ o. eqb o.id q) (new_object id) c (ne_eqb id q (λ e. h (sym e)))

other_head : (o : ObjectDef) (os rest : List ObjectDef) (id : ℕ) (d : ResourceDef) (q : ℕ) (b : Bool) → eqb o.id id ≡ b
    → q ≢ id → object_of rest q ≡ object_of os q
    → object_of (cond b (with_definition o d ∷ os) (o ∷ rest)) q ≡ object_of (o ∷ os) q
other_head o os rest id d q true e h ih =
    let f = ne_eqb o.id q (λ k. h (sym k ∙ eqb-true _ _ e)) in
    ap (λ b. cond b (Some (with_definition o d)) (object_of os q)) f
    ∙ sym (ap (λ b. cond b (Some o) (object_of os q)) f)
other_head o os rest id d q false e h ih = ap (cond (eqb o.id q) (Some o)) ih

-- another object is as it was
pub object_of-with_resource_other : (c : List ObjectDef) (id : ℕ) (d : ResourceDef) (q : ℕ) → q ≢ id
    → object_of (with_resource c id d) q ≡ object_of c q
object_of-with_resource_other [] id d q h = refl
object_of-with_resource_other (o ∷ os) id d q h =
    other_head o os (with_resource os id d) id d q (eqb o.id id) refl h (object_of-with_resource_other os id d q h)

same_head : (o : ObjectDef) (os rest : List ObjectDef) (id : ℕ) (d : ResourceDef) (b : Bool) → eqb o.id id ≡ b
    → object_of rest id ≡ option_map (λ p. with_definition p d) (object_of os id)
    → object_of (cond b (with_definition o d ∷ os) (o ∷ rest)) id
    ≡ option_map (λ p. with_definition p d) (object_of (o ∷ os) id)
same_head o os rest id d true e ih =
    ap (λ b. cond b (Some (with_definition o d)) (object_of os id)) e
    ∙ sym (ap (λ b. option_map (λ p. with_definition p d) (cond b (Some o) (object_of os id))) e)
same_head o os rest id d false e ih =
    ap (λ b. cond b (Some o) (object_of rest id)) e ∙ ih
    ∙ sym (ap (λ b. option_map (λ p. with_definition p d) (cond b (Some o) (object_of os id))) e)

-- the object has one more resource
pub object_of-with_resource_same : (c : List ObjectDef) (id : ℕ) (d : ResourceDef)
    → object_of (with_resource c id d) id ≡ option_map (λ p. with_definition p d) (object_of c id)
object_of-with_resource_same [] id d = refl
object_of-with_resource_same (o ∷ os) id d =
    same_head o os (with_resource os id d) id d (eqb o.id id) refl (object_of-with_resource_same os id d)

more_in : (d : ResourceDef) (o : Option ObjectDef) → is_some o ≡ true
    → option_and_then (λ p. resource_in p.resources d.id) o ≡ None
    → option_and_then (λ p. resource_in p.resources d.id) (option_map (λ p. with_definition p d) o) ≡ Some d
more_in d None h absent = let f : ⊥ = cc in absurd f
more_in d (Some o) h absent =
    find-inserted_same (λ r. r.id) (λ r. eqb r.id d.id) d o.resources (same_number d.id) absent

others_in : (d : ResourceDef) (r : ℕ) (o : Option ObjectDef) → eqb d.id r ≡ false
    → option_and_then (λ p. resource_in p.resources r) (option_map (λ p. with_definition p d) o)
    ≡ option_and_then (λ p. resource_in p.resources r) o
others_in d r None h = refl
others_in d r (Some o) h = find-inserted_other (λ s. s.id) (λ s. eqb s.id r) d o.resources h

pub definition_of-with_resource_same : (c : List ObjectDef) (id : ℕ) (d : ResourceDef) → resource_fault c id d ≡ None
    → definition_of (with_resource c id d) id d.id ≡ Some d
definition_of-with_resource_same c id d h =
    ap (option_and_then (λ p. resource_in p.resources d.id)) (object_of-with_resource_same c id d)
    ∙ more_in d (object_of c id) (object_there c id d h) (resource_absent c id d h)

other_definition : (c : List ObjectDef) (id : ℕ) (d : ResourceDef) (q r : ℕ) (b : Bool) → eqb q id ≡ b
    → ((q ≡ id) × (r ≡ d.id) → ⊥) → definition_of (with_resource c id d) q r ≡ definition_of c q r
other_definition c id d q r true e h =
    let same : q ≡ id = eqb-true _ _ e in
    ap (λ n. definition_of (with_resource c id d) n r) same
    ∙ ap (option_and_then (λ p. resource_in p.resources r)) (object_of-with_resource_same c id d)
    ∙ others_in d r (object_of c id) (ne_eqb d.id r (λ k. h (same, sym k)))
    ∙ sym (ap (λ n. definition_of c n r) same)
other_definition c id d q r false e h =
    ap (option_and_then (λ p. resource_in p.resources r))
    (object_of-with_resource_other c id d q (λ k. false≢true (sym e ∙ ap (λ n. eqb n id) k ∙ same_number id)))

pub definition_of-with_resource_other : (c : List ObjectDef) (id : ℕ) (d : ResourceDef) (q r : ℕ)
    → ((q ≡ id) × (r ≡ d.id) → ⊥) → definition_of (with_resource c id d) q r ≡ definition_of c q r
definition_of-with_resource_other c id d q r h = other_definition c id d q r (eqb q id) refl h
