-- What a class of devices refuses, case by case.
use Rattle.std.proofs.Common.{◌≡◌, ◌⊎◌, inl, inr, ◌↔◌, ℕ, ◌<◌, ◌≤◌, ◌==◌, not, ◌&&◌, ◌||◌, Bool, true, false}
use Rattle.std.proofs.Common.{List, [], ◌∷◌, get_or, length, suc, Option, None, Some, refl, sym, ap, subst, ◌∙◌, arith}
use Rattle.std.proofs.Common.{eq-eqb}
use Rattle.std.specs.Prelude.{⊤, IsSome, is_some, nat_le, if◌then◌else◌, option_map}
use Rattle.std.specs.List.{Contains, list_any}
use Rattle.std.proofs.lemmas.List.Folds.{list_any_at}
use Rattle.std.proofs.lemmas.Bool.{and_from, and_parts, cases_eq, eqb-true, false≢true}
use Rattle.std.proofs.lemmas.Bool.{false_from_ne_true, leb-true, le-leb, lt-leb, not-true}
use Rattle.std.proofs.lemmas.Bool.{or_cases, or_from, or_left, or_parts, or_right}
use Rattle.std.proofs.lemmas.Bool.{true_from_ne_false}
use Rattle.lwm2m_values.specs.Value.{has_good_length, kind_of}
use Rattle.lwm2m_values.specs.declared.kind.ValueKind.{ValueKind}
use Rattle.lwm2m_values.specs.declared.kind.ValueKind.TheVariants as kind
use Rattle.lwm2m_values.specs.declared.value.Value.{Value}
use Rattle.lwm2m_values.specs.declared.value.Value.TheVariants.{Text, Whole, Flag, Opaque, Moment, Link}
use Rattle.object_defs.specs.Catalog.{object_of, resource_in}
use Rattle.object_defs.specs.Lines.{first_line}
use Rattle.object_defs.specs.Operations.{can_execute, can_read}
use Rattle.object_defs.specs.Vendor.{is_sound, is_text, is_vendor, resource_fault_in, vendor_object}
use Rattle.object_defs.specs.declared.definition.ObjectDef.{ObjectDef}
use Rattle.object_defs.specs.declared.definition.Ops.{Ops}
use Rattle.object_defs.specs.declared.definition.Ops.TheVariants.{R, W, RW, E}
use Rattle.object_defs.specs.declared.definition.ResourceDef.{ResourceDef}
use Rattle.object_defs.specs.declared.fault.CatalogFault.TheVariants as catalog_faults
use Rattle.object_defs.specs.declared.path.FullPath.{FullPath}
use Rattle.object_defs.specs.declared.path.InstancePath.{InstancePath}
use Rattle.instance_store.specs.Stored.{has_instance, instances_of, parts_of, value_at, value_count}
use Rattle.device_template.specs.Template.{Template, account_fault, definition_fault, fault_of, instance_fault}
use Rattle.device_template.specs.Template.{may_stand, notify_fault, object_fault, value_fault_at}
use Rattle.device_template.specs.Values.{fits, fits_object, fits_resource, has_all_parts, has_kind, has_place}
use Rattle.device_template.specs.Values.{is_set_at_start}
use Rattle.device_template.specs.declared.fault.TemplateFault.{TemplateFault}
use Rattle.device_template.specs.declared.fault.TemplateFault.TheVariants.{Range, Missing, Duplicate, Full}
use Rattle.device_template.proofs.OwnKinds.{own_kind}
use Rattle.laws_tables.specs.Refusals.{IsOwn, IsSetByDevice, IsShortEnough, IsSound, IsVendors, MayBe, RefusedInOrder}
use Rattle.laws_tables.specs.Refusals.{SuitsObject, SuitsPath, SuitsResource}

-- ---- tests and what they mean

-- a test says a fact
record Tells (b : Bool) (P : Type 0) : Type 0 where
  said : b ≡ true → P
  so : P → b ≡ true

not_so : {b : Bool} {P : Type 0} → Tells b P → ¬ P → b ≡ false
not_so t h = false_from_ne_true _ (λ e. h (t.said e))

denied : {b : Bool} {P : Type 0} → Tells b P → b ≡ false → ¬ P
denied t e p = false≢true (sym e ∙ t.so p)

tells_not : {b : Bool} {P : Type 0} → Tells b P → Tells (not b) (¬ P)
tells_not t = record {
  said = λ e. denied t (not-true _ e);
  so = λ h. ap not (not_so t h);
}

tells_both : {a b : Bool} {P Q : Type 0} → Tells a P → Tells b Q → Tells (a && b) (P × Q)
tells_both {a} {b} s t = record {
  said = λ e. let p = and_parts a b e in (s.said p.0, t.said p.1);
  so = λ h. and_from a b (s.so h.0) (t.so h.1);
}

tells_either : {a b : Bool} {P Q : Type 0} → Tells a P → Tells b Q → Tells (a || b) (P ⊎ Q)
tells_either {a} {b} {P} {Q} s t = record {
  said = λ e. one (or_cases a b e);
  so = all;
}
  where
    one : (a ≡ true) ⊎ (b ≡ true) → P ⊎ Q
    one (inl e) = inl (s.said e)
    one (inr e) = inr (t.said e)

    all : P ⊎ Q → (a || b) ≡ true
    all (inl p) = or_left a b (s.so p)
    all (inr q) = or_right a b (t.so q)

tells_as : {b : Bool} {P Q : Type 0} → Tells b P → (P → Q) → (Q → P) → Tells b Q
tells_as t f g = record { said = λ e. f (t.said e); so = λ q. t.so (g q) }

tells_equal : (m n : ℕ) → Tells (m == n) (m ≡ n)
tells_equal m n = record { said = eqb-true m n; so = eq-eqb m n }

tells_le : (m n : ℕ) → Tells (nat_le m n) (m ≤ n)
tells_le m n = record { said = leb-true m n; so = le-leb m n }

tells_some : {A : Type 0} (o : Option A) → Tells (is_some o) (IsSome o)
tells_some o = record { said = λ e. e; so = λ h. h }

-- ---- lines that refuse

-- a line applies where the fact does not hold
record Refuses (r : Bool) (P : Type 0) : Type 0 where
  good : P → r ≡ false
  bad : ¬ P → r ≡ true

unless : {b : Bool} {P : Type 0} → Tells b P → Refuses (not b) P
unless t = record {
  good = λ p. ap not (t.so p);
  bad = λ h. ap not (not_so t h);
}

where_so : {b : Bool} {P : Type 0} → Tells b P → Refuses b (¬ P)
where_so {b} t = record {
  good = λ h. not_so t h;
  bad = λ h. true_from_ne_false b (λ e. h (denied t e));
}

at_limit : (most n : ℕ) → Refuses (nat_le most n) (n < most)
at_limit most n = record {
  good = λ h. lt-leb most n h;
  bad = λ h. le-leb most n (reached h);
}
  where
    reached : ¬ (n < most) → most ≤ n
    reached h = omega (arith, h)

where_some : {A : Type 0} (o : Option A) → Refuses (is_some o) (o ≡ None)
where_some None = record { good = λ h. refl; bad = λ h. absurd (h refl) }
where_some (Some x) = record { good = λ h. cc; bad = λ h. refl }

never : Refuses false ⊤
never = record { good = λ h. refl; bad = λ h. absurd (h tt) }

as_said : {r : Bool} {P Q : Type 0} → Refuses r P → (P → Q) → (Q → P) → Refuses r Q
as_said s f g = record { good = λ q. s.good (g q); bad = λ h. s.bad (λ p. h (f p)) }

-- ---- the order

abbrev faults_of : Bool → Bool → Bool → Bool → Option TemplateFault
faults_of range missing duplicate full =
    first_line ((range, Range) ∷ (missing, Missing) ∷ (duplicate, Duplicate) ∷ (full, Full) ∷ [])

in_order : {a b c d : Bool} {P Q S U : Type 0} → Refuses a P → Refuses b Q → Refuses c S → Refuses d U
    → RefusedInOrder P Q S U (faults_of a b c d)
in_order {a} {b} {c} {d} p q s u =
    record {
      range = λ h. ap (λ x. faults_of x b c d) (p.bad h);
      missing = λ x h. ap (λ t. faults_of t b c d) (p.good x) ∙ ap (λ t. faults_of false t c d) (q.bad h);
      duplicate = λ x y h. ap (λ t. faults_of t b c d) (p.good x) ∙ ap (λ t. faults_of false t c d) (q.good y)
          ∙ ap (λ t. faults_of false false t d) (s.bad h);
      full = λ x y z h. ap (λ t. faults_of t b c d) (p.good x) ∙ ap (λ t. faults_of false t c d) (q.good y)
          ∙ ap (λ t. faults_of false false t d) (s.good z) ∙ ap (faults_of false false false) (u.bad h);
      taken = λ x y z w. ap (λ t. faults_of t b c d) (p.good x) ∙ ap (λ t. faults_of false t c d) (q.good y)
          ∙ ap (λ t. faults_of false false t d) (s.good z) ∙ ap (faults_of false false false) (u.good w);
    }

-- ---- accounts and first timeouts

tells_among : (n : ℕ) (ns : List ℕ) → Tells (list_any (λ m. m == n) ns) (Contains ns n)
tells_among n ns = record {
  said = among n ns;
  so = λ c. list_any_at (λ m. m == n) ns c.0 n c.1 (eq-eqb (get_or ns c.0 n) n c.2);
}
  where
    later : (n m : ℕ) (ms : List ℕ) → Contains ms n → Contains (m ∷ ms) n
    later n m ms c = (suc c.0, omega (arith, c.1), c.2)

    either : (n m : ℕ) (ms : List ℕ) → ((m == n) ≡ true) ⊎ (list_any (λ k. k == n) ms ≡ true)
        → (list_any (λ k. k == n) ms ≡ true → Contains ms n) → Contains (m ∷ ms) n
    either n m ms (inl e) rest = (0, omega arith, eqb-true m n e)
    either n m ms (inr e) rest = later n m ms (rest e)

    among : (n : ℕ) (ns : List ℕ) → list_any (λ m. m == n) ns ≡ true → Contains ns n
    among n [] e = cc
    among n (m ∷ ms) e = either n m ms (or_cases (m == n) (list_any (λ k. k == n) ms) e) (among n ms)

pub accounts_refused : (class : Template) (server : ℕ)
    → RefusedInOrder ((1 ≤ server) × (server ≤ 65534)) ⊤ (¬ (Contains class.accounts server))
    (length class.accounts < 4) (account_fault class server)
accounts_refused class server =
    in_order (unless (tells_both (tells_le 1 server) (tells_le server 65534))) never
    (where_so (tells_among server class.accounts)) (at_limit 4 (length class.accounts))

pub timeouts_refused : (seconds : ℕ)
    → RefusedInOrder ((seconds ≡ 0) ⊎ ((seconds ≡ 2) ⊎ (seconds ≡ 3))) ⊤ ⊤ ⊤ (notify_fault seconds)
timeouts_refused seconds =
    in_order (unless (tells_either (tells_equal seconds 0) (tells_either (tells_equal seconds 2)
    (tells_equal seconds 3)))) never never never

-- ---- objects and resources

-- what the catalog refuses, the class refuses
of_catalog : (a b c : Bool)
    → option_map fault_of (first_line ((a, catalog_faults.IdRange) ∷ (b, catalog_faults.Duplicate) ∷ (
      c,
      catalog_faults.TooMany,
    ) ∷ []))
    ≡ faults_of a false b c
of_catalog true b c = refl
of_catalog false true c = refl
of_catalog false false true = refl
of_catalog false false false = refl

tells_vendors : (id : ℕ) → Tells (is_vendor id) (IsVendors id)
tells_vendors id = tells_both (tells_le 10241 id) (tells_le id 32768)

pub objects_refused : (class : Template) (id : ℕ)
    → RefusedInOrder (IsVendors id) ⊤ (object_of class.catalog id ≡ None) (length class.catalog < 16)
    (object_fault class id)
objects_refused class id =
    subst (RefusedInOrder (IsVendors id) ⊤ (object_of class.catalog id ≡ None) (length class.catalog < 16))
    (sym (of_catalog (not (is_vendor id)) (is_some (object_of class.catalog id))
    (nat_le 16 (length class.catalog))))
    (in_order (unless (tells_vendors id)) never (where_some (object_of class.catalog id))
    (at_limit 16 (length class.catalog)))

tells_text : (k : ValueKind) → Tells (is_text k) (k ≡ kind.Text)
tells_text kind.Text = record { said = λ e. refl; so = λ h. refl }
tells_text kind.Whole = record { said = λ e. cc; so = λ h. cc }
tells_text kind.Flag = record { said = λ e. cc; so = λ h. cc }
tells_text kind.Opaque = record { said = λ e. cc; so = λ h. cc }
tells_text kind.Moment = record { said = λ e. cc; so = λ h. cc }
tells_text kind.Link = record { said = λ e. cc; so = λ h. cc }

tells_single : (b : Bool) → Tells (not b) (b ≡ false)
tells_single b = record { said = λ e. not-true b e; so = λ h. ap not h }

tells_execute : (o : Ops) → Tells (can_execute o) (o ≡ E)
tells_execute R = record { said = λ e. cc; so = λ h. cc }
tells_execute W = record { said = λ e. cc; so = λ h. cc }
tells_execute RW = record { said = λ e. cc; so = λ h. cc }
tells_execute E = record { said = λ e. refl; so = λ h. refl }

-- a test that is asked where another one passes
tells_where : (a b : Bool) {P Q : Type 0} → Tells a P → Tells b Q → Tells (if a then b else true) (P → Q)
tells_where true b s t = record {
  said = λ e p. t.said e;
  so = λ h. t.so (h (s.said refl));
}
tells_where false b s t = record {
  said = λ e p. absurd (false≢true (s.so p));
  so = λ h. refl;
}

tells_sound : (d : ResourceDef) → Tells (is_sound d) (IsSound d)
tells_sound d =
    tells_where (can_execute d.ops) (not d.multiple && is_text d.kind) (tells_execute d.ops)
    (tells_both (tells_single d.multiple) (tells_text d.kind))

-- the object of the class's own, where the catalog finds it
own_of : (class : Template) (id : ℕ) (o : ObjectDef) (b : Bool) → is_vendor id ≡ b
    → (if b then object_of class.catalog id else None) ≡ Some o → IsOwn class id o
own_of class id o true e h = ((tells_vendors id).said e, h)
own_of class id o false e h = cc

found_own : (class : Template) (id : ℕ) (o : ObjectDef) → IsOwn class id o
    → vendor_object class.catalog id ≡ Some o
found_own class id o own =
    ap (λ b. if b then object_of class.catalog id else None) ((tells_vendors id).so own.0) ∙ own.1

abbrev ResourceRefused : Template → ℕ → ResourceDef → Option TemplateFault → Type 0
ResourceRefused class object d =
    RefusedInOrder (((o : ObjectDef) × IsOwn class object o) × IsSound d) ⊤
    ((o : ObjectDef) → IsOwn class object o → resource_in o.resources d.id ≡ None)
    ((o : ObjectDef) → IsOwn class object o → length o.resources < 64)

of_object : (class : Template) (object : ℕ) (d : ResourceDef) (r : Option ObjectDef)
    → vendor_object class.catalog object ≡ r
    → ResourceRefused class object d (option_map fault_of (resource_fault_in d r))
of_object class object d None e =
    record {
      range = λ h. refl;
      missing = λ f h. absurd (nothing f);
      duplicate = λ f s h. absurd (nothing f);
      full = λ f s n h. absurd (nothing f);
      taken = λ f s n h. absurd (nothing f);
    }
  where
    none_some : (o : ObjectDef) → None ≡ Some o → ⊥
    none_some o h = cc

    nothing : ((o : ObjectDef) × IsOwn class object o) × IsSound d → ⊥
    nothing f = none_some f.0.0 (sym e ∙ found_own class object f.0.0 f.0.1)
of_object class object d (Some o) e =
    subst (ResourceRefused class object d)
    (sym (of_catalog (not (is_sound d)) (is_some (resource_in o.resources d.id)) (nat_le 64 (length o.resources))))
    (in_order (as_said (unless (tells_sound d)) (λ s. ((o, own), s)) (λ p. p.1)) never
    (as_said (where_some (resource_in o.resources d.id))
    (λ h q is. ap (λ (x : ObjectDef). resource_in x.resources d.id) (same q is) ∙ h) (λ h. h o own))
    (as_said (at_limit 64 (length o.resources))
    (λ h q is. subst (λ (x : ObjectDef). length x.resources < 64) (sym (same q is)) h) (λ h. h o own)))
  where
    own : IsOwn class object o
    own = own_of class object o (is_vendor object) refl e

    one_some : (q : ObjectDef) → Some q ≡ Some o → q ≡ o
    one_some q h = cc

    same : (q : ObjectDef) → IsOwn class object q → q ≡ o
    same q is = one_some q (sym (found_own class object q is) ∙ e)

pub resources_refused : (class : Template) (object : ℕ) (d : ResourceDef)
    → ResourceRefused class object d (definition_fault class object d)
resources_refused class object d = of_object class object d (vendor_object class.catalog object) refl

-- ---- instances

tells_may_be : (place : InstancePath) → Tells (may_stand place) (MayBe place)
tells_may_be place =
    tells_as (tells_both (tells_not (tells_equal place.object 0)) (tells_both (tells_le place.instance 65534)
    (tells_either (tells_not (tells_either (tells_equal place.object 3) (tells_equal place.object 5)))
    (tells_equal place.instance 0))))
    (λ p. record {
      not_security = p.0;
      number = p.1.0;
      one_device = λ e. lone (inl e) p.1.1;
      one_firmware = λ e. lone (inr e) p.1.1;
    })
    (λ m. (m.not_security, (m.number, of_one m (cases_eq place.object 3) (cases_eq place.object 5))))
  where
    lone : (place.object ≡ 3) ⊎ (place.object ≡ 5)
        → (¬ ((place.object ≡ 3) ⊎ (place.object ≡ 5))) ⊎ (place.instance ≡ 0) → place.instance ≡ 0
    lone is (inl other) = absurd (other is)
    lone is (inr e) = e

    neither : (place.object ≡ 3 → ⊥) → (place.object ≡ 5 → ⊥) → (place.object ≡ 3) ⊎ (place.object ≡ 5) → ⊥
    neither a b (inl e) = a e
    neither a b (inr e) = b e

    of_one : MayBe place → (place.object ≡ 3) ⊎ (place.object ≡ 3 → ⊥)
        → (place.object ≡ 5) ⊎ (place.object ≡ 5 → ⊥)
        → (¬ ((place.object ≡ 3) ⊎ (place.object ≡ 5))) ⊎ (place.instance ≡ 0)
    of_one m (inl e) other = inr (m.one_device e)
    of_one m (inr a) (inl e) = inr (m.one_firmware e)
    of_one m (inr a) (inr b) = inl (neither a b)

where_there : (b : Bool) → Refuses b (b ≡ false)
where_there b = record { good = λ h. h; bad = λ h. true_from_ne_false b h }

pub instances_refused : (class : Template) (place : InstancePath)
    → RefusedInOrder (MayBe place) (IsSome (object_of class.catalog place.object))
    (has_instance class.store place ≡ false) (length (instances_of class.store place.object) < 64)
    (instance_fault class place)
instances_refused class place =
    in_order (unless (tells_may_be place)) (unless (tells_some (object_of class.catalog place.object)))
    (where_there (has_instance class.store place)) (at_limit 64 (length (instances_of class.store place.object)))

-- ---- values

tells_short : (value : Value) → Tells (has_good_length value) (IsShortEnough value)
tells_short (Text t) = tells_le (length t) 255
tells_short (Whole z) = record { said = λ e. tt; so = λ h. refl }
tells_short (Flag b) = record { said = λ e. tt; so = λ h. refl }
tells_short (Opaque b) = tells_le (length b) 1024
tells_short (Moment z) = record { said = λ e. tt; so = λ h. refl }
tells_short (Link o i) = record { said = λ e. tt; so = λ h. refl }

tells_read : (o : Ops) → Tells (can_read o) ((o ≡ R) ⊎ (o ≡ RW))
tells_read R = record { said = λ e. inl refl; so = λ h. refl }
tells_read W = record { said = λ e. cc; so = λ h. absurd (not_read h) }
  where
    not_read : (W ≡ R) ⊎ (W ≡ RW) → ⊥
    not_read (inl e) = cc
    not_read (inr e) = cc
tells_read RW = record { said = λ e. inr refl; so = λ h. refl }
tells_read E = record { said = λ e. cc; so = λ h. absurd (not_read h) }
  where
    not_read : (E ≡ R) ⊎ (E ≡ RW) → ⊥
    not_read (inl e) = cc
    not_read (inr e) = cc

named : (v : Value) (k : ValueKind) → has_kind v k ≡ true → k ≡ kind_of v
named (Text x) kind.Text h = refl
named (Text x) kind.Whole h = cc
named (Text x) kind.Flag h = cc
named (Text x) kind.Opaque h = cc
named (Text x) kind.Moment h = cc
named (Text x) kind.Link h = cc
named (Whole x) kind.Text h = cc
named (Whole x) kind.Whole h = refl
named (Whole x) kind.Flag h = cc
named (Whole x) kind.Opaque h = cc
named (Whole x) kind.Moment h = cc
named (Whole x) kind.Link h = cc
named (Flag x) kind.Text h = cc
named (Flag x) kind.Whole h = cc
named (Flag x) kind.Flag h = refl
named (Flag x) kind.Opaque h = cc
named (Flag x) kind.Moment h = cc
named (Flag x) kind.Link h = cc
named (Opaque x) kind.Text h = cc
named (Opaque x) kind.Whole h = cc
named (Opaque x) kind.Flag h = cc
named (Opaque x) kind.Opaque h = refl
named (Opaque x) kind.Moment h = cc
named (Opaque x) kind.Link h = cc
named (Moment x) kind.Text h = cc
named (Moment x) kind.Whole h = cc
named (Moment x) kind.Flag h = cc
named (Moment x) kind.Opaque h = cc
named (Moment x) kind.Moment h = refl
named (Moment x) kind.Link h = cc
named (Link x y) kind.Text h = cc
named (Link x y) kind.Whole h = cc
named (Link x y) kind.Flag h = cc
named (Link x y) kind.Opaque h = cc
named (Link x y) kind.Moment h = cc
named (Link x y) kind.Link h = refl

tells_kind : (v : Value) (k : ValueKind) → Tells (has_kind v k) (k ≡ kind_of v)
tells_kind v k = record { said = named v k; so = λ e. ap (has_kind v) e ∙ own_kind v }

tells_part : (m s : Bool) → Tells (if m then s else not s) ((m ≡ true) ↔ (s ≡ true))
tells_part true s = record {
  said = λ e. ((λ h. e), (λ h. refl));
  so = λ h. h.0 refl;
}
tells_part false s = record {
  said = λ e. ((λ h. absurd (false≢true h)), (λ h. absurd (false≢true (sym (not-true s e) ∙ h))));
  so = λ h. ap not (false_from_ne_true s (λ e. false≢true (h.1 e)));
}

tells_suits : (p : FullPath) (value : Value) (r : Option ResourceDef)
    → Tells (fits_resource p value r) ((d : ResourceDef) × (r ≡ Some d) × SuitsResource d p value)
tells_suits p value None = record {
  said = λ e. absurd (false≢true e);
  so = λ h. absurd (none h.0 h.1);
}
  where
    none : (d : ResourceDef) → None ≡ Some d → ⊥
    none d h = cc
tells_suits p value (Some d) =
    tells_as (tells_both (tells_read d.ops) (tells_both (tells_kind value d.kind)
    (tells_part d.multiple (is_some p.part))))
    (λ q. (d, refl, record { readable = q.0; kind = q.1.0; part = q.1.1 }))
    (λ q. parts (subst (λ e. SuitsResource e p value) (sym (one q.0 q.1)) q.2))
  where
    one : (e : ResourceDef) → Some d ≡ Some e → d ≡ e
    one e h = cc

    parts : SuitsResource d p value → ((d.ops ≡ R) ⊎ (d.ops ≡ RW))
        × ((d.kind ≡ kind_of value) × ((d.multiple ≡ true) ↔ (is_some p.part ≡ true)))
    parts s = (s.readable, (s.kind, s.part))

tells_device : (p : FullPath) → Tells (is_set_at_start p) (IsSetByDevice p)
tells_device p =
    tells_as (tells_both (tells_equal p.object 5) (tells_both (tells_equal p.instance 0)
    (tells_either (tells_equal p.resource 1) (tells_either (tells_equal p.resource 3) (tells_equal p.resource 5)))))
    (λ q. (q.0, q.1.0, q.1.1)) (λ q. (q.0, (q.1, q.2)))

tells_object : (p : FullPath) (value : Value) (r : Option ObjectDef)
    → Tells (fits_object p value r) ((o : ObjectDef) → r ≡ Some o → SuitsObject o p value)
tells_object p value None = record {
  said = λ e o h. absurd (none o h);
  so = λ h. refl;
}
  where
    none : (o : ObjectDef) → None ≡ Some o → ⊥
    none o h = cc
tells_object p value (Some o) =
    tells_as (tells_both (tells_suits p value (resource_in o.resources p.resource)) (tells_not (tells_device p)))
    (λ q x h. subst (λ y. SuitsObject y p value) (one x h) q) (λ f. f o refl)
  where
    one : (x : ObjectDef) → Some o ≡ Some x → o ≡ x
    one x h = cc

tells_fits : (class : Template) (p : FullPath) (value : Value)
    → Tells (fits class.catalog p value) (IsShortEnough value × SuitsPath class p value)
tells_fits class p value =
    tells_both (tells_short value) (tells_object p value (object_of class.catalog p.object))

-- two lines of one fault are one
both_full : (a b c d e : Bool)
    → first_line ((a, Range) ∷ (b, Missing) ∷ (c, Duplicate) ∷ (d, Full) ∷ (e, Full) ∷ [])
    ≡ faults_of a b c (d || e)
both_full true b c d e = refl
both_full false true c d e = refl
both_full false false true d e = refl
both_full false false false true e = refl
both_full false false false false true = refl
both_full false false false false false = refl

at_either_limit : (a b c : Bool) (P Q : Type 0) → Refuses a P → Refuses c Q
    → Refuses (a || (b && c)) (P × (b ≡ true → Q))
at_either_limit a b c P Q p q = record {
  good = λ h. or_from a (b && c) (p.good h.0) (part b h.1);
  bad = λ h. true_from_ne_false (a || (b && c)) (λ e. both b (or_parts a (b && c) e) h);
}
  where
    part : (b : Bool) → (b ≡ true → Q) → (b && c) ≡ false
    part true h = q.good (h refl)
    part false h = refl

    first : a ≡ false → ¬ (¬ P)
    first e h = false≢true (sym e ∙ p.bad h)

    second : c ≡ false → ¬ (¬ Q)
    second e h = false≢true (sym e ∙ q.bad h)

    both : (b : Bool) → (a ≡ false) × ((b && c) ≡ false) → ¬ (¬ (P × (b ≡ true → Q)))
    both true e h = first e.0 (λ x. second e.1 (λ y. h (x, (λ k. y))))
    both false e h = first e.0 (λ x. h (x, (λ k. absurd (false≢true k))))

pub values_refused : (class : Template) (p : FullPath) (value : Value)
    → RefusedInOrder (IsShortEnough value × SuitsPath class p value)
    (IsSome (object_of class.catalog p.object)
    × (has_instance class.store (record { object = p.object; instance = p.instance }) ≡ true))
    (value_at class.store p ≡ None)
    ((value_count class.store < 65535)
    × (IsSome p.part
    → length (parts_of class.store (record { object = p.object; instance = p.instance; resource = p.resource })) < 32))
    (value_fault_at class p value)
values_refused class p value =
    let parts = parts_of class.store (record { object = p.object; instance = p.instance; resource = p.resource }) in
    let there = has_instance class.store (record { object = p.object; instance = p.instance }) in
    subst (RefusedInOrder (IsShortEnough value × SuitsPath class p value)
    (IsSome (object_of class.catalog p.object) × (there ≡ true)) (value_at class.store p ≡ None)
    ((value_count class.store < 65535) × (IsSome p.part → length parts < 32)))
    (sym (both_full (not (fits class.catalog p value)) (not (has_place class.catalog class.store p))
    (is_some (value_at class.store p)) (nat_le 65535 (value_count class.store)) (has_all_parts class.store p)))
    (in_order (unless (tells_fits class p value))
    (unless (tells_both (tells_some (object_of class.catalog p.object)) (itself there)))
    (where_some (value_at class.store p))
    (at_either_limit (nat_le 65535 (value_count class.store)) (is_some p.part) (nat_le 32 (length parts))
    (value_count class.store < 65535) (length parts < 32) (at_limit 65535 (value_count class.store))
    (at_limit 32 (length parts))))
  where
    itself : (b : Bool) → Tells b (b ≡ true)
    itself b = record { said = λ e. e; so = λ h. h }
