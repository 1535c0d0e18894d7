-- A template stays one that accepted additions made.
use Rattle.std.proofs.Common.{◌≡◌, ℕ, ◌<◌, true, List, [], None, Some, Result, Ok, Err, OnOk, OnErr, option_map}
use Rattle.std.proofs.Common.{refl, sym, ap, subst, ◌∙◌}
use Rattle.lemmas.proofs.Options.{not_refused}
use Rattle.lwm2m_values.specs.declared.value.Value.{Value}
use Rattle.lwm2m_values.specs.Value.{IsGood}
use Rattle.object_defs.specs.Base.{base}
use Rattle.object_defs.specs.Vendor.{with_inserted, with_object, with_resource, vendor_fault, resource_fault}
use Rattle.object_defs.specs.declared.definition.ObjectDef.{ObjectDef}
use Rattle.object_defs.specs.declared.definition.ResourceDef.{ResourceDef}
use Rattle.object_defs.specs.declared.fault.CatalogFault.{CatalogFault}
use Rattle.object_defs.specs.declared.path.FullPath.{FullPath}
use Rattle.object_defs.specs.declared.path.InstancePath.{InstancePath}
use Rattle.instance_store.specs.Stored.{Stored, empty, with_instance, with_value}
use Rattle.instance_store.specs.declared.fault.StoreFault.{StoreFault}
use Rattle.device_template.specs.Template.{Template, account_fault, fault_of, instance_fault, is_notify}
use Rattle.device_template.specs.Template.{notify_fault, value_fault_at}
use Rattle.device_template.specs.Built.{IsBuilt, IsShort}
use Rattle.device_template.specs.Built.IsBuilt.{nothing, account, object, resource, instance, value, notify}

abbrev pub made : List ℕ → List ObjectDef → Stored → ℕ → Template
made accounts catalog store seconds =
    record { accounts = accounts; catalog = catalog; store = store; notify = seconds }

pub by_nothing : (a : List ℕ) (c : List ObjectDef) (s : Stored) → a ≡ [] → c ≡ base → s ≡ empty → IsBuilt (made a c s 0)
by_nothing a c s ea ec es =
    subst (λ x. IsBuilt (made x c s 0)) (sym ea)
    (subst (λ y. IsBuilt (made [] y s 0)) (sym ec) (subst (λ z. IsBuilt (made [] base z 0)) (sym es) nothing))

pub by_account : (a new : List ℕ) (c : List ObjectDef) (s : Stored) (n : ℕ) (class : Template) (server : ℕ)
    → IsBuilt (made a c s n) → made a c s n ≡ class
    → account_fault class server ≡ None → new ≡ with_inserted (λ a. a) server a → IsBuilt (made new c s n)
by_account a new c s n class server built same free more =
    subst (λ x. IsBuilt (made x c s n)) (sym more) (account server built (ap (λ k. account_fault k server) same ∙ free))

pub by_object : (a : List ℕ) (c new : List ObjectDef) (s : Stored) (n : ℕ) (id : ℕ) (r : Result (Unit {0}) CatalogFault)
    (x : Unit {0}) → IsBuilt (made a c s n) → r ≡ Ok x
    → ((f : CatalogFault) → vendor_fault c id ≡ Some f → r ≡ Err f) → new ≡ with_object c id → IsBuilt (made a new s n)
by_object a c new s n id r x built ok refuses more =
    subst (λ y. IsBuilt (made a y s n)) (sym more)
    (object id built (ap (option_map fault_of) (not_refused (vendor_fault c id) r x ok refuses)))

pub by_resource : (a : List ℕ) (c new : List ObjectDef) (s : Stored) (n : ℕ) (id : ℕ) (d : ResourceDef)
    (r : Result (Unit {0}) CatalogFault) (x : Unit {0}) → d.id < 65536 → IsBuilt (made a c s n) → r ≡ Ok x
    → ((f : CatalogFault) → resource_fault c id d ≡ Some f → r ≡ Err f) → new ≡ with_resource c id d
    → IsBuilt (made a new s n)
by_resource a c new s n id d r x short built ok refuses more =
    subst (λ y. IsBuilt (made a y s n)) (sym more)
    (resource id d short built (ap (option_map fault_of) (not_refused (resource_fault c id d) r x ok refuses)))

pub by_instance : (a : List ℕ) (c : List ObjectDef) (s new : Stored) (n : ℕ) (class : Template) (place : InstancePath)
    (r : Result (Unit {0}) StoreFault) → place.object < 65536 → IsBuilt (made a c s n) → made a c s n ≡ class
    → instance_fault class place ≡ None → OnOk r (new ≡ with_instance s place) → OnErr r (new ≡ s)
    → IsBuilt (made a c new n)
by_instance a c s new n class place (Ok x) short built same free more kept =
    subst (λ y. IsBuilt (made a c y n)) (sym more)
    (instance place short built (ap (λ k. instance_fault k place) same ∙ free))
by_instance a c s new n class place (Err f) short built same free more kept =
    subst (λ y. IsBuilt (made a c y n)) (sym kept) built

pub by_value : (a : List ℕ) (c : List ObjectDef) (s new : Stored) (n : ℕ) (class : Template) (p : FullPath) (v : Value)
    (r : Result (Unit {0}) StoreFault) → IsShort p → IsGood v → IsBuilt (made a c s n) → made a c s n ≡ class
    → value_fault_at class p v ≡ None → OnOk r (new ≡ with_value s p v) → OnErr r (new ≡ s) → IsBuilt (made a c new n)
by_value a c s new n class p v (Ok x) short good built same free more kept =
    subst (λ y. IsBuilt (made a c y n)) (sym more)
    (value p v short good built (ap (λ k. value_fault_at k p v) same ∙ free))
by_value a c s new n class p v (Err f) short good built same free more kept =
    subst (λ y. IsBuilt (made a c y n)) (sym kept) built

pub fits_none : (seconds : ℕ) → is_notify seconds ≡ true → notify_fault seconds ≡ None
fits_none seconds h = rw h refl

pub by_notify : (a : List ℕ) (c : List ObjectDef) (s : Stored) (n seconds : ℕ) → IsBuilt (made a c s n)
    → notify_fault seconds ≡ None → IsBuilt (made a c s seconds)
by_notify a c s n seconds built fits = notify seconds built fits

-- what a class says of its notifications is one of the three ways
pub notify_fits : (class : Template) → IsBuilt class → notify_fault class.notify ≡ None
notify_fits _ nothing = refl
notify_fits _ (account {class} server built free) = notify_fits class built
notify_fits _ (object {class} id built free) = notify_fits class built
notify_fits _ (resource {class} id d short built free) = notify_fits class built
notify_fits _ (instance {class} place short built free) = notify_fits class built
notify_fits _ (value {class} p v short good built free) = notify_fits class built
notify_fits _ (notify {class} seconds built fits) = fits
