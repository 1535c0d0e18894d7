-- An object that is read and added to a class.
use Rattle.std.proofs.Common.{◌≡◌, ℕ, true, List, [], ◌∷◌, ◌++◌, length, Some, Ok, refl, sym, ap, ◌∙◌, append_assoc}
use Rattle.std.specs.Prelude.{nat_lt}
use Rattle.std.specs.List.{list_all}
use Rattle.byte_layout.specs.Layout.{each}
use Rattle.byte_layout.specs.Exact.{IsBytes}
use Rattle.byte_layout.proofs.Layouts.{bytes_behind}
use Rattle.object_defs.specs.Base.{base}
use Rattle.object_defs.specs.Catalog.{object_of}
use Rattle.object_defs.specs.Vendor.{new_object}
use Rattle.object_defs.specs.declared.definition.ResourceDef.{ResourceDef}
use Rattle.scenario_layout.specs.Definition.{resource, resources}
use Rattle.scenario_layout.proofs.Definitions.{resources_exact}
use Rattle.device_template.specs.Template.{Template, with_catalog}
use Rattle.scenario_layout.specs.Growing.{items_with_next, with_definitions}
use Rattle.scenario_layout.specs.Class.{objects_in, with_objects, object_of_definitions, object_id, object}
use Rattle.scenario_layout.proofs.ExactClass.{object_id_exact}
use Rattle.scenario_layout.proofs.Defined.{found_end, defined_end}

-- the catalog after a new object
catalog_on : (c u : Template) (id : ℕ) → c ≡ with_objects c (objects_in c)
    → u ≡ with_objects c (objects_in c ++ new_object id ∷ []) → u.catalog ≡ c.catalog ++ new_object id ∷ []
catalog_on c u id itself made =
    ap (λ (k : Template). k.catalog) made
    ∙ sym (append_assoc base (objects_in c) (new_object id ∷ []))
    ∙ ap (λ (k : Template). k.catalog ++ new_object id ∷ []) (sym itself)

pub new_found : (c u : Template) (id : ℕ) → c ≡ with_objects c (objects_in c)
    → list_all (λ o. nat_lt o.id id) c.catalog ≡ true → u ≡ with_objects c (objects_in c ++ new_object id ∷ [])
    → object_of u.catalog id ≡ Some (new_object id)
new_found c u id itself above made =
    ap (λ t. object_of t id) (catalog_on c u id itself made) ∙ found_end c.catalog id above

pub definitions_good : (c : Template) (bytes : List ℕ) (id : ℕ) (rest : List ℕ) (ds : List ResourceDef) (after : List ℕ)
    → IsBytes bytes → (object_id c (objects_in c)).read bytes ≡ Ok (id, rest) → resources.read rest ≡ Ok (ds, after)
    → resources.Good ds
definitions_good c bytes id rest ds after fits read held =
    (resources_exact.taken rest (bytes_behind bytes _ rest fits
    ((object_id_exact c (objects_in c)).taken bytes fits id rest read).1) ds after held).0

list_good : (ds : List ResourceDef) → resources.Good ds → (each resource (length ds) []).Good ds
unfolding resources
list_good ds good = good.1

-- the class after the object and its definitions
pub object_behind : (c u v : Template) (id : ℕ) (ds : List ResourceDef) → c ≡ with_objects c (objects_in c)
    → list_all (λ o. nat_lt o.id id) c.catalog ≡ true → resources.Good ds
    → u ≡ with_objects c (objects_in c ++ new_object id ∷ [])
    → v ≡ with_catalog u (with_definitions u.catalog id ds)
    → v ≡ with_objects c (objects_in c ++ object_of_definitions id ds ∷ [])
object_behind c u v id ds itself above good made defs =
    defs
    ∙ ap (λ t. with_catalog u (with_definitions t id ds)) (catalog_on c u id itself made)
    ∙ ap (with_catalog u) (defined_end (length ds) c.catalog id [] ds above (list_good ds good)
    ∙ ap (λ (k : Template). k.catalog ++ object_of_definitions id ds ∷ []) itself
    ∙ append_assoc base (objects_in c) (object_of_definitions id ds ∷ []))
    ∙ ap (λ (k : Template). with_catalog k (base ++ (objects_in c ++ object_of_definitions id ds ∷ []))) made

pub object_read : (c v : Template) (bytes : List ℕ) (id : ℕ) (rest : List ℕ) (ds : List ResourceDef) (after : List ℕ)
    → (object_id c (objects_in c)).read bytes ≡ Ok (id, rest) → resources.read rest ≡ Ok (ds, after)
    → v ≡ with_objects c (objects_in c ++ object_of_definitions id ds ∷ [])
    → items_with_next (objects_in c) ((object c (objects_in c)).read bytes) ≡ Ok (objects_in v, after)
unfolding object
object_read c v bytes id rest ds after read held made =
    let more : objects_in v ≡ objects_in c ++ object_of_definitions id ds ∷ [] = ap objects_in made in
    rw (read, held, more) refl

pub object_kept : (c v : Template) (id : ℕ) (ds : List ResourceDef)
    → v ≡ with_objects c (objects_in c ++ object_of_definitions id ds ∷ []) → v ≡ with_objects c (objects_in v)
object_kept c v id ds made = made ∙ ap (with_objects c) (sym (ap objects_in made))
