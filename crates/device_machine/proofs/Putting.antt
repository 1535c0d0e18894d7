-- A value that does not miss has its instance, and is not one part too many.
use Rattle.std.proofs.Common.{◌≡◌, Bool, true, false, not, ◌||◌, List, Some, refl}
use Rattle.std.specs.Option.{is_some}
use Rattle.std.proofs.lemmas.Bool.{and_parts}
use Rattle.lwm2m_values.specs.declared.value.Value.{Value}
use Rattle.object_defs.specs.Catalog.{object_of}
use Rattle.object_defs.specs.declared.definition.ObjectDef.{ObjectDef}
use Rattle.object_defs.specs.declared.path.FullPath.{FullPath}
use Rattle.instance_store.specs.Stored.{Stored, has_instance}
use Rattle.device_template.specs.Values.{fits, has_place, instance_at, is_one_too_many, misses}

place_of : (f h o : Bool) → (not f || (not h || o)) ≡ false → h ≡ true
place_of true true o e = refl
place_of true false o e = absurd cc
place_of false h o e = absurd cc

room_of : (f h o : Bool) → (not f || (not h || o)) ≡ false → o ≡ false
room_of true true o e = e
room_of true false o e = absurd cc
room_of false h o e = absurd cc

pub has_its_instance : (catalog : List ObjectDef) (stored : Stored) (p : FullPath) (v : Value)
    → misses catalog stored (Some p) v ≡ false → has_instance stored (instance_at p) ≡ true
has_its_instance catalog stored p v e =
    (and_parts (is_some (object_of catalog p.object)) (has_instance stored (instance_at p))
    (place_of (fits catalog p v) (has_place catalog stored p) (is_one_too_many stored p) e)).1

pub has_room : (catalog : List ObjectDef) (stored : Stored) (p : FullPath) (v : Value)
    → misses catalog stored (Some p) v ≡ false → is_one_too_many stored p ≡ false
has_room catalog stored p v e =
    room_of (fits catalog p v) (has_place catalog stored p) (is_one_too_many stored p) e
