-- Rule 7: what of a path is not there.
use Rattle.std.specs.Prelude.{Bool, true, false, not, List, [], ◌∷◌, is_some}
use Rattle.object_defs.specs.Catalog.{definition_of, object_of}
use Rattle.object_defs.specs.Path.{object_in}
use Rattle.object_defs.specs.declared.definition.ObjectDef.{ObjectDef}
use Rattle.object_defs.specs.declared.path.Path.{Path}
use Rattle.object_defs.specs.declared.path.Path.TheVariants.{Object, Instance, Resource, Part}
use Rattle.instance_store.specs.Stored.{Stored}
use Rattle.device_requests.specs.Inside.{has_place}
use Rattle.device_requests.specs.Targets.{is_multiple}
use Rattle.request_reasons.specs.declared.target.Missing.{Missing}
use Rattle.request_reasons.specs.declared.target.Missing.TheVariants as missing

-- the path names a resource, or a part of one, that its object does not define
abbrev pub is_undefined : List ObjectDef → Path → Bool
is_undefined catalog (Object o) = false
is_undefined catalog (Instance o i) = false
is_undefined catalog (Resource o i r) = not (is_some (definition_of catalog o r))
is_undefined catalog (Part o i r n) = not (is_some (definition_of catalog o r))

-- the path names a part of a resource that has none
abbrev pub is_part_of_single : List ObjectDef → Path → Bool
is_part_of_single catalog (Object o) = false
is_part_of_single catalog (Instance o i) = false
is_part_of_single catalog (Resource o i r) = false
is_part_of_single catalog (Part o i r n) = not (is_multiple (definition_of catalog o r))

-- what is not there, from the object down: the first that applies; the last is the value of a resource, or the part
abbrev pub missing_lines : List ObjectDef → Stored → Path → List (Bool × Missing)
missing_lines catalog stored path =
    (not (is_some (object_of catalog (object_in path))), missing.Object)
    ∷ (not (has_place stored path), missing.Instance)
    ∷ (is_undefined catalog path, missing.Resource)
    ∷ (is_part_of_single catalog path, missing.Parts)
    ∷ (true, missing.Value)
    ∷ []
