-- Assignments to different resources.
use Rattle.std.specs.Prelude.{◌≡◌, ◌==◌, false, List, [], ◌∷◌}
use Rattle.std.specs.List.{list_any}
use Rattle.lwm2m_payloads.specs.declared.given.Assignment.{Assignment}

-- each resource is assigned to once
abbrev pub ResourcesOnce : List Assignment → Type 0
ResourcesOnce [] = Unit {0}
ResourcesOnce (a ∷ given) = (list_any (λ b. b.resource == a.resource) given ≡ false) × ResourcesOnce given
