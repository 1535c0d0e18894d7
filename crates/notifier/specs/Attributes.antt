-- The attributes that servers write, and how a call changes them (OMA LwM2M 1.1 Core, attributes).
use Rattle.std.specs.Prelude.{◌≡◌, ℕ, zero, suc, ℤ, pos, ◌+ℤ◌, ◌*ℤ◌, int_lt, ◌==◌, Bool, true, false, not, ◌&&◌, List}
use Rattle.std.specs.Prelude.{[], ◌∷◌, map as map_list, filter, Option, None, Some, is_none, is_some, refl}
use Rattle.std.specs.declared.cmp.Ordering.{Ordering}
use Rattle.std.specs.Ordering.{nat_cmp, on, ordering_then}
use Rattle.std.specs.Option.{option_cmp, option_or}
use Rattle.std.specs.Coded.{Coded, code_by, coded×, coded_ℕ, coded_option}
use Rattle.std.specs.FinMap as map
use Rattle.object_defs.specs.declared.path.Path.{Path}
use Rattle.object_defs.specs.declared.path.Path.TheVariants.{Object, Instance, Resource, Part}
use Rattle.object_defs.specs.declared.path.Path.TheVariants as path
use Rattle.notifier.specs.declared.attribute.Name.{Name}
use Rattle.notifier.specs.declared.attribute.Name.TheVariants.{Pmin, Pmax, Gt, Lt, St}
use Rattle.notifier.specs.declared.attribute.Name.TheVariants as name
use Rattle.notifier.specs.declared.attribute.Change.{Change}
use Rattle.notifier.specs.declared.attribute.AttributeKey.{AttributeKey}

-- the place of a name among the names, and the name at a place
abbrev pub rank : Name → ℕ
rank Pmin = 0
rank Pmax = 1
rank Gt = 2
rank Lt = 3
rank St = 4

abbrev pub name_at : ℕ → Name
name_at zero = name.Pmin
name_at (suc zero) = name.Pmax
name_at (suc (suc zero)) = name.Gt
name_at (suc (suc (suc zero))) = name.Lt
name_at _ = name.St

pub name_at-rank : (n : Name) → name_at (rank n) ≡ n
name_at-rank Pmin = refl
name_at-rank Pmax = refl
name_at-rank Gt = refl
name_at-rank Lt = refl
name_at-rank St = refl

-- the order of the names
abbrev pub name_cmp : Name → Name → Ordering
name_cmp = on rank nat_cmp

-- by server, then by the numbers of the path, a path before those below it, then by name
abbrev pub key_cmp : AttributeKey → AttributeKey → Ordering
key_cmp a b =
    ordering_then (nat_cmp a.server b.server) (ordering_then (nat_cmp a.object b.object)
    (ordering_then (option_cmp nat_cmp a.instance b.instance) (ordering_then (option_cmp nat_cmp a.resource b.resource)
    (ordering_then (option_cmp nat_cmp a.part b.part) (name_cmp a.name b.name)))))

-- the key of an attribute of a server on a path, and the path of a key
abbrev pub key_of : ℕ → Path → Name → AttributeKey
key_of s (Object o) n = record { server = s; object = o; instance = None; resource = None; part = None; name = n }
key_of s (Instance o i) n = record { server = s; object = o; instance = Some i; resource = None; part = None; name = n }
key_of s (Resource o i r) n =
    record { server = s; object = o; instance = Some i; resource = Some r; part = None; name = n }
key_of s (Part o i r p) n =
    record { server = s; object = o; instance = Some i; resource = Some r; part = Some p; name = n }

abbrev pub path_from : ℕ → Option ℕ → Option ℕ → Option ℕ → Path
path_from o None r p = path.Object o
path_from o (Some i) None p = path.Instance o i
path_from o (Some i) (Some r) None = path.Resource o i r
path_from o (Some i) (Some r) (Some p) = path.Part o i r p

abbrev pub path_of : AttributeKey → Path
path_of k = path_from k.object k.instance k.resource k.part

abbrev pub name_code : Coded Name
name_code = code_by ℕ coded_ℕ rank name_at name_at-rank

abbrev pub key_code : Coded AttributeKey
key_code =
    code_by (ℕ × (ℕ × (Option ℕ × (Option ℕ × (Option ℕ × Name)))))
    (coded× coded_ℕ (coded× coded_ℕ (coded× (coded_option coded_ℕ)
    (coded× (coded_option coded_ℕ) (coded× (coded_option coded_ℕ) name_code)))))
    (λ k. (k.server, (k.object, (k.instance, (k.resource, (k.part, k.name))))))
    (λ t. record {
      server = t.0;
      object = t.1.0;
      instance = t.1.1.0;
      resource = t.1.1.1.0;
      part = t.1.1.1.1.0;
      name =
          t.1.1.1.1.1;
    })
    (λ _. refl)

-- the numbers of the attributes that are set
abbrev pub Numbers : Type 0
Numbers = map.FinMap key_cmp ℤ

-- the number of an attribute of a server on a path itself
abbrev pub assigned_number : Numbers → ℕ → Path → Name → Option ℤ
assigned_number m server place n = map.get m (key_of server place n)

-- the levels whose attributes have effect on a path, the lowest first; a resource instance has none of its own
abbrev pub levels_of : Path → List Path
levels_of (Object o) = path.Object o ∷ []
levels_of (Instance o i) = path.Instance o i ∷ path.Object o ∷ []
levels_of (Resource o i r) = path.Resource o i r ∷ path.Instance o i ∷ path.Object o ∷ []
levels_of (Part o i r p) = path.Resource o i r ∷ path.Instance o i ∷ path.Object o ∷ []

-- the number at the first of these paths that has one
abbrev pub first_assigned : Numbers → ℕ → List Path → Name → Option ℤ
first_assigned m server [] n = None
first_assigned m server (p ∷ ps) n = option_or (assigned_number m server p n) (first_assigned m server ps n)

-- the number that has effect: of the lowest level that has one
abbrev pub effective : Numbers → ℕ → Path → Name → Option ℤ
effective m server place n = first_assigned m server (levels_of place) n

-- with a number at a key, or with none
abbrev pub with_number : Numbers → AttributeKey → Option ℤ → Numbers
with_number m k None = map.remove m k
with_number m k (Some z) = map.insert m k z

-- whether a change sets an attribute of a server on a path that has no number
abbrev pub sets_new : Numbers → ℕ → Path → Change → Bool
sets_new m server place c = is_some c.number && is_none (assigned_number m server place c.name)

-- with these changes for a server on a path, the later over the earlier
abbrev pub with_changes : Numbers → ℕ → Path → List Change → Numbers
with_changes m server place [] = m
with_changes m server place (c ∷ cs) =
    with_changes (with_number m (key_of server place c.name) c.number) server place cs

-- lt < gt where both are set, and lt + 2 st < gt where all three are
abbrev pub agree : Option ℤ → Option ℤ → Option ℤ → Bool
agree (Some gt) (Some lt) None = int_lt lt gt
agree (Some gt) (Some lt) (Some st) = int_lt lt gt && int_lt (lt +ℤ (pos 2 *ℤ st)) gt
agree (Some gt) None st = true
agree None lt st = true

-- the numbers of a server on a path agree
abbrev pub is_consistent : Numbers → ℕ → Path → Bool
is_consistent m server place =
    agree (assigned_number m server place name.Gt) (assigned_number m server place name.Lt)
    (assigned_number m server place name.St)

-- whether a number of a path is this one
abbrev pub has_number : ℕ → Option ℕ → Bool
has_number n None = false
has_number n (Some m) = m == n

-- whether the path of a key is a path or lies below it
abbrev pub lies_under : Path → AttributeKey → Bool
lies_under (Object o) k = k.object == o
lies_under (Instance o i) k = k.object == o && has_number i k.instance
lies_under (Resource o i r) k = k.object == o && (has_number i k.instance && has_number r k.resource)
lies_under (Part o i r p) k =
    k.object == o && (has_number i k.instance && (has_number r k.resource && has_number p k.part))

-- without the attributes of all servers at or below a path
abbrev pub without_under : Numbers → Path → Numbers
without_under m place = map.retain_keys m (λ k. not (lies_under place k))

-- the attributes of a server, by path and then by name
abbrev pub attributes_of_server : Numbers → ℕ → List (Path × Name × ℤ)
attributes_of_server m server =
    map_list (λ e. (path_of e.0, e.0.name, e.1)) (filter (λ e. e.0.server == server) (map.entries m))
