-- What is alike in stores that differ only in values that a server may not read.
use Rattle.std.proofs.Common.{nat_le, if◌then◌else◌}
use Rattle.std.proofs.Common.{◌≡◌, ℕ, Bool, true, false, cond, not, ◌&&◌, ◌||◌, ◌==◌, nat_lt, List}
use Rattle.std.proofs.Common.{[], ◌∷◌, length, Option, None, Some, option_map, refl, sym, ap, ◌∙◌, ◌+◌}
use Rattle.std.specs.FinMap as finite
use Rattle.std.specs.FinMap.{find, is_sorted}
use Rattle.std.specs.FinMap.Entries.{below_all, same_entries}
use Rattle.std.specs.List as lists
use Rattle.std.specs.List.{cons_option, filter, filter_map, list_any}
use Rattle.std.specs.Option.{is_some, option_and_then}
use Rattle.std.specs.Ordering.{eq_by_cmp}
use Rattle.std.proofs.Math.Dec.{T}
use Rattle.std.proofs.lemmas.Bool.{eqb-true, and_parts}
use Rattle.lemmas.proofs.Tests.{T_both, T_first, T_second}
use Rattle.lwm2m_values.specs.declared.value.Value.{Value}
use Rattle.object_defs.specs.Catalog.{definition_of, object_of}
use Rattle.object_defs.specs.Operations.{can_read}
use Rattle.object_defs.specs.Path.{part_of, path_cmp, single_of}
use Rattle.object_defs.specs.declared.definition.ObjectDef.{ObjectDef}
use Rattle.object_defs.specs.declared.definition.ResourceDef.{ResourceDef}
use Rattle.object_defs.specs.declared.path.FullPath.{FullPath}
use Rattle.object_defs.specs.declared.path.InstancePath.{InstancePath}
use Rattle.object_defs.specs.declared.path.Path.{Path}
use Rattle.object_defs.specs.declared.path.Path.TheVariants.{Object, Instance, Resource, Part}
use Rattle.object_defs.specs.declared.path.ResourcePath.{ResourcePath}
use Rattle.object_defs.proofs.PathOrder.{path_exact, path_total}
use Rattle.instance_store.specs.Existence.{exists_as, is_held}
use Rattle.instance_store.specs.Stored.{Stored, lies_in, parts_of, resource_path, value_at}
use Rattle.instance_store.specs.Stored.{values_in}
use Rattle.access_control.specs.Rights.{creation, every_right, owns}
use Rattle.access_control.specs.Rights.{read_alone, read_and_write}
use Rattle.access_control.specs.Rights.{right_of, right_on_control}
use Rattle.access_control.specs.declared.letters.Rights.{Rights}
use Rattle.lwm2m_payloads.specs.Changes.{above_limit, excess_by, excess_of, first_excess, is_kept, is_other, resource_of}
use Rattle.lwm2m_payloads.specs.declared.counts.Excess.{Excess}
use Rattle.lwm2m_payloads.specs.Nodes.{Pairs}
use Rattle.lwm2m_payloads.specs.declared.given.Assignment.{Assignment}
use Rattle.lwm2m_payloads.specs.declared.given.Given.{Given}
use Rattle.lwm2m_payloads.specs.declared.given.Given.TheVariants.{Single, Parts}
use Rattle.lwm2m_payloads.specs.declared.given.Mode.{Mode}
use Rattle.lwm2m_payloads.specs.declared.given.Mode.TheVariants.{Replace, Update}
use Rattle.device_requests.specs.Access.{reads, rights_at}
use Rattle.device_requests.specs.Client.{Client}
use Rattle.device_requests.specs.Refusals.{is_target}
use Rattle.device_requests.specs.Targets.{exists, is_multiple, place_of, resource_place}
use Rattle.device_requests.proofs.Depending.{SameControls, same_instance, same_right, same_values}
use Rattle.laws_requests.specs.Unread.{DiffersUnread}

-- ---- the full paths of values

abbrev Places : Type 0
Places = List (FullPath × Unit {0})

abbrev places : Pairs → Places
places [] = []
places (e ∷ es) = (e.0, tt) ∷ places es

below_places : (k : FullPath) (es : Pairs) → T (below_all path_cmp k es) → T (below_all path_cmp k (places es))
below_places k [] h = tt
below_places k (e ∷ es) h = T_both _ _ (T_first _ _ h) (below_places k es (T_second _ _ h))

sorted_places : (es : Pairs) → T (is_sorted path_cmp es) → T (is_sorted path_cmp (places es))
sorted_places [] h = tt
sorted_places (e ∷ es) h = T_both _ _ (below_places e.0 es (T_first _ _ h)) (sorted_places es (T_second _ _ h))

-- whether there is a value
abbrev mark : Option Value → Option (Unit {0})
mark v = option_map (λ w. tt) v

found_place : (q : FullPath) (es : Pairs) → find path_cmp q (places es) ≡ mark (find path_cmp q es)
found_place q [] = refl
found_place q (e ∷ es) =
    elim (eq_by_cmp path_cmp q e.0) as (λ b. cond b (Some tt) (find path_cmp q (places es))
    ≡ mark (cond b (Some e.1) (find path_cmp q es))) [ true ↦ refl | false ↦ found_place q es ]

same_mark : (v w : Option Value) → is_some v ≡ is_some w → mark v ≡ mark w
same_mark None None h = refl
same_mark (Some v) (Some w) h = refl
same_mark None (Some w) h = cc
same_mark (Some v) None h = cc

-- values stand at the same full paths
abbrev HaveSamePlaces : Stored → Stored → Type 0
HaveSamePlaces s t = (q : FullPath) → is_some (value_at s q) ≡ is_some (value_at t q)

same_places : (s t : Stored) → HaveSamePlaces s t
    → places (finite.entries s.values) ≡ places (finite.entries t.values)
same_places s t h =
    let es = finite.entries s.values in
    let fs = finite.entries t.values in
    same_entries path_cmp path_total path_exact (places es) (places fs)
    (sorted_places es (finite.entries_sorted s.values)) (sorted_places fs (finite.entries_sorted t.values))
    (λ q. found_place q es ∙ ap mark (sym (finite.get-entries s.values q))
    ∙ same_mark (value_at s q) (value_at t q) (h q)
    ∙ ap mark (finite.get-entries t.values q) ∙ sym (found_place q fs))

abbrev part_numbers : ResourcePath → Places → List ℕ
part_numbers p ps = filter_map (λ e. e.0.part) (filter (λ e. lies_in (resource_path p) e.0) ps)

by_places : (p : ResourcePath) (es : Pairs)
    → filter_map (λ e. e.0.part) (filter (λ e. lies_in (resource_path p) e.0) es) ≡ part_numbers p (places es)
by_places p [] = refl
by_places p (e ∷ es) =
    elim (lies_in (resource_path p) e.0) as (λ b.
    filter_map (λ (x : FullPath × Value). x.0.part)
    (cond b (e ∷ filter (λ x. lies_in (resource_path p) x.0) es) (filter (λ x. lies_in (resource_path p) x.0) es))
    ≡ filter_map (λ (x : FullPath × Unit {0}). x.0.part)
    (cond b ((e.0, tt) ∷ filter (λ x. lies_in (resource_path p) x.0) (places es))
    (filter (λ x. lies_in (resource_path p) x.0) (places es)))) [
      | true ↦ ap (cons_option e.0.part) (by_places p es)
      | false ↦ by_places p es
    ]

pub same_parts : (s t : Stored) → HaveSamePlaces s t → parts_of s ≡ parts_of t
same_parts s t h = λ j p.
    (by_places p (finite.entries s.values) ∙ ap (part_numbers p) (same_places s t h)
    ∙ sym (by_places p (finite.entries t.values))) j

-- ---- what exists

same_held : (s t : Stored) (p : ResourcePath) (several : Bool) → HaveSamePlaces s t
    → is_held s p several ≡ is_held t p several
same_held s t p true h = ap (λ (f : ResourcePath → List ℕ). nat_lt 0 (length (f p))) (same_parts s t h)
same_held s t p false h = h (single_of p)

same_as : (s t : Stored) (p : ResourcePath) (d : Option ResourceDef) → HaveSamePlaces s t
    → exists_as s p d ≡ exists_as t p d
same_as s t p None h = refl
same_as s t p (Some d) h = ap (λ (b : Bool). not (can_read d.ops) || b) (same_held s t p d.multiple h)

pub same_exists : (catalog : List ObjectDef) (s t : Stored) → s.instances ≡ t.instances → HaveSamePlaces s t
    → (path : Path) → exists catalog s path ≡ exists catalog t path
same_exists catalog s t i h (Object o) = refl
same_exists catalog s t i h (Instance o n) =
    ap (λ (b : Bool). is_some (object_of catalog o) && b) (same_instance s t (place_of o n) i)
same_exists catalog s t i h (Resource o n r) =
    let p = resource_place o n r in
    λ j. same_instance s t (place_of o n) i j && same_as s t p (definition_of catalog o r) h j
same_exists catalog s t i h (Part o n r m) =
    λ j. same_instance s t (place_of o n) i j
    && (is_multiple (definition_of catalog o r) && h (part_of (resource_place o n r) m) j)

pub same_target : (catalog : List ObjectDef) (s t : Stored) → s.instances ≡ t.instances → (path : Path)
    → is_target catalog s path ≡ is_target catalog t path
same_target catalog s t i (Object o) = refl
same_target catalog s t i (Instance o n) =
    ap (λ (b : Bool). is_some (object_of catalog o) && b) (same_instance s t (place_of o n) i)
same_target catalog s t i (Resource o n r) =
    ap (λ (b : Bool). is_some (definition_of catalog o r) && b) (same_instance s t (place_of o n) i)
same_target catalog s t i (Part o n r m) =
    ap (λ (b : Bool). is_multiple (definition_of catalog o r) && b) (same_instance s t (place_of o n) i)

-- ---- rights

-- Access Control can be read by all
reads_control : (stored : Stored) (accounts server j : ℕ) → reads stored accounts server 2 j ≡ true
reads_control stored accounts server j =
    elim (nat_le accounts 1) as (λ b. (if b then every_right else right_on_control stored server j).read ≡ true) [
      | true ↦ refl
      | false ↦ elim (owns stored j server) as (λ b. (if b then read_and_write else read_alone).read ≡ true) [
        | true ↦ refl
        | false ↦ refl
      ]
    ]

same_controls : (client : Client) (stored : Stored) (server : ℕ) → DiffersUnread client stored server
    → SameControls stored client.store
same_controls client stored server h = record {
  instances = h.instances;
  values = λ q is. h.values q
      (ap (λ o. reads client.store (length client.accounts) server o q.instance) (eqb-true q.object 2 is)
      ∙ reads_control client.store (length client.accounts) server q.instance);
}

same_right_of : (client : Client) (stored : Stored) (server o i : ℕ) → DiffersUnread client stored server
    → right_of stored (length client.accounts) server o i ≡ right_of client.store (length client.accounts) server o i
same_right_of client stored server o i h =
    same_right stored client.store (length client.accounts) server o i (same_controls client stored server h)

pub same_rights : (client : Client) (stored : Stored) (server : ℕ) (path : Path) → DiffersUnread client stored server
    → rights_at stored (length client.accounts) server path
    ≡ rights_at client.store (length client.accounts) server path
same_rights client stored server (Object o) h = same_right_of client stored server o creation h
same_rights client stored server (Instance o i) h = same_right_of client stored server o i h
same_rights client stored server (Resource o i r) h = same_right_of client stored server o i h
same_rights client stored server (Part o i r n) h = same_right_of client stored server o i h

pub same_reads : (client : Client) (stored : Stored) (server o i : ℕ) → DiffersUnread client stored server
    → reads stored (length client.accounts) server o i ≡ reads client.store (length client.accounts) server o i
same_reads client stored server o i h = ap (λ (r : Rights). r.read) (same_right_of client stored server o i h)

-- ---- counts

pub same_excess : (mode : Mode) (s t : Stored) (p : ResourcePath) (given : Given) → HaveSamePlaces s t
    → excess_of mode s p given ≡ excess_of mode t p given
same_excess mode s t p (Single v) h = refl
same_excess Replace s t p (Parts parts) h = refl
same_excess Update s t p (Parts parts) h =
    ap (λ (f : ResourcePath → List ℕ). above_limit (length parts + length (filter (is_other parts) (f p))))
    (same_parts s t h)

pub same_excesses : (mode : Mode) (resources : List ResourceDef) (s t : Stored) (place : InstancePath)
    (given : List Assignment) → HaveSamePlaces s t
    → first_excess mode resources s place given ≡ first_excess mode resources t place given
same_excesses mode resources s t place given h =
    let same : excess_by mode resources s place ≡ excess_by mode resources t place =
    λ j a. if is_kept resources a
    then option_map (λ n. record { resource = a.resource; count = n })
    (same_excess mode s t (resource_of place a.resource) a.given h j) else None in
    ap (λ (f : Assignment → Option Excess). option_and_then f (lists.find (λ a. is_some (f a)) given)) same

-- ---- values that may be read

-- a path is that of an instance, or lies below it
abbrev pub LiesBelow : Path → ℕ → ℕ → Type 0
LiesBelow path o i = (q : FullPath) → lies_in path q ≡ true → (q.object ≡ o) × (q.instance ≡ i)

pub instance_below : (o i : ℕ) → LiesBelow (Instance o i) o i
instance_below o i q h =
    let t = and_parts (q.object == o) (q.instance == i) h in (eqb-true q.object o t.0, eqb-true q.instance i t.1)

pub resource_below : (o i r : ℕ) → LiesBelow (Resource o i r) o i
resource_below o i r q h =
    let t = and_parts (q.object == o && q.instance == i) (q.resource == r) h in
    instance_below o i q t.0

-- what lies below an instance that the server may read is the same
pub same_below : (client : Client) (stored : Stored) (server : ℕ) (path : Path) (o i : ℕ)
    → DiffersUnread client stored server → LiesBelow path o i
    → reads client.store (length client.accounts) server o i ≡ true
    → values_in stored path ≡ values_in client.store path
same_below client stored server path o i h below may =
    same_values stored client.store path (λ q lies.
    let at = below q lies in
    h.values q ((λ j. reads client.store (length client.accounts) server (at.0 j) (at.1 j)) ∙ may))
