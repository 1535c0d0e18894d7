-- What the answer to a Read depends on: what is alike in stores that agree there.
use Rattle.std.proofs.Common.{◌≡◌, ℕ, ℤ, Bool, true, false, cond, not, ◌&&◌, ◌||◌, ◌==◌, nat_le, nat_lt, List, [], ◌∷◌}
use Rattle.std.proofs.Common.{length, map, Option, None, Some, refl, sym, ap, ◌∙◌, if◌then◌else◌}
use Rattle.std.specs.FinMap as finite
use Rattle.std.specs.FinMap.Entries.{find-where_key, is_sorted-where_key, same_entries}
use Rattle.std.specs.List.{filter, filter_map, find as find_first, list_any}
use Rattle.std.specs.Option.{is_some, option_map, unwrap_or}
use Rattle.std.specs.declared.cmp.Ordering.TheVariants.{Equal}
use Rattle.std.proofs.lemmas.Bool.{and_from, or_left, or_right}
use Rattle.lemmas.proofs.Numbers.{eqb_itself}
use Rattle.lemmas.proofs.Tests.{and_first}
use Rattle.lwm2m_values.specs.Tlv.{shortest_tlv}
use Rattle.lwm2m_values.specs.Tree.{instance, part, single, trees_of_list}
use Rattle.lwm2m_values.specs.Value.{is_integer}
use Rattle.lwm2m_values.specs.declared.value.Value.{Value}
use Rattle.object_defs.specs.Catalog.{definition_of, object_of}
use Rattle.object_defs.specs.Lines.{first_line}
use Rattle.object_defs.specs.Operations.{can_read}
use Rattle.object_defs.specs.Path.{object_in, part_of, path_cmp, single_of}
use Rattle.object_defs.specs.declared.definition.ObjectDef.{ObjectDef}
use Rattle.object_defs.specs.declared.definition.ResourceDef.{ResourceDef}
use Rattle.object_defs.specs.declared.path.FullPath.{FullPath}
use Rattle.object_defs.specs.declared.path.InstancePath.{InstancePath}
use Rattle.object_defs.specs.declared.path.Path.{Path}
use Rattle.object_defs.specs.declared.path.Path.TheVariants.{Object, Instance, Resource, Part}
use Rattle.object_defs.specs.declared.path.ResourcePath.{ResourcePath}
use Rattle.object_defs.proofs.PathOrder.{path_exact, path_total}
use Rattle.instance_store.specs.Existence.{exists_as, is_held}
use Rattle.instance_store.specs.Stored.{Stored, has_instance, instances_of, lies_in, resource_path, value_at}
use Rattle.instance_store.specs.Stored.{values_in}
use Rattle.access_control.specs.Rights.{control, control_of, entry_of, every_right, integer_in, names, read_alone}
use Rattle.access_control.specs.Rights.{read_and_write, right_by, right_by_default, right_by_entry, right_of}
use Rattle.access_control.specs.declared.letters.Rights.{Rights}
use Rattle.lwm2m_payloads.specs.Nodes.{Pairs, instance_node, is_shown, nodes_of}
use Rattle.lwm2m_payloads.specs.declared.format.Format.{Format}
use Rattle.device_requests.specs.declared.answer.Answer.{Answer}
use Rattle.device_requests.specs.declared.ruling.Ruling.TheVariants as rule
use Rattle.device_requests.specs.Access.{may_read, reads}
use Rattle.device_requests.specs.Answer.{refused_or}
use Rattle.device_requests.specs.Client.{Client, with_stored}
use Rattle.device_requests.specs.Depending.{ReadsDependOnTheirValues, is_of_rights}
use Rattle.device_requests.specs.Read.{content_in, format_at, one_payload, payload_in}
use Rattle.device_requests.specs.Refusals.{can_be_read, is_oversized}
use Rattle.device_requests.specs.Targets.{exists, is_multiple, place_of, resource_place, resources_defined}

-- ---- values

-- two stores have the same values at and below a path
abbrev pub SameIn : Path → Stored → Stored → Type 0
SameIn path s t = (q : FullPath) → lies_in path q ≡ true → value_at s q ≡ value_at t q

cond_alike : (b : Bool) (v w : Option Value) → (b ≡ true → v ≡ w) → cond b v None ≡ cond b w None
cond_alike true v w h = h refl
cond_alike false v w h = refl

pub same_values : (s t : Stored) (path : Path) → SameIn path s t → values_in s path ≡ values_in t path
same_values s t path h =
    let es = finite.entries s.values in
    let fs = finite.entries t.values in
    let as_key = λ (q x : FullPath) (e : path_cmp q x ≡ Equal). ap (lies_in path) (sym (path_exact q x e)) in
    same_entries path_cmp path_total path_exact (values_in s path) (values_in t path)
    (is_sorted-where_key path_cmp (lies_in path) es (finite.entries_sorted s.values))
    (is_sorted-where_key path_cmp (lies_in path) fs (finite.entries_sorted t.values))
    (λ q. find-where_key path_cmp (lies_in path) q (as_key q) es
    ∙ ap (λ (v : Option Value). cond (lies_in path q) v None) (sym (finite.get-entries s.values q))
    ∙ cond_alike (lies_in path q) (value_at s q) (value_at t q) (h q)
    ∙ ap (λ (v : Option Value). cond (lies_in path q) v None) (finite.get-entries t.values q)
    ∙ sym (find-where_key path_cmp (lies_in path) q (as_key q) fs))

all_three : (a b c : Bool) → a ≡ true → b ≡ true → c ≡ true → (a && b && c) ≡ true
all_three true true true h i j = refl
all_three false b c h i j = cc
all_three true false c h i j = cc
all_three true true false h i j = cc

-- the single value of a resource lies in it, and a part in itself
pub single_in : (o i r : ℕ) → lies_in (Resource o i r) (single_of (resource_place o i r)) ≡ true
single_in o i r = all_three (o == o) (i == i) (r == r) (eqb_itself o) (eqb_itself i) (eqb_itself r)

part_in : (o i r n : ℕ) → lies_in (Part o i r n) (part_of (resource_place o i r) n) ≡ true
part_in o i r n = and_from (o == o && i == i && r == r) (n == n) (single_in o i r) (eqb_itself n)

-- ---- instances

pub same_instance : (s t : Stored) (p : InstancePath) → s.instances ≡ t.instances
    → has_instance s p ≡ has_instance t p
same_instance s t p h = ap (λ m. finite.contains_key m p) h

pub same_list : (s t : Stored) (o : ℕ) → s.instances ≡ t.instances → instances_of s o ≡ instances_of t o
same_list s t o h = ap (λ m. instances_of (record { values = s.values; instances = m }) o) h

-- ---- what exists

same_held : (s t : Stored) (p : ResourcePath) (several : Bool) → SameIn (resource_path p) s t
    → is_held s p several ≡ is_held t p several
same_held s t p true h =
    ap (λ (es : Pairs). nat_lt 0 (length (filter_map (λ e. e.0.part) es))) (same_values s t (resource_path p) h)
same_held s t p false h =
    ap (λ (v : Option Value). is_some v) (h (single_of p) (single_in p.object p.instance p.resource))

same_as : (s t : Stored) (p : ResourcePath) (d : Option ResourceDef) → SameIn (resource_path p) s t
    → exists_as s p d ≡ exists_as t p d
same_as s t p None h = refl
same_as s t p (Some d) h = ap (λ (b : Bool). not (can_read d.ops) || b) (same_held s t p d.multiple h)

same_exists : (catalog : List ObjectDef) (s t : Stored) (path : Path) → s.instances ≡ t.instances → SameIn path s t
    → exists catalog s path ≡ exists catalog t path
same_exists catalog s t (Object o) i h = refl
same_exists catalog s t (Instance o n) i h =
    ap (λ (b : Bool). is_some (object_of catalog o) && b) (same_instance s t (place_of o n) i)
same_exists catalog s t (Resource o n r) i h =
    let p = resource_place o n r in
    λ j. same_instance s t (place_of o n) i j && same_as s t p (definition_of catalog o r) h j
same_exists catalog s t (Part o n r m) i h =
    λ j. same_instance s t (place_of o n) i j
    && (is_multiple (definition_of catalog o r)
    && is_some (h (part_of (resource_place o n r) m) (part_in o n r m) j))

-- ---- rights

-- two stores have the same instances and values of Access Control
pub record SameControls (s t : Stored) : Type 0 where
  pub instances : s.instances ≡ t.instances
  pub values : (q : FullPath) → is_of_rights q ≡ true → value_at s q ≡ value_at t q

same_names : (s t : Stored) (j r n : ℕ) → SameControls s t → names s j r n ≡ names t j r n
same_names s t j r n h =
    ap (λ (v : Option Value). is_integer n (integer_in v)) (h.values (single_of (control j r)) refl)

same_entry : (s t : Stored) (j n : ℕ) → SameControls s t → entry_of s j n ≡ entry_of t j n
same_entry s t j n h = ap integer_in (h.values (part_of (control j 2) n) refl)

same_decider : (s t : Stored) (o i : ℕ) → SameControls s t → control_of s o i ≡ control_of t o i
same_decider s t o i h =
    λ k. find_first (λ j. same_names s t j 0 o h k && same_names s t j 1 i h k) (same_list s t 2 h.instances k)

same_by_entry : (s t : Stored) (server j : ℕ) (entry : Option ℤ) → SameControls s t
    → right_by_entry s j server entry ≡ right_by_entry t j server entry
same_by_entry s t server j (Some n) h = refl
same_by_entry s t server j None h =
    λ k. if same_names s t j 3 server h k then every_right else right_by_default (same_entry s t j 0 h k)

same_right_by : (s t : Stored) (server : ℕ) (decider : Option ℕ) → SameControls s t
    → right_by s server decider ≡ right_by t server decider
same_right_by s t server None h = refl
same_right_by s t server (Some j) h =
    ap (right_by_entry s j server) (same_entry s t j server h) ∙ same_by_entry s t server j (entry_of t j server) h

pub same_right : (s t : Stored) (accounts server o i : ℕ) → SameControls s t
    → right_of s accounts server o i ≡ right_of t accounts server o i
same_right s t accounts server o i h =
    let other = ap (right_by s server) (same_decider s t o i h) ∙ same_right_by s t server (control_of t o i) h in
    λ k. if nat_le accounts 1 then every_right
    else (if o == 2
    then (if same_names s t i 3 server h k then read_and_write else read_alone) else other k)

same_reads : (s t : Stored) (accounts server o i : ℕ) → SameControls s t
    → reads s accounts server o i ≡ reads t accounts server o i
same_reads s t accounts server o i h = ap (λ (r : Rights). r.read) (same_right s t accounts server o i h)

same_may : (client : Client) (stored : Stored) (server : ℕ) (path : Path) → SameControls stored client.store
    → may_read (with_stored client stored) server path ≡ may_read client server path
same_may client stored server (Object o) h =
    let accounts = length client.accounts in
    λ j. length (same_list stored client.store o h.instances j) == 0
    || list_any (λ i. same_reads stored client.store accounts server o i h j)
    (same_list stored client.store o h.instances j)
same_may client stored server (Instance o i) h =
    same_reads stored client.store (length client.accounts) server o i h
same_may client stored server (Resource o i r) h =
    same_reads stored client.store (length client.accounts) server o i h
same_may client stored server (Part o i r n) h =
    same_reads stored client.store (length client.accounts) server o i h

-- ---- the payload

abbrev shown_by : List ResourceDef → Pairs → List ℕ
shown_by resources es = shortest_tlv (nodes_of (filter (λ e. is_shown resources e.0) es))

-- what is the same below an object is so below each of its instances
below_object : (o i : ℕ) (s t : Stored) → SameIn (Object o) s t → SameIn (Instance o i) s t
below_object o i s t h q lies = h q (and_first (q.object == o) (q.instance == i) lies)

same_node : (s t : Stored) (resources : List ResourceDef) (o i : ℕ) → SameIn (Object o) s t
    → instance_node s resources o i ≡ instance_node t resources o i
same_node s t resources o i h =
    ap (λ (es : Pairs). instance i (nodes_of (filter (λ e. is_shown resources e.0) es)))
    (same_values s t (Instance o i) (below_object o i s t h))

same_payload : (client : Client) (stored : Stored) (server : ℕ) (path : Path) (format : Format)
    → SameControls stored client.store → SameIn path stored client.store
    → payload_in (with_stored client stored) server path format ≡ payload_in client server path format
same_payload client stored server (Object o) format c h =
    λ j. shortest_tlv (trees_of_list (map (λ i. same_node stored client.store
    (resources_defined client.catalog o) o i h j)
    (filter (λ i. same_reads stored client.store (length client.accounts) server o i c j)
    (same_list stored client.store o c.instances j))))
same_payload client stored server (Instance o i) format c h =
    ap (shown_by (resources_defined client.catalog o)) (same_values stored client.store (Instance o i) h)
same_payload client stored server (Resource o i r) format c h =
    let all = same_values stored client.store (Resource o i r) h in
    let one = h (single_of (resource_place o i r)) (single_in o i r) in
    λ j. if is_multiple (definition_of client.catalog o r)
    then shown_by (resources_defined client.catalog o) (all j) else one_payload format (single r) (one j)
same_payload client stored server (Part o i r n) format c h =
    ap (one_payload format (part n)) (h (part_of (resource_place o i r) n) (part_in o i r n))

-- ---- the answer

-- the answer to a Read, by whether the target exists and may be read, and by the payload
abbrev pub read_by : Client → Path → Option ℕ → Bool → Bool → List ℕ → Answer
read_by client path accept exists_there may payload =
    let format = format_at client.catalog path accept in
    refused_or (first_line ((object_in path == 0, rule.Security) ∷ (not exists_there, rule.Target)
    ∷ (not may, rule.Right) ∷ (not (can_be_read client.catalog path), rule.Operation)
    ∷ (not (is_some format), rule.Accept) ∷ (is_oversized payload, rule.Limit) ∷ []))
    (content_in format payload)

pub same_answer : ReadsDependOnTheirValues
same_answer client stored server path accept h =
    let there : SameIn path stored client.store =
    λ q lies. h.values q (or_left (lies_in path q) (is_of_rights q) lies) in
    let controls : SameControls stored client.store = record {
      instances = h.instances;
      values = λ q is. h.values q (or_right (lies_in path q) (is_of_rights q) is);
    } in
    λ j. read_by client path accept (same_exists client.catalog stored client.store path h.instances there j)
    (same_may client stored server path controls j)
    (unwrap_or (option_map (λ format. same_payload client stored server path format controls there j)
    (format_at client.catalog path accept)) [])
