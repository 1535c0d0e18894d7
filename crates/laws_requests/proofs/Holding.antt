-- The parts that a resource holds, as a list in order, and a Read of them.
use Rattle.std.proofs.Common.{◌≡◌, ℕ, Bool, true, false, cond, not, ◌&&◌, ◌||◌, ◌==◌, inl, inr, List, [], ◌∷◌}
use Rattle.std.proofs.Common.{map, length, nat_lt, Option, None, Some, option_map, refl, sym, ap, subst, ◌∙◌}
use Rattle.std.proofs.Common.{arith}
use Rattle.std.specs.Bool.{if◌then◌else◌}
use Rattle.std.specs.FinMap as finite
use Rattle.std.specs.FinMap.{find, is_sorted}
use Rattle.std.specs.FinMap.Entries.{below_all}
use Rattle.std.specs.List as lists
use Rattle.std.specs.List.{AllByRecursion, cons_option, filter, filter_map, list_any}
use Rattle.std.specs.List.Sorted.{IsStrictlySortedBy}
use Rattle.std.specs.Option.{is_some, unwrap_or}
use Rattle.std.specs.Ordering.{eq_by_cmp, is_lt, nat_cmp}
use Rattle.std.specs.declared.cmp.Ordering.TheVariants.{Less}
use Rattle.std.proofs.Math.Dec.{T}
use Rattle.std.proofs.lemmas.Bool.Decides.{nat_tests}
use Rattle.std.proofs.lemmas.Bool.{ne_eqb, eqb-true}
use Rattle.std.proofs.lemmas.List.{length-map}
use Rattle.lemmas.proofs.Numbers.{eqb_itself}
use Rattle.lemmas.proofs.Tests.{T_both, T_first, T_second}
use Rattle.lemmas.proofs.Orders.{is_less}
use Rattle.lwm2m_values.specs.Tlv.{shortest_tlv}
use Rattle.lwm2m_values.specs.Tree.{Trees, multi, part, none, more}
use Rattle.lwm2m_values.specs.Value.{bytes_of}
use Rattle.lwm2m_values.specs.declared.value.Value.{Value}
use Rattle.object_defs.specs.Catalog.{definition_of, object_of, resource_in}
use Rattle.object_defs.specs.Lines.{first_line}
use Rattle.object_defs.specs.Operations.{can_read}
use Rattle.object_defs.specs.Path.{part_of, path_cmp}
use Rattle.object_defs.specs.declared.definition.ResourceDef.{ResourceDef}
use Rattle.object_defs.specs.declared.path.FullPath.{FullPath}
use Rattle.object_defs.specs.declared.path.Path.TheVariants.{Resource}
use Rattle.object_defs.specs.declared.path.ResourcePath.{ResourcePath}
use Rattle.instance_store.specs.Existence.{has_resource}
use Rattle.instance_store.specs.Stored.{Stored, has_instance, lies_in, parts_of, resource_path, value_at}
use Rattle.lwm2m_payloads.specs.Formats.{extent_as, format_for, many, one}
use Rattle.lwm2m_payloads.specs.Nodes.{Pairs, before_part, before_value, is_shown, is_shown_as, nodes_of, shown_in}
use Rattle.lwm2m_payloads.specs.PartList.{PartList}
use Rattle.lwm2m_payloads.specs.Written.{PartsOnce, part_value}
use Rattle.lwm2m_payloads.specs.declared.format.Format.{Format}
use Rattle.lwm2m_payloads.specs.declared.format.Format.TheVariants.{Tlv}
use Rattle.device_requests.specs.declared.answer.Answer.{Answer}
use Rattle.device_requests.specs.declared.ruling.Ruling.{Ruling}
use Rattle.device_requests.specs.declared.ruling.Ruling.TheVariants as rule
use Rattle.device_requests.specs.Access.{may_read}
use Rattle.device_requests.specs.Answer.{bare, refused_or}
use Rattle.device_requests.specs.Client.{Client}
use Rattle.device_requests.specs.Laws.{IsAmong, content_within}
use Rattle.device_requests.specs.Outcomes.{read_answer}
use Rattle.device_requests.specs.Read.{content_in, format_at, payload_in, read_payload}
use Rattle.device_requests.specs.Refusals.{is_oversized, is_tlv}
use Rattle.device_requests.specs.Targets.{exists, is_readable, place_of, resource_place, resources_defined}
use Rattle.device_requests.proofs.ReadBack.{shown}
use Rattle.device_requests.proofs.LinksExist.{definition_in}
use Rattle.laws_requests.specs.Multiples.{HoldsParts, MultipleIsRead, answer_of_parts, part_records}
use Rattle.laws_requests.proofs.Executing.{apart}

-- ---- among parts given once

pub value_among : (parts : PartList) (n : ℕ) (v : Value) → part_value parts (Some n) ≡ Some v → IsAmong (n, v) parts
value_among [] n v h = cc
value_among (e ∷ parts) n v h =
    elim (e.0 == n) as (λ b. (e.0 == n) ≡ b
    → option_map (λ (d : ℕ × Value). d.1) (if b then Some e else lists.find (λ d. d.0 == n) parts) ≡ Some v
    → IsAmong (n, v) (e ∷ parts)) [
      | true ↦ λ is k. let w : e.1 ≡ v = cc in inl (λ j. (eqb-true e.0 n is j, w j))
      | false ↦ λ is k. inr (value_among parts n v k)
    ] refl h

among_any : (parts : PartList) (n : ℕ) (v : Value) → IsAmong (n, v) parts → list_any (λ p. p.0 == n) parts ≡ true
among_any [] n v h = absurd h
among_any (e ∷ parts) n v (inl is) =
    let first : (e.0 == n) ≡ true = ap (λ (d : ℕ × Value). d.0 == n) is ∙ eqb_itself n in
    ap (λ (b : Bool). b || list_any (λ p. p.0 == n) parts) first
among_any (e ∷ parts) n v (inr h) =
    elim (e.0 == n) as (λ b. (b || list_any (λ p. p.0 == n) parts) ≡ true) [
      | true ↦ refl
      | false ↦ among_any parts n v h
    ]

pub among_value : (parts : PartList) (n : ℕ) (v : Value) → PartsOnce parts → IsAmong (n, v) parts
    → part_value parts (Some n) ≡ Some v
among_value [] n v once h = absurd h
among_value (e ∷ parts) n v once (inl is) =
    let first : (e.0 == n) ≡ true = ap (λ (d : ℕ × Value). d.0 == n) is ∙ eqb_itself n in
    ap (λ (b : Bool). option_map (λ (d : ℕ × Value). d.1)
    (if b then Some e else lists.find (λ d. d.0 == n) parts)) first
    ∙ ap (λ (d : ℕ × Value). Some d.1) is
among_value (e ∷ parts) n v once (inr h) =
    elim (e.0 == n) as (λ b. (e.0 == n) ≡ b
    → option_map (λ (d : ℕ × Value). d.1) (if b then Some e else lists.find (λ d. d.0 == n) parts) ≡ Some v) [
      | true ↦ λ is.
          let l : true ≡ false = sym (among_any parts n v h)
          ∙ (ap (λ (k : ℕ). list_any (λ p. p.0 == k) parts) (sym (eqb-true e.0 n is)) ∙ once.0) in
          cc
      | false ↦ λ is. among_value parts n v once.1 h
    ] refl

-- what gives parts by their numbers gives these
pub holds : (stored : Stored) (p : ResourcePath) (parts : PartList) → PartsOnce parts
    → ((n : ℕ) → value_at stored (part_of p n) ≡ part_value parts (Some n)) → HoldsParts stored p parts
holds stored p parts once h n v =
    (λ k. value_among parts n v (sym (h n) ∙ k), λ k. h n ∙ among_value parts n v once k)

-- ---- the parts of a resource among values

abbrev in_front : Bool → Option ℕ → Value → PartList → PartList
in_front true (Some n) v parts = (n, v) ∷ parts
in_front true None v parts = parts
in_front false k v parts = parts

abbrev parts_among : ResourcePath → Pairs → PartList
parts_among p [] = []
parts_among p (e ∷ es) = in_front (lies_in (resource_path p) e.0) e.0.part e.1 (parts_among p es)

all_three : (a b c : Bool) → (a && b && c) ≡ true → (a ≡ true) × (b ≡ true) × (c ≡ true)
all_three true true true h = (refl, refl, refl)
all_three true true false h = cc
all_three true false c h = cc
all_three false b c h = cc

-- a full path of a resource that is one of a part
is_part_of : (p : ResourcePath) (q : FullPath) (n : ℕ) → lies_in (resource_path p) q ≡ true → q.part ≡ Some n
    → q ≡ part_of p n
is_part_of p q n lies is =
    let t = all_three (q.object == p.object) (q.instance == p.instance) (q.resource == p.resource) lies in
    λ j. record {
      object = eqb-true q.object p.object t.0 j;
      instance = eqb-true q.instance p.instance t.1 j;
      resource = eqb-true q.resource p.resource t.2 j;
      part = is j;
    }

tied : (p : ResourcePath) (n m : ℕ) → eq_by_cmp nat_cmp n m ≡ eq_by_cmp path_cmp (part_of p n) (part_of p m)
tied p n m = grind (arith, nat_tests)

ordered : (p : ResourcePath) (n m : ℕ) → is_lt (path_cmp (part_of p n) (part_of p m)) ≡ is_lt (nat_cmp n m)
ordered p n m = grind (arith, nat_tests)

no_part : (n : ℕ) → None ≡ Some n → ⊥
no_part n h = cc

pub lies_here : (p : ResourcePath) (n : ℕ) → lies_in (resource_path p) (part_of p n) ≡ true
lies_here p n = grind (arith, nat_tests)

found_first : (p : ResourcePath) (n : ℕ) (q : FullPath) (k : Option ℕ) (v : Value) (parts : PartList)
    (rest : Option Value) → lies_in (resource_path p) q ≡ true → q.part ≡ k → find nat_cmp n parts ≡ rest
    → find nat_cmp n (in_front true k v parts) ≡ cond (eq_by_cmp path_cmp (part_of p n) q) (Some v) rest
found_first p n q None v parts rest lies is h =
    h ∙ sym (ap (λ (b : Bool). cond b (Some v) rest)
    (apart q (part_of p n) (λ e. no_part n (sym is ∙ ap (λ (x : FullPath). x.part) (sym e)))))
found_first p n q (Some m) v parts rest lies is h =
    ap (λ (b : Bool). cond b (Some v) (find nat_cmp n parts))
    (tied p n m ∙ ap (eq_by_cmp path_cmp (part_of p n)) (sym (is_part_of p q m lies is)))
    ∙ ap (cond (eq_by_cmp path_cmp (part_of p n) q) (Some v)) h

found_in : (p : ResourcePath) (n : ℕ) (es : Pairs)
    → find nat_cmp n (parts_among p es) ≡ find path_cmp (part_of p n) es
found_in p n [] = refl
found_in p n (e ∷ es) =
    elim (lies_in (resource_path p) e.0) as (λ b. lies_in (resource_path p) e.0 ≡ b
    → find nat_cmp n (in_front b e.0.part e.1 (parts_among p es))
    ≡ cond (eq_by_cmp path_cmp (part_of p n) e.0) (Some e.1) (find path_cmp (part_of p n) es)) [
      | true ↦ λ lies. found_first p n e.0 e.0.part e.1 (parts_among p es) (find path_cmp (part_of p n) es) lies refl
          (found_in p n es)
      | false ↦ λ away. found_in p n es ∙ sym (ap (λ (b : Bool). cond b (Some e.1) (find path_cmp (part_of p n) es))
          (apart e.0 (part_of p n) (λ is.
          let l : true ≡ false = sym (lies_here p n) ∙ (ap (lies_in (resource_path p)) is ∙ away) in cc)))
    ] refl

below_first : (p : ResourcePath) (n : ℕ) (q : FullPath) (k : Option ℕ) (v : Value) (parts : PartList)
    → lies_in (resource_path p) q ≡ true → q.part ≡ k → T (is_lt (path_cmp (part_of p n) q))
    → T (below_all nat_cmp n parts) → T (below_all nat_cmp n (in_front true k v parts))
below_first p n q None v parts lies is h below = below
below_first p n q (Some m) v parts lies is h below =
    T_both _ _ (subst T (ap (λ (x : FullPath). is_lt (path_cmp (part_of p n) x)) (is_part_of p q m lies is)
    ∙ ordered p n m) h) below

below_in : (p : ResourcePath) (n : ℕ) (es : Pairs) → T (below_all path_cmp (part_of p n) es)
    → T (below_all nat_cmp n (parts_among p es))
below_in p n [] h = tt
below_in p n (e ∷ es) h =
    let rest = below_in p n es (T_second _ _ h) in
    elim (lies_in (resource_path p) e.0) as (λ b. lies_in (resource_path p) e.0 ≡ b
    → T (below_all nat_cmp n (in_front b e.0.part e.1 (parts_among p es)))) [
      | true ↦ λ lies. below_first p n e.0 e.0.part e.1 (parts_among p es) lies refl (T_first _ _ h) rest
      | false ↦ λ away. rest
    ] refl

sorted_first : (p : ResourcePath) (q : FullPath) (k : Option ℕ) (v : Value) (es : Pairs)
    → lies_in (resource_path p) q ≡ true → q.part ≡ k → T (below_all path_cmp q es)
    → T (is_sorted nat_cmp (parts_among p es)) → T (is_sorted nat_cmp (in_front true k v (parts_among p es)))
sorted_first p q None v es lies is h sorted = sorted
sorted_first p q (Some n) v es lies is h sorted =
    T_both _ _ (below_in p n es (subst (λ (x : FullPath). T (below_all path_cmp x es)) (is_part_of p q n lies is) h))
    sorted

sorted_in : (p : ResourcePath) (es : Pairs) → T (is_sorted path_cmp es) → T (is_sorted nat_cmp (parts_among p es))
sorted_in p [] h = tt
sorted_in p (e ∷ es) h =
    let rest = sorted_in p es (T_second _ _ h) in
    elim (lies_in (resource_path p) e.0) as (λ b. lies_in (resource_path p) e.0 ≡ b
    → T (is_sorted nat_cmp (in_front b e.0.part e.1 (parts_among p es)))) [
      | true ↦ λ lies. sorted_first p e.0 e.0.part e.1 es lies refl (T_first _ _ h) rest
      | false ↦ λ away. rest
    ] refl

-- ---- a sorted list

all_above : (n : ℕ) (parts : PartList) → T (below_all nat_cmp n parts)
    → AllByRecursion (λ m. nat_cmp n m ≡ Less) (map (λ e. e.0) parts)
all_above n [] h = tt
all_above n (e ∷ parts) h = (is_less (nat_cmp n e.0) (T_first _ _ h), all_above n parts (T_second _ _ h))

rises : (parts : PartList) → T (is_sorted nat_cmp parts) → IsStrictlySortedBy nat_cmp (map (λ e. e.0) parts)
unfolding IsStrictlySortedBy
rises [] h = tt
rises (e ∷ parts) h = (all_above e.0 parts (T_first _ _ h), rises parts (T_second _ _ h))

differs : (n m : ℕ) → nat_cmp n m ≡ Less → (m == n) ≡ false
differs n m h = grind (arith, nat_tests)

not_above : (n : ℕ) (parts : PartList) → T (below_all nat_cmp n parts) → list_any (λ p. p.0 == n) parts ≡ false
not_above n [] h = refl
not_above n (e ∷ parts) h =
    ap (λ (b : Bool). b || list_any (λ p. p.0 == n) parts)
    (differs n e.0 (is_less (nat_cmp n e.0) (T_first _ _ h)))
    ∙ not_above n parts (T_second _ _ h)

each_once : (parts : PartList) → T (is_sorted nat_cmp parts) → PartsOnce parts
each_once [] h = tt
each_once (e ∷ parts) h = (not_above e.0 parts (T_first _ _ h), each_once parts (T_second _ _ h))

test_turned : (n m : ℕ) → eq_by_cmp nat_cmp n m ≡ (m == n)
test_turned n m = grind (arith, nat_tests)

under_test : (b : Bool) (e : ℕ × Value) (rest : Option (ℕ × Value))
    → cond b (Some e.1) (option_map (λ (d : ℕ × Value). d.1) rest)
    ≡ option_map (λ (d : ℕ × Value). d.1) (if b then Some e else rest)
under_test true e rest = refl
under_test false e rest = refl

value_found : (n : ℕ) (parts : PartList) → find nat_cmp n parts ≡ part_value parts (Some n)
value_found n [] = refl
value_found n (e ∷ parts) =
    ap (λ (b : Bool). cond b (Some e.1) (find nat_cmp n parts)) (test_turned n e.0)
    ∙ ap (cond (e.0 == n) (Some e.1)) (value_found n parts)
    ∙ under_test (e.0 == n) e (lists.find (λ d. d.0 == n) parts)

-- ---- the parts that a resource holds

abbrev parts_in : Stored → ResourcePath → PartList
parts_in stored p = parts_among p (finite.entries stored.values)

sorted_parts : (stored : Stored) (p : ResourcePath) → T (is_sorted nat_cmp (parts_in stored p))
sorted_parts stored p = sorted_in p (finite.entries stored.values) (finite.entries_sorted stored.values)

parts_held : (stored : Stored) (p : ResourcePath) → HoldsParts stored p (parts_in stored p)
parts_held stored p =
    holds stored p (parts_in stored p) (each_once (parts_in stored p) (sorted_parts stored p)) (λ n.
    finite.get-entries stored.values (part_of p n) ∙ sym (found_in p n (finite.entries stored.values))
    ∙ value_found n (parts_in stored p))

-- ---- what a Read shows of it

numbers_first : (k : Option ℕ) (v : Value) (parts : PartList) (ns : List ℕ) → ns ≡ map (λ e. e.0) parts
    → cons_option k ns ≡ map (λ e. e.0) (in_front true k v parts)
numbers_first None v parts ns h = h
numbers_first (Some n) v parts ns h = ap (λ (t : List ℕ). n ∷ t) h

numbers : (p : ResourcePath) (es : Pairs)
    → filter_map (λ e. e.0.part) (filter (λ e. lies_in (resource_path p) e.0) es) ≡ map (λ e. e.0) (parts_among p es)
numbers p [] = refl
numbers p (e ∷ es) =
    elim (lies_in (resource_path p) e.0) as (λ b.
    filter_map (λ (x : FullPath × Value). x.0.part) (cond b (e ∷ filter (λ x. lies_in (resource_path p) x.0) es)
    (filter (λ x. lies_in (resource_path p) x.0) es))
    ≡ map (λ (x : ℕ × Value). x.0) (in_front b e.0.part e.1 (parts_among p es))) [
      | true ↦ numbers_first e.0.part e.1 (parts_among p es) _ (numbers p es)
      | false ↦ numbers p es
    ]

abbrev record_of : ℕ → PartList → Trees
record_of r [] = none
record_of r (e ∷ parts) = more (multi r (part_records (e ∷ parts))) none

one_more : (r n : ℕ) (v : Value) (parts : PartList)
    → before_part r (part n (bytes_of v)) (record_of r parts) ≡ record_of r ((n, v) ∷ parts)
one_more r n v [] = refl
one_more r n v (e ∷ parts) =
    let p = part n (bytes_of v) in
    let others = part_records (e ∷ parts) in
    ap (λ (b : Bool). if b then more (multi r (more p others)) none
    else more (multi r (more p none)) (more (multi r others) none)) (eqb_itself r)

-- a Read shows the parts of the resource, and not a single value
abbrev ShowsParts : List ResourceDef → ResourcePath → Type 0
ShowsParts resources p = (q : FullPath) → lies_in (resource_path p) q ≡ true → is_shown resources q ≡ is_some q.part

record_first : (resources : List ResourceDef) (p : ResourcePath) (q : FullPath) (k : Option ℕ) (v : Value) (es : Pairs)
    (parts : PartList) → lies_in (resource_path p) q ≡ true → q.part ≡ k
    → nodes_of es ≡ record_of p.resource parts
    → nodes_of (cond (is_some k) ((q, v) ∷ es) es) ≡ record_of p.resource (in_front true k v parts)
record_first resources p q None v es parts lies is h = h
record_first resources p q (Some n) v es parts lies is h =
    let t = all_three (q.object == p.object) (q.instance == p.instance) (q.resource == p.resource) lies in
    (λ j. before_value (eqb-true q.resource p.resource t.2 j) (is j) v (h j)) ∙ one_more p.resource n v parts

records : (resources : List ResourceDef) (p : ResourcePath) (es : Pairs) → ShowsParts resources p
    → nodes_of (filter (λ e. is_shown resources e.0) (filter (λ e. lies_in (resource_path p) e.0) es))
    ≡ record_of p.resource (parts_among p es)
records resources p [] shows = refl
records resources p (e ∷ es) shows =
    let inside = filter (λ (x : FullPath × Value). lies_in (resource_path p) x.0) es in
    let rest = filter (λ (x : FullPath × Value). is_shown resources x.0) inside in
    elim (lies_in (resource_path p) e.0) as (λ b. lies_in (resource_path p) e.0 ≡ b
    → nodes_of (filter (λ (x : FullPath × Value). is_shown resources x.0) (cond b (e ∷ inside) inside))
    ≡ record_of p.resource (in_front b e.0.part e.1 (parts_among p es))) [
      | true ↦ λ lies. ap (λ (b : Bool). nodes_of (cond b (e ∷ rest) rest)) (shows e.0 lies)
          ∙ record_first resources p e.0 e.0.part e.1 rest (parts_among p es) lies refl (records resources p es shows)
      | false ↦ λ away. records resources p es shows
    ] refl

pub is_defined_in : (client : Client) (o r : ℕ) → definition_of client.catalog o r
    ≡ resource_in (resources_defined client.catalog o) r
is_defined_in client o r = definition_in (object_of client.catalog o) r

shown_as : (d : ResourceDef) (k : Option ℕ) → d.multiple ≡ true → can_read d.ops ≡ true
    → is_shown_as k (Some d) ≡ is_some k
shown_as d k several readable =
    ap (λ (b : Bool). b && (if d.multiple then is_some k else not (is_some k))) readable
    ∙ ap (λ (b : Bool). if b then is_some k else not (is_some k)) several

parts_shown : (client : Client) (o i r : ℕ) (d : ResourceDef) → definition_of client.catalog o r ≡ Some d
    → d.multiple ≡ true → can_read d.ops ≡ true → ShowsParts (resources_defined client.catalog o) (resource_place o i r)
parts_shown client o i r d defined_as several readable q lies =
    let t = all_three (q.object == o) (q.instance == i) (q.resource == r) lies in
    ap (λ (s : ℕ). is_shown_as q.part (resource_in (resources_defined client.catalog o) s)) (eqb-true q.resource r t.2)
    ∙ ap (is_shown_as q.part) (sym (is_defined_in client o r) ∙ defined_as)
    ∙ shown_as d q.part several readable

pub is_eleven : (accept : Option ℕ) → is_tlv accept ≡ true → format_for many accept ≡ Some Tlv
is_eleven None h = refl
is_eleven (Some n) h = ap (λ (b : Bool). if b then Some Tlv else (if n == 0 then None else (if n == 42 then None
    else None))) h

format_is : (client : Client) (o i r : ℕ) (d : ResourceDef) (accept : Option ℕ)
    → definition_of client.catalog o r ≡ Some d → d.multiple ≡ true → is_tlv accept ≡ true
    → format_at client.catalog (Resource o i r) accept ≡ Some Tlv
format_is client o i r d accept defined_as several h =
    ap (λ (e : Option ResourceDef). format_for (extent_as e) accept) defined_as
    ∙ ap (λ (b : Bool). format_for (if b then many else one d.kind) accept) several
    ∙ is_eleven accept h

-- what a Read needs of a multiple resource
record IsReadable (client : Client) (o i r : ℕ) (d : ResourceDef) : Type 0 where
  object : (o == 0) ≡ false
  defined_as : definition_of client.catalog o r ≡ Some d
  several : d.multiple ≡ true
  readable : can_read d.ops ≡ true
  place : has_instance client.store (place_of o i) ≡ true

exists_by : (client : Client) (o i r : ℕ) (d : ResourceDef) → IsReadable client o i r d
    → exists client.catalog client.store (Resource o i r)
    ≡ nat_lt 0 (length (parts_in client.store (resource_place o i r)))
exists_by client o i r d h =
    let p = resource_place o i r in
    let there : has_resource client.store p (Some d) ≡ nat_lt 0 (length (parts_of client.store p)) =
    rw (h.place, h.readable, h.several) refl in
    ap (has_resource client.store p) h.defined_as ∙ there
    ∙ ap (λ (ns : List ℕ). nat_lt 0 (length ns)) (numbers p (finite.entries client.store.values))
    ∙ ap (nat_lt 0) (length-map (parts_in client.store p) (λ e. e.0))

payload_is : (client : Client) (server o i r : ℕ) (d : ResourceDef) (accept : Option ℕ) → IsReadable client o i r d
    → is_tlv accept ≡ true
    → read_payload client server (Resource o i r) accept
    ≡ shortest_tlv (record_of r (parts_in client.store (resource_place o i r)))
payload_is client server o i r d accept h k =
    let path = Resource o i r in
    let p = resource_place o i r in
    let resources = resources_defined client.catalog o in
    let payload : payload_in client server path Tlv ≡ shortest_tlv (nodes_of (shown_in client.store resources path)) =
    rw (h.defined_as, h.several) refl in
    ap (λ (f : Option Format). unwrap_or (option_map (payload_in client server path) f) [])
    (format_is client o i r d accept h.defined_as h.several k)
    ∙ payload
    ∙ ap (λ (t : Trees). shortest_tlv t) (records resources p (finite.entries client.store.values)
    (parts_shown client o i r d h.defined_as h.several h.readable))

absent : (a e : Bool) (lines : List (Bool × Ruling)) (answer : Answer) → a ≡ false → e ≡ false
    → refused_or (first_line ((a, rule.Security) ∷ (not e, rule.Target) ∷ lines)) answer ≡ bare rule.Target
absent true e lines answer h k = cc
absent false true lines answer h k = cc
absent false false lines answer h k = refl

some_part : (e : ℕ × Value) (parts : PartList) → nat_lt 0 (length (e ∷ parts)) ≡ true
some_part e parts = grind (arith, nat_tests)

answered : (client : Client) (server o i r : ℕ) (d : ResourceDef) (accept : Option ℕ) → IsReadable client o i r d
    → may_read client server (Resource o i r) ≡ true → is_tlv accept ≡ true → (parts : PartList)
    → parts_in client.store (resource_place o i r) ≡ parts
    → read_answer client server (Resource o i r) accept ≡ answer_of_parts r parts
answered client server o i r d accept h may k [] is =
    let path = Resource o i r in
    absent (o == 0) (exists client.catalog client.store path)
    ((not (may_read client server path), rule.Right)
    ∷ (not (is_readable (definition_of client.catalog o r)), rule.Operation)
    ∷ (not (is_some (format_at client.catalog path accept)), rule.Accept)
    ∷ (is_oversized (read_payload client server path accept), rule.Limit) ∷ [])
    (content_in (format_at client.catalog path accept) (read_payload client server path accept)) h.object
    (exists_by client o i r d h ∙ ap (λ (parts : PartList). nat_lt 0 (length parts)) is)
answered client server o i r d accept h may k (e ∷ parts) is =
    let path = Resource o i r in
    let there : not (exists client.catalog client.store path) ≡ false =
    ap not (exists_by client o i r d h ∙ ap (λ (ps : PartList). nat_lt 0 (length ps)) is ∙ some_part e parts) in
    let readable : not (is_readable (definition_of client.catalog o r)) ≡ false =
    ap (λ (x : Option ResourceDef). not (is_readable x)) h.defined_as ∙ ap not h.readable in
    shown (o == 0) (not (exists client.catalog client.store path)) (not (may_read client server path))
    (not (is_readable (definition_of client.catalog o r))) (format_at client.catalog path accept) Tlv
    (read_payload client server path accept) h.object there (ap not may) readable
    (format_is client o i r d accept h.defined_as h.several k)
    ∙ ap (content_within Tlv) (payload_is client server o i r d accept h k
    ∙ ap (λ (ps : PartList). shortest_tlv (record_of r ps)) is)

pub multiple_read : MultipleIsRead
multiple_read client o i r d other defined_as several readable place =
    let p = resource_place o i r in
    let parts = parts_in client.store p in (
      parts,
      record {
        held = parts_held client.store p;
        ascending = rises parts (sorted_parts client.store p);
        read = λ server accept may k. answered client server o i r d accept
            (record {
              object = ne_eqb o 0 other;
              defined_as = defined_as;
              several = several;
              readable = readable;
              place = place;
            }) may k parts refl;
      },
    )
