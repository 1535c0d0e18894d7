-- What a Read of an object and of an instance shows.
use Rattle.std.proofs.Common.{◌≡◌, ◌⊎◌, inl, inr, ℕ, ◌<◌, ◌==◌, Bool, true, false, cond, not, ◌&&◌, ◌||◌}
use Rattle.std.proofs.Common.{List, [], ◌∷◌, map, length, Option, None, Some, Ordering, refl, sym, ap, subst, ◌∙◌}
use Rattle.std.proofs.Common.{arith}
use Rattle.std.proofs.Math.Dec.{T}
use Rattle.std.specs.Bool.{if◌then◌else◌}
use Rattle.std.specs.FinMap as finite
use Rattle.std.specs.FinMap.{is_sorted}
use Rattle.std.specs.FinMap.Entries.{below_all}
use Rattle.std.specs.List.{filter, list_any}
use Rattle.std.specs.Option.{is_some, option_cmp, option_map, unwrap_or}
use Rattle.std.specs.Ordering.{nat_cmp, ordering_then, is_lt}
use Rattle.std.specs.declared.cmp.Ordering.TheVariants.{Less, Equal, Greater}
use Rattle.std.proofs.lemmas.Bool.{ne_eqb, eqb-true, and_parts, and_from, or_left, or_right}
use Rattle.std.proofs.lemmas.Bool.Decides.{nat_tests}
use Rattle.lemmas.proofs.Numbers.{eqb_itself, below_from_lt}
use Rattle.lemmas.proofs.Tests.{T_first, T_second, true_from_T}
use Rattle.lwm2m_values.specs.Tree.{Tree, Trees, instance, trees_of_list}
use Rattle.lwm2m_values.specs.Value.{bytes_of}
use Rattle.lwm2m_values.specs.declared.value.Value.{Value}
use Rattle.object_defs.specs.Catalog.{object_of, resource_in}
use Rattle.object_defs.specs.Lines.{first_line}
use Rattle.object_defs.specs.Operations.{can_read}
use Rattle.object_defs.specs.Path.{path_cmp}
use Rattle.object_defs.specs.declared.definition.ObjectDef.{ObjectDef}
use Rattle.object_defs.specs.declared.definition.ResourceDef.{ResourceDef}
use Rattle.object_defs.specs.declared.path.FullPath.{FullPath}
use Rattle.object_defs.specs.declared.path.Path.TheVariants.{Object, Instance}
use Rattle.instance_store.specs.Stored.{Stored, has_instance, instances_of, lies_in, value_at}
use Rattle.instance_store.proofs.InstanceLaws.{keys_of-under, sorted-under, under}
use Rattle.lwm2m_payloads.specs.Given.{number_in}
use Rattle.lwm2m_payloads.specs.Nodes.{Pairs, before_value, instance_node, is_shown, is_shown_as, nodes_of}
use Rattle.lwm2m_payloads.specs.Nodes.{object_nodes}
use Rattle.lwm2m_payloads.specs.Nodes.{shown_in}
use Rattle.lwm2m_payloads.specs.declared.format.Format.{Format}
use Rattle.lwm2m_payloads.specs.declared.format.Format.TheVariants.{Tlv}
use Rattle.device_requests.specs.declared.answer.Answer.{Answer}
use Rattle.device_requests.specs.declared.ruling.Ruling.{Ruling}
use Rattle.device_requests.specs.declared.ruling.Ruling.TheVariants as rule
use Rattle.device_requests.specs.Access.{may_read, reads, shown_instances}
use Rattle.device_requests.specs.Answer.{bare, refused_or}
use Rattle.device_requests.specs.Client.{Client}
use Rattle.device_requests.specs.Laws.{IsAmong, content_within}
use Rattle.device_requests.specs.Read.{content_in, format_at, payload_in, read_payload}
use Rattle.device_requests.specs.Refusals.{is_oversized}
use Rattle.device_requests.specs.Targets.{exists, place_of, resources_defined}
use Rattle.device_requests.proofs.ReadBack.{shown}
use Rattle.device_requests.proofs.Among.{among-filter, filtered, any_found, mapped, among-any, among-map}
use Rattle.laws_requests.specs.ObjectReads.{Ascend, HoldsReadable, InstanceIsShown, MayRead}
use Rattle.laws_requests.specs.ObjectReads.{ObjectIsHidden, ObjectIsShown, RecordsSay, ShowsInstance, ShowsObject}
use Rattle.laws_requests.specs.ObjectReads.{IsRecordIn}
use Rattle.laws_requests.proofs.Among.{entry_held}
use Rattle.laws_requests.proofs.Among.{instance_listed, sorted_filtered, sorted_first}
use Rattle.laws_requests.proofs.Among.{sorted_rest}
use Rattle.laws_requests.proofs.Holding.{is_defined_in, is_eleven}
use Rattle.laws_requests.proofs.Records.{IsFormed, Precedes, numbers_in, one_says, part_formed, says_one}
use Rattle.laws_requests.proofs.Records.{single_formed}

-- ---- sorted values of one instance

equal_to : (m n : ℕ) → nat_cmp m n ≡ Equal → m ≡ n
equal_to m n h = grind (arith, nat_tests)

by_number : (a b : ℕ) (rest : Ordering) → ordering_then (nat_cmp a b) rest ≡ Less
    → (a < b) ⊎ ((a ≡ b) × (rest ≡ Less))
by_number a b rest h =
    elim (nat_cmp a b) as (λ o. nat_cmp a b ≡ o → ordering_then o rest ≡ Less → (a < b) ⊎ ((a ≡ b) × (rest ≡ Less))) [
      | Less ↦ λ is k. inl (below_from_lt a b (ap is_lt is))
      | Equal ↦ λ is k. inr (equal_to a b is, k)
      | Greater ↦ λ is k. cc
    ] refl h

-- the values are of one instance and are shown
abbrev AreOf : ℕ → ℕ → List ResourceDef → Pairs → Type 0
AreOf o i resources es =
    (e : FullPath × Value) → IsAmong e es
    → (is_shown resources e.0 ≡ true) × (e.0.object ≡ o) × (e.0.instance ≡ i)

abbrev IsLater : FullPath → FullPath → Type 0
IsLater p q = (p.resource < q.resource) ⊎ ((p.resource ≡ q.resource) × (option_cmp nat_cmp p.part q.part ≡ Less))

later : (p q : FullPath) → p.object ≡ q.object → p.instance ≡ q.instance → path_cmp p q ≡ Less → IsLater p q
later p q same alike h =
    elim (by_number p.object q.object _ h) [
      | inl l ↦ absurd (omega arith)
      | inr k ↦ elim (by_number p.instance q.instance _ k.1) [
        | inl l ↦ absurd (omega arith)
        | inr m ↦ by_number p.resource q.resource (option_cmp nat_cmp p.part q.part) m.1
      ]
    ]

all_later : (o i : ℕ) (resources : List ResourceDef) (d : FullPath × Value) (es : Pairs)
    → T (is_sorted path_cmp (d ∷ es)) → AreOf o i resources (d ∷ es) → (e : FullPath × Value) → IsAmong e es
    → IsLater d.0 e.0
all_later o i resources d es sorted are e among =
    let a = are d (inl refl) in
    let b = are e (inr among) in
    later d.0 e.0 (a.1 ∙ sym b.1) (a.2 ∙ sym b.2) (sorted_first d es sorted e among)

read_both : (a b : Bool) → (a && (if b then false else true)) ≡ true → (a && (if b then true else false)) ≡ true → ⊥
read_both true true h k = cc
read_both true false h k = cc
read_both false b h k = cc

one_kind : (d : Option ResourceDef) (m : ℕ) → is_shown_as None d ≡ true → is_shown_as (Some m) d ≡ true → ⊥
one_kind None m h k = cc
one_kind (Some d) m h k = read_both (can_read d.ops) d.multiple h k

single_first : (o i : ℕ) (resources : List ResourceDef) (d : FullPath × Value) (es : Pairs)
    → T (is_sorted path_cmp (d ∷ es)) → AreOf o i resources (d ∷ es) → d.0.part ≡ None
    → (e : FullPath × Value) → IsAmong e es → d.0.resource < e.0.resource
single_first o i resources d es sorted are is e among =
    elim (all_later o i resources d es sorted are e among) [
      | inl l ↦ l
      | inr k ↦
          let here : is_shown_as None (resource_in resources e.0.resource) ≡ true =
          subst (λ (p : ℕ × Option ℕ). is_shown_as p.1 (resource_in resources p.0) ≡ true)
          (λ j. (k.0 j, is j)) (are d (inl refl)).0 in
          let there = (are e (inr among)).0 in
          elim e.0.part as (λ n. e.0.part ≡ n → d.0.resource < e.0.resource) [
            | None ↦ λ none.
                let l : option_cmp nat_cmp None None ≡ Less =
                subst (λ (p : Option ℕ × Option ℕ). option_cmp nat_cmp p.0 p.1 ≡ Less) (λ j. (is j, none j)) k.1 in cc
            | Some m ↦ λ some.
                absurd (one_kind (resource_in resources e.0.resource) m here
                (ap (λ (n : Option ℕ). is_shown_as n (resource_in resources e.0.resource)) (sym some) ∙ there))
          ] refl
    ]

part_first : (o i : ℕ) (resources : List ResourceDef) (d : FullPath × Value) (es : Pairs) (n : ℕ)
    → T (is_sorted path_cmp (d ∷ es)) → AreOf o i resources (d ∷ es) → d.0.part ≡ Some n
    → Precedes d.0.resource n (nodes_of es)
part_first o i resources d es n sorted are is =
    let after = all_later o i resources d es sorted are in
    record {
      from = λ t h.
          let e = numbers_in es t h in
          elim (after e.0 e.1) [
            | inl l ↦ let same = e.2 in omega arith
            | inr k ↦ let same = e.2 in let alike = k.0 in omega arith
          ];
      no_single = λ c h.
          let e = says_one es d.0.resource None c h in
          elim (after e.0 e.1) [
            | inl l ↦ let same = e.2.0 in omega arith
            | inr k ↦
                let l : option_cmp nat_cmp (Some n) None ≡ Less =
                subst (λ (p : Option ℕ × Option ℕ). option_cmp nat_cmp p.0 p.1 ≡ Less)
                (λ j. (is j, e.2.1 j)) k.1 in cc
          ];
      above = λ m c h.
          let e = says_one es d.0.resource (Some m) c h in
          elim (after e.0 e.1) [
            | inl l ↦ let same = e.2.0 in absurd (omega arith)
            | inr k ↦ below_from_lt n m (ap is_lt
                (subst (λ (p : Option ℕ × Option ℕ). option_cmp nat_cmp p.0 p.1 ≡ Less)
                (λ j. (is j, e.2.1 j)) k.1))
          ];
    }

value_formed : (o i : ℕ) (resources : List ResourceDef) (d : FullPath × Value) (es : Pairs) (k : Option ℕ)
    → T (is_sorted path_cmp (d ∷ es)) → AreOf o i resources (d ∷ es) → d.0.part ≡ k → IsFormed (nodes_of es)
    → IsFormed (before_value d.0.resource k d.1 (nodes_of es))
value_formed o i resources d es None sorted are is h =
    single_formed d.0.resource (bytes_of d.1) (nodes_of es) h (λ t s.
    let e = numbers_in es t s in
    subst (λ (x : ℕ). d.0.resource < x) (sym e.2) (single_first o i resources d es sorted are is e.0 e.1))
value_formed o i resources d es (Some n) sorted are is h =
    part_formed d.0.resource n d.1 (nodes_of es) h (part_first o i resources d es n sorted are is)

formed : (o i : ℕ) (resources : List ResourceDef) (es : Pairs) → T (is_sorted path_cmp es) → AreOf o i resources es
    → IsFormed (nodes_of es)
formed o i resources [] sorted are = record { ascend = tt; each = λ t f. absurd f }
formed o i resources (d ∷ es) sorted are =
    value_formed o i resources d es d.0.part sorted are refl
    (formed o i resources es (sorted_rest d es sorted) (λ e among. are e (inr among)))

-- ---- an instance

means_shown : (a b c : Bool) → (a && (if b then c else not c)) ≡ true → (a ≡ true) × (b ≡ c)
means_shown true true true h = (refl, refl)
means_shown true false false h = (refl, refl)
means_shown true true false h = cc
means_shown true false true h = cc
means_shown false b c h = cc

shown_means : (k : Option ℕ) (d : Option ResourceDef) → is_shown_as k d ≡ true
    → (e : ResourceDef) × (d ≡ Some e) × (can_read e.ops ≡ true) × (e.multiple ≡ is_some k)
shown_means k None h = cc
shown_means k (Some d) h = let m = means_shown (can_read d.ops) d.multiple (is_some k) h in (d, refl, m.0, m.1)

fits_shown : (a b c : Bool) → a ≡ true → b ≡ c → (a && (if b then c else not c)) ≡ true
fits_shown true true true h k = refl
fits_shown true false false h k = refl
fits_shown true true false h k = cc
fits_shown true false true h k = cc
fits_shown false b c h k = cc

lies_here : (o i r : ℕ) (n : Option ℕ)
    → lies_in (Instance o i) (record { object = o; instance = i; resource = r; part = n }) ≡ true
lies_here o i r n = and_from (o == o) (i == i) (eqb_itself o) (eqb_itself i)

-- the values that a Read of the instance lists
abbrev listed_in : Client → ℕ → ℕ → Pairs
listed_in client o i = shown_in client.store (resources_defined client.catalog o) (Instance o i)

-- what is listed is held, in the instance, and can be read
record IsListed (client : Client) (o i : ℕ) (e : FullPath × Value) : Type 0 where
  is_shown_there : is_shown (resources_defined client.catalog o) e.0 ≡ true
  object : e.0.object ≡ o
  place : e.0.instance ≡ i
  held : value_at client.store e.0 ≡ Some e.1

is_listed : (client : Client) (o i : ℕ) (e : FullPath × Value) → IsAmong e (listed_in client o i)
    → IsListed client o i e
is_listed client o i e among =
    let all = finite.entries client.store.values in
    let f = filtered (λ d. is_shown (resources_defined client.catalog o) d.0) e
    (filter (λ d. lies_in (Instance o i) d.0) all) among in
    let g = filtered (λ d. lies_in (Instance o i) d.0) e all f.0 in
    let at = and_parts (e.0.object == o) (e.0.instance == i) g.1 in
    record {
      is_shown_there = f.1;
      object = eqb-true e.0.object o at.0;
      place = eqb-true e.0.instance i at.1;
      held = (entry_held client.store e.0 e.1).0 g.0;
    }

read_is_held : (client : Client) (o i r : ℕ) (n : Option ℕ) (bytes : List ℕ)
    → RecordsSay (nodes_of (listed_in client o i)) r n bytes → HoldsReadable client o i r n bytes
read_is_held client o i r n bytes h =
    let d = says_one (listed_in client o i) r n bytes h in
    let e = d.0 in
    let l = is_listed client o i e d.1 in
    let m = shown_means e.0.part (resource_in (resources_defined client.catalog o) e.0.resource) l.is_shown_there in
    record {
      definition = m.0;
      is_defined = is_defined_in client o r ∙ ap (resource_in (resources_defined client.catalog o)) (sym d.2.0) ∙ m.1;
      readable = m.2;
      fits = m.3 ∙ ap is_some d.2.1;
      value = e.1;
      held = ap (value_at client.store) (λ j. record {
        object = sym l.object j;
        instance = sym l.place j;
        resource = sym d.2.0 j;
        part = sym d.2.1 j;
      }) ∙ l.held;
      written = d.2.2;
    }

held_is_read : (client : Client) (o i r : ℕ) (n : Option ℕ) (bytes : List ℕ) → HoldsReadable client o i r n bytes
    → RecordsSay (nodes_of (listed_in client o i)) r n bytes
held_is_read client o i r n bytes h =
    let q : FullPath = record { object = o; instance = i; resource = r; part = n } in
    let all = finite.entries client.store.values in
    let there = (entry_held client.store q h.value).1 h.held in
    let is_shown_there : is_shown (resources_defined client.catalog o) q ≡ true =
    ap (is_shown_as n) (sym (is_defined_in client o r) ∙ h.is_defined)
    ∙ fits_shown (can_read h.definition.ops) h.definition.multiple (is_some n) h.readable h.fits in
    one_says (listed_in client o i) r n bytes (
      (q, h.value),
      among-filter (λ d. is_shown (resources_defined client.catalog o) d.0) (q, h.value)
          (filter (λ d. lies_in (Instance o i) d.0) all) is_shown_there
          (among-filter (λ d. lies_in (Instance o i) d.0) (q, h.value) all (lies_here o i r n) there),
      (refl, refl, h.written),
    )

instance_shown : (client : Client) (o i : ℕ) → ShowsInstance client o i (nodes_of (listed_in client o i))
instance_shown client o i =
    let resources = resources_defined client.catalog o in
    let all = finite.entries client.store.values in
    let sorted = sorted_filtered (λ d. is_shown resources d.0) (filter (λ d. lies_in (Instance o i) d.0) all)
    (sorted_filtered (λ d. lies_in (Instance o i) d.0) all (finite.entries_sorted client.store.values)) in
    let f = formed o i resources (listed_in client o i) sorted (λ e among.
    let l = is_listed client o i e among in (l.is_shown_there, l.object, l.place)) in
    record {
      ascend = f.ascend;
      each = f.each;
      exactly = λ r n bytes. (read_is_held client o i r n bytes, held_is_read client o i r n bytes);
    }

-- ---- an object

stands_among : (t : Tree) (ts : List Tree) → IsRecordIn t (trees_of_list ts) → IsAmong t ts
stands_among t [] h = h
stands_among t (s ∷ ts) (inl e) = inl e
stands_among t (s ∷ ts) (inr h) = inr (stands_among t ts h)

among_stands : (t : Tree) (ts : List Tree) → IsAmong t ts → IsRecordIn t (trees_of_list ts)
among_stands t [] h = h
among_stands t (s ∷ ts) (inl e) = inl e
among_stands t (s ∷ ts) (inr h) = inr (among_stands t ts h)

abbrev Rise : List ℕ → Type 0
Rise [] = Unit {0}
Rise (n ∷ ns) = ((m : ℕ) → IsAmong m ns → n < m) × Rise ns

rise_filtered : (p : ℕ → Bool) (ns : List ℕ) → Rise ns → Rise (filter p ns)
rise_filtered p [] h = tt
rise_filtered p (n ∷ ns) h =
    elim (p n) as (λ b. Rise (cond b (n ∷ filter p ns) (filter p ns))) [
      | true ↦ ((λ m i. h.0 m (filtered p m ns i).0), rise_filtered p ns h.1)
      | false ↦ rise_filtered p ns h.1
    ]

rise_below : (n : ℕ) (es : List (ℕ × Unit {0})) → T (below_all nat_cmp n es) → (m : ℕ)
    → IsAmong m (map (λ e. e.0) es) → n < m
rise_below n [] h m among = absurd among
rise_below n (e ∷ es) h m (inl is) =
    subst (λ (x : ℕ). n < x) is (below_from_lt n e.0 (true_from_T _ (T_first _ _ h)))
rise_below n (e ∷ es) h m (inr among) = rise_below n es (T_second _ _ h) m among

sorted_rise : (es : List (ℕ × Unit {0})) → T (is_sorted nat_cmp es) → Rise (map (λ e. e.0) es)
sorted_rise [] h = tt
sorted_rise (e ∷ es) h = (rise_below e.0 es (T_first _ _ h), sorted_rise es (T_second _ _ h))

instances_rise : (stored : Stored) (o : ℕ) → Rise (instances_of stored o)
instances_rise stored o =
    let es = finite.entries stored.instances in
    subst Rise (sym (keys_of-under o es))
    (sorted_rise (under o es) (sorted-under o es (finite.entries_sorted stored.instances)))

ascend_listed : (stored : Stored) (resources : List ResourceDef) (o : ℕ) (ns : List ℕ) → Rise ns
    → Ascend (object_nodes stored resources o ns)
ascend_listed stored resources o [] h = tt
ascend_listed stored resources o (n ∷ ns) h = (
  λ s i.
      let m = mapped (instance_node stored resources o) s ns
      (stands_among s (map (instance_node stored resources o) ns) i) in
      subst (λ (x : Tree). n < number_in x) m.2 (h.0 m.0 m.1),
  ascend_listed stored resources o ns h.1,
)

same_instance : (n i : ℕ) (a b : Trees) → instance n a ≡ instance i b → n ≡ i
same_instance n i a b e = cc

object_shown : (client : Client) (server o : ℕ)
    → ShowsObject client server o (object_nodes client.store (resources_defined client.catalog o) o
    (shown_instances client.store (length client.accounts) server o))
object_shown client server o =
    let resources = resources_defined client.catalog o in
    let may = reads client.store (length client.accounts) server o in
    let all = instances_of client.store o in
    let ns = shown_instances client.store (length client.accounts) server o in
    let node = instance_node client.store resources o in
    record {
      ascend = ascend_listed client.store resources o ns (rise_filtered may all (instances_rise client.store o));
      each = λ t i.
          let m = mapped node t ns (stands_among t (map node ns) i) in
          (m.0, nodes_of (listed_in client o m.0), sym m.2, instance_shown client o m.0);
      exactly = λ i. (
        λ h.
            let m = mapped node (instance i h.0) ns (stands_among (instance i h.0) (map node ns) h.1) in
            let is : m.0 ≡ i = same_instance m.0 i (nodes_of (listed_in client o m.0)) h.0 m.2 in
            let f = filtered may m.0 all m.1 in
            subst (MayRead client server o) is
            (record { there = (instance_listed client.store o m.0).0 f.0; right = f.1 }),
        λ h. (
          nodes_of (listed_in client o i),
          among_stands (node i) (map node ns) (among-map node i ns
              (among-filter may i all h.right ((instance_listed client.store o i).1 h.there))),
        ),
      );
    }

-- ---- the answers

exists_by : (client : Client) (o i : ℕ) (d : ObjectDef) → object_of client.catalog o ≡ Some d
    → has_instance client.store (place_of o i) ≡ true
    → not (exists client.catalog client.store (Instance o i)) ≡ false
exists_by client o i d is there =
    ap (λ (x : Option ObjectDef). not (is_some x && has_instance client.store (place_of o i))) is ∙ ap not there

pub instance_read : InstanceIsShown
instance_read client server o i d accept other is may k =
    let path = Instance o i in
    let format : format_at client.catalog path accept ≡ Some Tlv = is_eleven accept k in (
      nodes_of (listed_in client o i),
      instance_shown client o i,
      shown (o == 0) (not (exists client.catalog client.store path)) (not (may_read client server path)) false
          (format_at client.catalog path accept) Tlv (read_payload client server path accept) (ne_eqb o 0 other)
          (exists_by client o i d is may.there) (ap not may.right) refl format
          ∙ ap (content_within Tlv)
          (ap (λ (f : Option Format). unwrap_or (option_map (payload_in client server path) f) []) format),
    )

none_there : (ns : List ℕ) → ((n : ℕ) → IsAmong n ns → ⊥) → (length ns == 0) ≡ true
none_there [] h = refl
none_there (n ∷ ns) h = absurd (h n (inl refl))

some_there : (ns : List ℕ) (n : ℕ) → IsAmong n ns → (length ns == 0) ≡ false
some_there [] n h = absurd h
some_there (m ∷ ns) n h = grind (arith, nat_tests)

may_be_read : (client : Client) (server o : ℕ)
    → ((i : ℕ) → has_instance client.store (place_of o i) ≡ false) ⊎ ((i : ℕ) × MayRead client server o i)
    → may_read client server (Object o) ≡ true
may_be_read client server o (inl never) =
    let all = instances_of client.store o in
    or_left (length all == 0) (list_any (reads client.store (length client.accounts) server o) all)
    (none_there all (λ i among.
    let l : true ≡ false = sym ((instance_listed client.store o i).0 among) ∙ never i in cc))
may_be_read client server o (inr m) =
    let all = instances_of client.store o in
    let may = reads client.store (length client.accounts) server o in
    or_right (length all == 0) (list_any may all)
    (among-any may m.0 all ((instance_listed client.store o m.0).1 m.1.there) m.1.right)

pub object_read : ObjectIsShown
object_read client server o d accept other is may k =
    let path = Object o in
    let format : format_at client.catalog path accept ≡ Some Tlv = is_eleven accept k in (
      object_nodes client.store (resources_defined client.catalog o) o
          (shown_instances client.store (length client.accounts) server o),
      object_shown client server o,
      shown (o == 0) (not (exists client.catalog client.store path)) (not (may_read client server path)) false
          (format_at client.catalog path accept) Tlv (read_payload client server path accept) (ne_eqb o 0 other)
          (ap (λ (x : Option ObjectDef). not (is_some x)) is) (ap not (may_be_read client server o may)) refl format
          ∙ ap (content_within Tlv)
          (ap (λ (f : Option Format). unwrap_or (option_map (payload_in client server path) f) []) format),
    )

no_right : (a b s : Bool) (lines : List (Bool × Ruling)) (answer : Answer) → b ≡ true → s ≡ false
    → refused_or (first_line ((a, rule.Security) ∷ (not b, rule.Target) ∷ (not s, rule.Right) ∷ lines)) answer
    ≡ bare (if a then rule.Security else rule.Right)
no_right true b s lines answer h k = refl
no_right false false s lines answer h k = cc
no_right false true true lines answer h k = cc
no_right false true false lines answer h k = refl

none_may : (client : Client) (server o : ℕ) → ((j : ℕ) → ¬ (MayRead client server o j))
    → list_any (reads client.store (length client.accounts) server o) (instances_of client.store o) ≡ false
none_may client server o never =
    let may = reads client.store (length client.accounts) server o in
    let all = instances_of client.store o in
    elim (list_any may all) as (λ b. list_any may all ≡ b → b ≡ false) [
      | true ↦ λ is.
          let f = any_found may all is in
          absurd (never f.0 (record { there = (instance_listed client.store o f.0).0 f.1; right = f.2 }))
      | false ↦ λ is. refl
    ] refl

pub object_hidden : ObjectIsHidden
object_hidden client server o i d accept is there never =
    let path = Object o in
    let all = instances_of client.store o in
    no_right (o == 0) (exists client.catalog client.store path) (may_read client server path)
    ((false, rule.Operation) ∷ (not (is_some (format_at client.catalog path accept)), rule.Accept)
    ∷ (is_oversized (read_payload client server path accept), rule.Limit) ∷ [])
    (content_in (format_at client.catalog path accept) (read_payload client server path accept))
    (ap (λ (x : Option ObjectDef). is_some x) is)
    (ap (λ (b : Bool). b || list_any (reads client.store (length client.accounts) server o) all)
    (some_there all i ((instance_listed client.store o i).1 there)) ∙ none_may client server o never)
