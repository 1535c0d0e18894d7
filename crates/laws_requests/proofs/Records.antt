-- What the records of an instance say, and how they stand.
use Rattle.std.proofs.Common.{◌≡◌, ◌≢◌, ◌↔◌, ◌⊎◌, inl, inr, ℕ, ◌<◌, ◌≤◌, ◌==◌, true, false}
use Rattle.std.proofs.Common.{List, [], ◌∷◌, Option, None, Some, refl, sym, ap, subst, ◌∙◌, arith}
use Rattle.std.specs.Bool.{if◌then◌else◌}
use Rattle.std.proofs.lemmas.Bool.{eqb-true}
use Rattle.std.proofs.lemmas.Option.{same_Some}
use Rattle.lemmas.proofs.Numbers.{eqb_itself}
use Rattle.lwm2m_values.specs.Tree.{Tree, Trees, instance, multi, part, single, none, more}
use Rattle.lwm2m_values.specs.Value.{bytes_of}
use Rattle.lwm2m_values.specs.declared.value.Value.{Value}
use Rattle.object_defs.specs.declared.path.FullPath.{FullPath}
use Rattle.lwm2m_payloads.specs.Given.{number_in}
use Rattle.lwm2m_payloads.specs.Nodes.{Pairs, before_value, nodes_of}
use Rattle.device_requests.specs.Laws.{IsAmong}
use Rattle.laws_requests.specs.ObjectReads.{Ascend, IsResourceRecord}
use Rattle.laws_requests.specs.ObjectReads.{RecordsSay, IsRecordIn}
use Rattle.laws_requests.specs.ObjectReads.{alone, several}

-- ---- what records say, with one more value before them

abbrev Same : ℕ → Option ℕ → List ℕ → ℕ → Option ℕ → List ℕ → Type 0
Same r k b s m c = (r ≡ s) × (k ≡ m) × (b ≡ c)

single_says : (r : ℕ) (b : List ℕ) (nodes : Trees) (s : ℕ) (k : Option ℕ) (c : List ℕ)
    → RecordsSay (more (single r b) nodes) s k c ↔ (Same r None b s k c ⊎ RecordsSay nodes s k c)
single_says r b nodes s None c = (
  λ h. elim h [
    | inl e ↦ let p : r ≡ s = cc in let q : b ≡ c = cc in inl (p, refl, q)
    | inr f ↦ inr f
  ],
  λ h. elim h [ inl same ↦ inl (λ j. single (same.0 j) (same.2 j)) | inr f ↦ inr f ],
)
single_says r b nodes s (Some m) c = (
  λ h. elim h.1 [ inl e ↦ cc | inr f ↦ inr (h.0, f, h.2) ],
  λ h. elim h [ inl same ↦ let k = same.1 in cc | inr f ↦ (f.0, inr f.1, f.2) ],
)

part_is : (n m : ℕ) (b c : List ℕ) → part n b ≡ part m c → (n ≡ m) × (b ≡ c)
part_is n m b c e = (cc, cc)

multi_is : (r s : ℕ) (ps qs : Trees) → multi r ps ≡ multi s qs → (r ≡ s) × (ps ≡ qs)
multi_is r s ps qs e = (cc, cc)

alone_says : (r n : ℕ) (b : List ℕ) (nodes : Trees) (s : ℕ) (k : Option ℕ) (c : List ℕ)
    → RecordsSay (more (multi r (more (part n b) none)) nodes) s k c
    ↔ (Same r (Some n) b s k c ⊎ RecordsSay nodes s k c)
alone_says r n b nodes s None c = (
  λ h. elim h [ inl e ↦ cc | inr f ↦ inr f ],
  λ h. elim h [ inl same ↦ let k = same.1 in cc | inr f ↦ inr f ],
)
alone_says r n b nodes s (Some m) c = (
  λ h. elim h.1 [
    | inl e ↦
        let are = multi_is r s (more (part n b) none) h.0 e in
        let here : IsRecordIn (part m c) (more (part n b) none) = subst (IsRecordIn (part m c)) (sym are.1) h.2 in
        elim here [
          | inl f ↦ let is = part_is n m b c f in inl (are.0, ap Some is.0, is.1)
          | inr f ↦ absurd f
        ]
    | inr f ↦ inr (h.0, f, h.2)
  ],
  λ h. elim h [
    | inl same ↦ (
      more (part n b) none,
      inl (λ j. multi (same.0 j) (more (part n b) none)),
      inl (λ j. part (same_Some n m same.1 j) (same.2 j)),
    )
    | inr f ↦ (f.0, inr f.1, f.2)
  ],
)

grouped_says : (r n : ℕ) (b : List ℕ) (q : ℕ) (ps nodes : Trees) (s : ℕ) (k : Option ℕ) (c : List ℕ) → q ≡ r
    → RecordsSay (more (multi r (more (part n b) ps)) nodes) s k c
    ↔ (Same r (Some n) b s k c ⊎ RecordsSay (more (multi q ps) nodes) s k c)
grouped_says r n b q ps nodes s None c is = (
  λ h. elim h [ inl e ↦ cc | inr f ↦ inr (inr f) ],
  λ h. elim h [ inl same ↦ let k = same.1 in cc | inr f ↦ elim f [ inl e ↦ cc | inr g ↦ inr g ] ],
)
grouped_says r n b q ps nodes s (Some m) c is = (
  λ h. elim h.1 [
    | inl e ↦
        let are = multi_is r s (more (part n b) ps) h.0 e in
        let here : IsRecordIn (part m c) (more (part n b) ps) = subst (IsRecordIn (part m c)) (sym are.1) h.2 in
        elim here [
          | inl f ↦ let is = part_is n m b c f in inl (are.0, ap Some is.0, is.1)
          | inr f ↦ inr (ps, inl (λ j. multi ((is ∙ are.0) j) ps), f)
        ]
    | inr f ↦ inr (h.0, inr f, h.2)
  ],
  λ h. elim h [
    | inl same ↦ (
      more (part n b) ps,
      inl (λ j. multi (same.0 j) (more (part n b) ps)),
      inl (λ j. part (same_Some n m same.1 j) (same.2 j)),
    )
    | inr f ↦ elim f.1 [
      | inl e ↦
          let are = multi_is q s ps f.0 e in (
            more (part n b) ps,
            inl (λ j. multi ((sym is ∙ are.0) j) (more (part n b) ps)),
            inr (subst (IsRecordIn (part m c)) (sym are.1) f.2),
          )
      | inr g ↦ (f.0, inr g, f.2)
    ]
  ],
)

before_says : (r : ℕ) (k : Option ℕ) (v : Value) (nodes : Trees) (s : ℕ) (m : Option ℕ) (c : List ℕ)
    → RecordsSay (before_value r k v nodes) s m c ↔ (Same r k (bytes_of v) s m c ⊎ RecordsSay nodes s m c)
before_says r None v nodes s m c = single_says r (bytes_of v) nodes s m c
before_says r (Some n) v none s m c = alone_says r n (bytes_of v) none s m c
before_says r (Some n) v (more (instance i inner) nodes) s m c =
    alone_says r n (bytes_of v) (more (instance i inner) nodes) s m c
before_says r (Some n) v (more (part i b) nodes) s m c = alone_says r n (bytes_of v) (more (part i b) nodes) s m c
before_says r (Some n) v (more (single q b) nodes) s m c = alone_says r n (bytes_of v) (more (single q b) nodes) s m c
before_says r (Some n) v (more (multi q ps) nodes) s m c =
    let p = part n (bytes_of v) in
    elim (q == r) as (λ t. (q == r) ≡ t → RecordsSay (if t then more (multi r (more p ps)) nodes
    else more (multi r (more p none)) (more (multi q ps) nodes)) s m c
    ↔ (Same r (Some n) (bytes_of v) s m c ⊎ RecordsSay (more (multi q ps) nodes) s m c)) [
      | true ↦ λ is. grouped_says r n (bytes_of v) q ps nodes s m c (eqb-true q r is)
      | false ↦ λ is. alone_says r n (bytes_of v) (more (multi q ps) nodes) s m c
    ] refl

-- one of the values is this one
abbrev IsOneOf : Pairs → ℕ → Option ℕ → List ℕ → Type 0
IsOneOf es s k c = (e : FullPath × Value) × IsAmong e es × Same e.0.resource e.0.part (bytes_of e.1) s k c

pub says_one : (es : Pairs) (s : ℕ) (k : Option ℕ) (c : List ℕ) → RecordsSay (nodes_of es) s k c → IsOneOf es s k c
says_one [] s None c h = absurd h
says_one [] s (Some m) c h = absurd h.1
says_one (e ∷ es) s k c h =
    elim ((before_says e.0.resource e.0.part e.1 (nodes_of es) s k c).0 h) [
      | inl same ↦ (e, inl refl, same)
      | inr f ↦ let d = says_one es s k c f in (d.0, inr d.1, d.2)
    ]

pub one_says : (es : Pairs) (s : ℕ) (k : Option ℕ) (c : List ℕ) → IsOneOf es s k c → RecordsSay (nodes_of es) s k c
one_says [] s k c d = absurd d.1
one_says (e ∷ es) s k c d =
    (before_says e.0.resource e.0.part e.1 (nodes_of es) s k c).1 (elim d.1 [
      | inl is ↦ inl (subst (λ (x : FullPath × Value). Same x.0.resource x.0.part (bytes_of x.1) s k c) (sym is) d.2)
      | inr among ↦ inr (one_says es s k c (d.0, among, d.2))
    ])

-- ---- the numbers of records

abbrev IsNumbered : ℕ → Trees → Tree → Type 0
IsNumbered r nodes t = (number_in t ≡ r) ⊎ ((u : Tree) × IsRecordIn u nodes × (number_in t ≡ number_in u))

numbered : (s : Tree) (nodes : Trees) (t : Tree) → IsRecordIn t (more s nodes) → IsNumbered (number_in s) nodes t
numbered s nodes t (inl e) = inl (sym (ap number_in e))
numbered s nodes t (inr h) = inr (t, h, refl)

before_numbered : (r : ℕ) (k : Option ℕ) (v : Value) (nodes : Trees) (t : Tree)
    → IsRecordIn t (before_value r k v nodes) → IsNumbered r nodes t
before_numbered r None v nodes t h = numbered (single r (bytes_of v)) nodes t h
before_numbered r (Some n) v none t h = numbered (multi r (more (part n (bytes_of v)) none)) none t h
before_numbered r (Some n) v (more (instance i inner) nodes) t h =
    numbered (multi r (more (part n (bytes_of v)) none)) (more (instance i inner) nodes) t h
before_numbered r (Some n) v (more (part i b) nodes) t h =
    numbered (multi r (more (part n (bytes_of v)) none)) (more (part i b) nodes) t h
before_numbered r (Some n) v (more (single q b) nodes) t h =
    numbered (multi r (more (part n (bytes_of v)) none)) (more (single q b) nodes) t h
before_numbered r (Some n) v (more (multi q ps) nodes) t h =
    let p = part n (bytes_of v) in
    elim (q == r) as (λ b. IsRecordIn t (if b then more (multi r (more p ps)) nodes
    else more (multi r (more p none)) (more (multi q ps) nodes)) → IsNumbered r (more (multi q ps) nodes) t) [
      | true ↦ λ k. elim (numbered (multi r (more p ps)) nodes t k) [
        | inl is ↦ inl is
        | inr d ↦ inr (d.0, inr d.1, d.2)
      ]
      | false ↦ λ k. numbered (multi r (more p none)) (more (multi q ps) nodes) t k
    ] h

pub numbers_in : (es : Pairs) (t : Tree) → IsRecordIn t (nodes_of es)
    → (e : FullPath × Value) × IsAmong e es × (number_in t ≡ e.0.resource)
numbers_in [] t h = absurd h
numbers_in (e ∷ es) t h =
    elim (before_numbered e.0.resource e.0.part e.1 (nodes_of es) t h) [
      | inl is ↦ (e, inl refl, is)
      | inr d ↦ let f = numbers_in es d.0 d.1 in (f.0, inr f.1, d.2 ∙ f.2)
    ]

-- ---- the order of records

pub record IsFormed (nodes : Trees) : Type 0 where
  pub ascend : Ascend nodes
  pub each : (t : Tree) → IsRecordIn t nodes → IsResourceRecord t

abbrev AllAbove : ℕ → Trees → Type 0
AllAbove r nodes = (t : Tree) → IsRecordIn t nodes → r < number_in t

all_above : (r : ℕ) (t : Tree) (nodes : Trees) → r < number_in t → Ascend (more t nodes) → AllAbove r (more t nodes)
all_above r t nodes l up s (inl e) = subst (λ (x : Tree). r < number_in x) e l
all_above r t nodes l up s (inr h) = let k : number_in t < number_in s = up.0 s h in omega arith

pub single_formed : (r : ℕ) (b : List ℕ) (nodes : Trees) → IsFormed nodes → AllAbove r nodes
    → IsFormed (more (single r b) nodes)
single_formed r b nodes h above =
    record {
      ascend = (above, h.ascend);
      each = λ t i. elim i [ inl e ↦ subst IsResourceRecord e (alone r b) | inr j ↦ h.each t j ];
    }

abbrev IsPart : Tree → Type 0
IsPart t = (n : ℕ) × (bytes : List ℕ) × (t ≡ part n bytes)

alone_formed : (r n : ℕ) (b : List ℕ) (nodes : Trees) → IsFormed nodes → AllAbove r nodes
    → IsFormed (more (multi r (more (part n b) none)) nodes)
alone_formed r n b nodes h above =
    let parts : (t : Tree) → IsRecordIn t (more (part n b) none) → IsPart t =
    λ t i. elim i [ inl e ↦ (n, b, sym e) | inr f ↦ absurd f ] in
    record {
      ascend = (above, h.ascend);
      each = λ t i. elim i [
        | inl e ↦ subst IsResourceRecord e (several r (part n b) none parts ((λ s f. absurd f), tt))
        | inr j ↦ h.each t j
      ];
    }

abbrev AreParts : Trees → Type 0
AreParts ps = ((t : Tree) → IsRecordIn t ps → IsPart t) × Ascend ps

record_parts : (t : Tree) → IsResourceRecord t → (q : ℕ) (ps : Trees) → t ≡ multi q ps → AreParts ps
record_parts t (alone r b) q ps e = cc
record_parts t (several r first others parts up) q ps e =
    let same : more first others ≡ ps = (multi_is r q (more first others) ps e).1 in subst AreParts same (parts, up)

not_instance : (t : Tree) → IsResourceRecord t → (i : ℕ) (inner : Trees) → t ≡ instance i inner → ⊥
not_instance t (alone r b) i inner e = cc
not_instance t (several r first others parts up) i inner e = cc

not_part : (t : Tree) → IsResourceRecord t → (n : ℕ) (b : List ℕ) → t ≡ part n b → ⊥
not_part t (alone r c) n b e = cc
not_part t (several r first others parts up) n b e = cc

grouped_formed : (r n : ℕ) (b : List ℕ) (q : ℕ) (ps nodes : Trees) → q ≡ r → IsFormed (more (multi q ps) nodes)
    → ((m : ℕ) (c : List ℕ) → RecordsSay (more (multi q ps) nodes) r (Some m) c → n < m)
    → IsFormed (more (multi r (more (part n b) ps)) nodes)
grouped_formed r n b q ps nodes is h above =
    let are = record_parts (multi q ps) (h.each (multi q ps) (inl refl)) q ps refl in
    let parts : (t : Tree) → IsRecordIn t (more (part n b) ps) → IsPart t =
    λ t i. elim i [ inl e ↦ (n, b, sym e) | inr j ↦ are.0 t j ] in
    let up : (t : Tree) → IsRecordIn t ps → n < number_in t =
    λ t i.
    let p = are.0 t i in
    let l : n < p.0 =
    above p.0 p.1 (ps, inl (λ j. multi (is j) ps), subst (λ (x : Tree). IsRecordIn x ps) p.2 i) in
    subst (λ (x : ℕ). n < x) (sym (ap number_in p.2)) l in
    record {
      ascend = ((λ s i. subst (λ (x : ℕ). x < number_in s) is (h.ascend.0 s i)), h.ascend.1);
      each = λ t i. elim i [
        | inl e ↦ subst IsResourceRecord e (several r (part n b) ps parts (up, are.1))
        | inr j ↦ h.each t (inr j)
      ];
    }

-- a part of a resource may stand before records
pub record Precedes (r n : ℕ) (nodes : Trees) : Type 0 where
  pub from : (t : Tree) → IsRecordIn t nodes → r ≤ number_in t
  pub no_single : (c : List ℕ) → RecordsSay nodes r None c → ⊥
  pub above : (m : ℕ) (c : List ℕ) → RecordsSay nodes r (Some m) c → n < m

pub part_formed : (r n : ℕ) (v : Value) (nodes : Trees) → IsFormed nodes → Precedes r n nodes
    → IsFormed (before_value r (Some n) v nodes)
part_formed r n v none h k = alone_formed r n (bytes_of v) none h (λ t f. absurd f)
part_formed r n v (more (instance i inner) nodes) h k =
    absurd (not_instance (instance i inner) (h.each (instance i inner) (inl refl)) i inner refl)
part_formed r n v (more (part i b) nodes) h k = absurd (not_part (part i b) (h.each (part i b) (inl refl)) i b refl)
part_formed r n v (more (single q b) nodes) h k =
    let l : r ≤ q = k.from (single q b) (inl refl) in
    let ne : r ≢ q = λ e. k.no_single b (inl (λ j. single (sym e j) b)) in
    let lt : r < q = omega arith in
    alone_formed r n (bytes_of v) (more (single q b) nodes) h (all_above r (single q b) nodes lt h.ascend)
part_formed r n v (more (multi q ps) nodes) h k =
    let p = part n (bytes_of v) in
    let l : r ≤ q = k.from (multi q ps) (inl refl) in
    elim (q == r) as (λ t. (q == r) ≡ t → IsFormed (if t then more (multi r (more p ps)) nodes
    else more (multi r (more p none)) (more (multi q ps) nodes))) [
      | true ↦ λ is. grouped_formed r n (bytes_of v) q ps nodes (eqb-true q r is) h k.above
      | false ↦ λ is.
          let ne : q ≢ r = λ e. let f : true ≡ false = sym (ap (λ (x : ℕ). x == r) e ∙ eqb_itself r) ∙ is in cc in
          let lt : r < q = omega arith in
          alone_formed r n (bytes_of v) (more (multi q ps) nodes) h (all_above r (multi q ps) nodes lt h.ascend)
    ] refl
