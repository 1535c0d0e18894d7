-- A query is read as what it says, and queries from the left.
use Rattle.std.proofs.Common.{◌≡◌, ◌⊎◌, ℕ, ◌+◌, ℤ, Bool, true, false, cond, ◌||◌, List, [], ◌∷◌}
use Rattle.std.proofs.Common.{◌++◌}
use Rattle.std.proofs.Common.{take, drop, Option, None, Some, Result, Ok, Err, ◌==◌, refl, sym, ap, subst, ◌∙◌}
use Rattle.std.proofs.Common.{arith, inl, inr}
use Rattle.std.proofs.Common.{eq-eqb, ne_eqb, append_assoc, append-nil, if◌then◌else◌}
use Rattle.std.specs.Prelude.{option_map, position}
use Rattle.std.specs.Str.{bytes_eq}
use Rattle.std.specs.Map.{lookup}
use Rattle.std.specs.List.{list_any, AllByRecursion}
use Rattle.std.specs.Option.{option_map_or}
use Rattle.std.proofs.lemmas.Slice.Eq.{bytes_eq-Decides}
use Rattle.lemmas.proofs.Options.{option_map_parts}
use Rattle.notifier.specs.declared.attribute.Name.{Name}
use Rattle.notifier.specs.declared.attribute.Name.TheVariants.{Pmin, Pmax, Gt, Lt, St}
use Rattle.notifier.specs.declared.attribute.Change.{Change}
use Rattle.notifier.specs.declared.attribute.Level.{Level}
use Rattle.notifier.specs.declared.fault.QueryFault.{QueryFault}
use Rattle.notifier.specs.declared.fault.QueryFault.TheVariants as fault
use Rattle.notifier.specs.Attributes.{rank, name_at, name_at-rank}
use Rattle.notifier.specs.Query.{spellings, name_of, name_part, number_part, attribute_number, target_of}
use Rattle.notifier.specs.Query.{stands_at}
use Rattle.notifier.specs.Query.{is_of, change_to, change_of, reading_of, changes_of}
use Rattle.laws_reading.specs.Queries.{name_text, SaysTarget, Says, QueriesAreSaid, IsNew, AreSaid}
use Rattle.laws_reading.specs.Queries.{ChangesAreSaid, Names, IsFault, FirstFaultDecides}
use Rattle.laws_reading.proofs.Numbers.{IsWithout, place_with, place_without, cut_at, front, back, said_number}
use Rattle.laws_reading.proofs.Numbers.{number_said}

-- names

pick : (text : List ℕ) (e : List ℕ × Name) (es : List (List ℕ × Name)) (n : Name) (b : Bool) → bytes_eq text e.0 ≡ b
    → e.0 ≡ name_text e.1 → (lookup (bytes_eq text) es ≡ Some n → text ≡ name_text n)
    → cond b (Some e.1) (lookup (bytes_eq text) es) ≡ Some n → text ≡ name_text n
pick text e es n true same spelled later h =
    let named : e.1 ≡ n = cc in (bytes_eq-Decides text e.0).0 same ∙ spelled ∙ ap name_text named
pick text e es n false other spelled later h = later h

found : (text : List ℕ) (es : List (List ℕ × Name)) (n : Name) → AllByRecursion (λ e. e.0 ≡ name_text e.1) es
    → lookup (bytes_eq text) es ≡ Some n → text ≡ name_text n
found text [] n all h = cc h
found text (e ∷ es) n all h = pick text e es n (bytes_eq text e.0) refl all.0 (found text es n all.1) h

named : (text : List ℕ) (n : Name) → name_of text ≡ Some n → text ≡ name_text n
named text n h = found text spellings n (refl, (refl, (refl, (refl, (refl, tt))))) h

name_again : (n : Name) → name_of (name_text n) ≡ Some n
name_again Pmin = refl
name_again Pmax = refl
name_again Gt = refl
name_again Lt = refl
name_again St = refl

no_equals : (n : Name) → IsWithout 61 (name_text n)
no_equals Pmin =
    ((λ e. omega (arith, e)), ((λ e. omega (arith, e)), ((λ e. omega (arith, e)), ((λ e. omega (arith, e)), tt))))
no_equals Pmax =
    ((λ e. omega (arith, e)), ((λ e. omega (arith, e)), ((λ e. omega (arith, e)), ((λ e. omega (arith, e)), tt))))
no_equals Gt = ((λ e. omega (arith, e)), ((λ e. omega (arith, e)), tt))
no_equals Lt = ((λ e. omega (arith, e)), ((λ e. omega (arith, e)), tt))
no_equals St = ((λ e. omega (arith, e)), ((λ e. omega (arith, e)), tt))

-- the two parts of a query

abbrev name_by : Option ℕ → List ℕ → List ℕ
name_by r q = option_map_or (λ i. take i q) r q

abbrev number_by : Option ℕ → List ℕ → Option (List ℕ)
number_by r q = option_map (λ i. drop (i + 1) q) r

alone_name : (n : Name) → name_part (name_text n) ≡ name_text n
alone_name n = ap (λ r. name_by r (name_text n)) (place_without 61 (name_text n) (no_equals n))

alone_number : (n : Name) → number_part (name_text n) ≡ None
alone_number n = ap (λ r. number_by r (name_text n)) (place_without 61 (name_text n) (no_equals n))

with_name : (n : Name) (t : List ℕ) → name_part (name_text n ++ 61 ∷ t) ≡ name_text n
with_name n t =
    ap (λ r. name_by r (name_text n ++ 61 ∷ t)) (place_with 61 (name_text n) t (no_equals n))
    ∙ front (name_text n) 61 t

with_number : (n : Name) (t : List ℕ) → number_part (name_text n ++ 61 ∷ t) ≡ Some t
with_number n t =
    ap (λ r. number_by r (name_text n ++ 61 ∷ t)) (place_with 61 (name_text n) t (no_equals n))
    ∙ ap Some (back (name_text n) 61 t)

-- a query is one of these two
parted_by : (n : Name) (q : List ℕ) (r : Option ℕ) → position (λ c. c == 61) q ≡ r → name_by r q ≡ name_text n
    → ((q ≡ name_text n) × (number_by r q ≡ None))
    ⊎ ((t : List ℕ) × (q ≡ name_text n ++ 61 ∷ t) × (number_by r q ≡ Some t))
parted_by n q None e h = inl (h, refl)
parted_by n q (Some i) e h = inr (drop (i + 1) q, cut_at 61 q i e ∙ ap (λ a. a ++ 61 ∷ drop (i + 1) q) h, refl)

parted : (n : Name) (q : List ℕ) → name_of (name_part q) ≡ Some n
    → ((q ≡ name_text n) × (number_part q ≡ None))
    ⊎ ((t : List ℕ) × (q ≡ name_text n ++ 61 ∷ t) × (number_part q ≡ Some t))
parted n q h = parted_by n q (position (λ c. c == 61) q) refl (named (name_part q) n h)

names_it : (n : Name) (q : List ℕ) → Names n q → name_of (name_part q) ≡ Some n
names_it n q (inl e) = ap (λ t. name_of (name_part t)) e ∙ ap name_of (alone_name n) ∙ name_again n
names_it n q (inr p) = ap (λ t. name_of (name_part t)) p.1 ∙ ap name_of (with_name n p.0) ∙ name_again n

it_names : (n : Name) (q : List ℕ) → name_of (name_part q) ≡ Some n → Names n q
it_names n q h = elim (parted n q h) [
  | inl p ↦ inl p.0
  | inr p ↦ inr (p.0, p.1)
]

target_names : (n : Name) (q : List ℕ) (z : Option ℤ) → SaysTarget n q z → Names n q
target_names n q None p = inl p
target_names n q (Some z) p = inr (p.0, p.1)

-- what a query changes its attribute to

target_from : (n : Name) (q : List ℕ) (z : Option ℤ) → name_of (name_part q) ≡ Some n
    → target_of n (number_part q) ≡ Some z → SaysTarget n q z
target_from n q z h e = by z (parted n q h) e
  where
    by : (z : Option ℤ)
        → ((q ≡ name_text n) × (number_part q ≡ None))
        ⊎ ((t : List ℕ) × (q ≡ name_text n ++ 61 ∷ t) × (number_part q ≡ Some t))
        → target_of n (number_part q) ≡ Some z → SaysTarget n q z
    by None (inl p) e = p.0
    by (Some x) (inl p) e = let k : Some None ≡ Some (Some x) = sym (ap (target_of n) p.1) ∙ e in cc k
    by z (inr p) e =
        let m = option_map_parts Some (attribute_number n p.0) z (sym (ap (target_of n) p.2) ∙ e) in
        subst (SaysTarget n q) m.2 (p.0, p.1, said_number n p.0 m.0 m.1)

target_to : (n : Name) (q : List ℕ) (z : Option ℤ) → SaysTarget n q z → target_of n (number_part q) ≡ Some z
target_to n q None e = ap (λ t. target_of n (number_part t)) e ∙ ap (target_of n) (alone_number n)
target_to n q (Some z) p =
    ap (λ t. target_of n (number_part t)) p.1 ∙ ap (target_of n) (with_number n p.0)
    ∙ ap (option_map Some) (number_said n p.0 z p.2)

-- a name that is there before

same_rank : (m n : Name) → rank m ≡ rank n → m ≡ n
same_rank m n e = sym (name_at-rank m) ∙ ap name_at e ∙ name_at-rank n

new_by : (n : Name) (d : Change) (ds : List Change) (b : Bool) → (rank d.name == rank n) ≡ b
    → (b || list_any (is_of n) ds) ≡ false → (list_any (is_of n) ds ≡ false → IsNew n ds) → IsNew n (d ∷ ds)
new_by n d ds true e h later = cc h
new_by n d ds false e h later =
    ((λ same. let k : true ≡ false = sym (eq-eqb (rank d.name) (rank n) (ap rank same)) ∙ e in cc k), later h)

new_from : (n : Name) (ds : List Change) → list_any (is_of n) ds ≡ false → IsNew n ds
new_from n [] h = tt
new_from n (d ∷ ds) h = new_by n d ds (rank d.name == rank n) refl h (new_from n ds)

new_to : (n : Name) (ds : List Change) → IsNew n ds → list_any (is_of n) ds ≡ false
new_to n [] h = refl
new_to n (d ∷ ds) h =
    ap (λ b. b || list_any (is_of n) ds) (ne_eqb (rank d.name) (rank n) (λ e. h.0 (same_rank d.name n e)))
    ∙ new_to n ds h.1

-- one query after others

target_by : (level : Level) (n : Name) (o : Option (Option ℤ)) (b : Bool) (c : Change) → stands_at n level ≡ b
    → change_to level n o ≡ Ok c → (n ≡ c.name) × (o ≡ Some c.number) × (stands_at n level ≡ true)
target_by level n None b c s h = cc h
target_by level n (Some z) true c s h =
    let k : Ok (record { name = n; number = z }) ≡ Ok c =
    sym (ap (λ b. if b then Ok (record { name = n; number = z }) else Err fault.Level) s) ∙ h in
    let same : record { name = n; number = z } ≡ c = cc in
    (ap (λ c. c.name) same, ap (λ c. Some c.number) same, s)
target_by level n (Some z) false c s h =
    let k : Err fault.Level ≡ Ok c =
    sym (ap (λ b. if b then Ok (record { name = n; number = z }) else Err fault.Level) s) ∙ h in cc k

repeat_by : (before : List Change) (level : Level) (n : Name) (text : Option (List ℕ)) (b : Bool) (c : Change)
    → list_any (is_of n) before ≡ b → change_of before level (Some n) text ≡ Ok c
    → (list_any (is_of n) before ≡ false) × (change_to level n (target_of n text) ≡ Ok c)
repeat_by before level n text true c e h =
    let k : Err fault.Repeated ≡ Ok c =
    sym (ap (λ b. if b then Err fault.Repeated else change_to level n (target_of n text)) e) ∙ h in cc k
repeat_by before level n text false c e h =
    (e, sym (ap (λ b. if b then Err fault.Repeated else change_to level n (target_of n text)) e) ∙ h)

said_by : (before : List Change) (level : Level) (q : List ℕ) (c : Change) (o : Option Name) → name_of (name_part q) ≡ o
    → change_of before level o (number_part q) ≡ Ok c → Says level q c × IsNew c.name before
said_by before level q c None e h = cc h
said_by before level q c (Some n) e h =
    let p = repeat_by before level n (number_part q) (list_any (is_of n) before) c refl h in
    let t = target_by level n (target_of n (number_part q)) (stands_at n level) c refl p.1 in
    let target : SaysTarget n q c.number = target_from n q c.number e t.1 in (
      (subst (λ m. SaysTarget m q c.number) t.0 target, subst (λ m. stands_at m level ≡ true) t.0 t.2),
      subst (λ m. IsNew m before) t.0 (new_from n before p.0),
    )

pub said : (before : List Change) (level : Level) (q : List ℕ) (c : Change) → reading_of before level q ≡ Ok c
    → Says level q c × IsNew c.name before
said before level q c h = said_by before level q c (name_of (name_part q)) refl h

pub read : (before : List Change) (level : Level) (q : List ℕ) (c : Change) → Says level q c → IsNew c.name before
    → reading_of before level q ≡ Ok c
read before level q c s new =
    ap (λ o. change_of before level o (number_part q)) (names_it c.name q (target_names c.name q c.number s.0))
    ∙ ap (λ b. if b then Err fault.Repeated else change_to level c.name (target_of c.name (number_part q)))
    (new_to c.name before new)
    ∙ ap (change_to level c.name) (target_to c.name q c.number s.0)
    ∙ ap (λ b. if b then Ok (record { name = c.name; number = c.number }) else Err fault.Level) s.1

pub queries_are_said : QueriesAreSaid
queries_are_said level q c = ((λ h. (said [] level q c h).0), (λ s. read [] level q c s tt))

-- its fault

level_by : (level : Level) (n : Name) (q : List ℕ) (before : List Change) (e : QueryFault) (o : Option (Option ℤ))
    → name_of (name_part q) ≡ Some n → IsNew n before → target_of n (number_part q) ≡ o → change_to level n o ≡ Err e
    → IsFault before level q e
level_by level n q before e None h new t k =
    let same : fault.BadNumber ≡ e = cc in
    subst (IsFault before level q) same (elim (parted n q h) [
      | inl p ↦ let x : Some None ≡ None = sym (ap (target_of n) p.1) ∙ t in cc x
      | inr p ↦ (
        n,
        p.0,
        p.1,
        new,
        (λ z s. let x : Some (Some z) ≡ None =
            sym (ap (target_of n) p.2 ∙ ap (option_map Some) (number_said n p.0 z s)) ∙ t in cc x),
      )
    ])
level_by level n q before e (Some z) h new t k = by (stands_at n level) refl
  where
    by : (b : Bool) → stands_at n level ≡ b → IsFault before level q e
    by true s =
        let x : Ok (record { name = n; number = z }) ≡ Err e =
        sym (ap (λ b. if b then Ok (record { name = n; number = z }) else Err fault.Level) s) ∙ k in cc x
    by false s =
        let x : Err fault.Level ≡ Err e =
        sym (ap (λ b. if b then Ok (record { name = n; number = z }) else Err fault.Level) s) ∙ k in
        let same : fault.Level ≡ e = cc in
        subst (IsFault before level q) same (n, z, target_from n q z h t, new, s)

fault_by : (level : Level) (q : List ℕ) (before : List Change) (e : QueryFault) (o : Option Name)
    → name_of (name_part q) ≡ o → change_of before level o (number_part q) ≡ Err e → IsFault before level q e
fault_by level q before e None h k =
    let same : fault.UnknownName ≡ e = cc in
    subst (IsFault before level q) same (λ n names. let x : None ≡ Some n = sym h ∙ names_it n q names in cc x)
fault_by level q before e (Some n) h k = by (list_any (is_of n) before) refl
  where
    by : (b : Bool) → list_any (is_of n) before ≡ b → IsFault before level q e
    by true r =
        let x : Err fault.Repeated ≡ Err e =
        sym (ap (λ b. if b then Err fault.Repeated else change_to level n (target_of n (number_part q))) r) ∙ k in
        let same : fault.Repeated ≡ e = cc in
        subst (IsFault before level q) same
        (n, it_names n q h, (λ new. let y : true ≡ false = sym r ∙ new_to n before new in cc y))
    by false r =
        level_by level n q before e (target_of n (number_part q)) h (new_from n before r) refl
        (sym (ap (λ b. if b then Err fault.Repeated else change_to level n (target_of n (number_part q))) r) ∙ k)

pub fault_said : (level : Level) (q : List ℕ) (before : List Change) (e : QueryFault)
    → reading_of before level q ≡ Err e → IsFault before level q e
fault_said level q before e h = fault_by level q before e (name_of (name_part q)) refl h

behind_name : (level : Level) (q : List ℕ) (before : List Change) (n : Name) → Names n q → IsNew n before
    → reading_of before level q ≡ change_to level n (target_of n (number_part q))
behind_name level q before n names new =
    ap (λ o. change_of before level o (number_part q)) (names_it n q names)
    ∙ ap (λ b. if b then Err fault.Repeated else change_to level n (target_of n (number_part q))) (new_to n before new)

pub fault_read : (level : Level) (q : List ℕ) (before : List Change) (e : QueryFault) → IsFault before level q e
    → reading_of before level q ≡ Err e
fault_read level q before fault.UnknownName p = by (name_of (name_part q)) refl
  where
    by : (o : Option Name) → name_of (name_part q) ≡ o
        → change_of before level o (number_part q) ≡ Err fault.UnknownName
    by None h = refl
    by (Some n) h = absurd (p n (it_names n q h))
fault_read level q before fault.Repeated p =
    ap (λ o. change_of before level o (number_part q)) (names_it p.0 q p.1) ∙ by (list_any (is_of p.0) before) refl
  where
    by : (b : Bool) → list_any (is_of p.0) before ≡ b
        → (if b then Err fault.Repeated else change_to level p.0 (target_of p.0 (number_part q))) ≡ Err fault.Repeated
    by true h = refl
    by false h = absurd (p.2 (new_from p.0 before h))
fault_read level q before fault.BadNumber p =
    behind_name level q before p.0 (inr (p.1, p.2)) p.3
    ∙ ap (λ t. change_to level p.0 (target_of p.0 (number_part t))) p.2
    ∙ ap (λ t. change_to level p.0 (target_of p.0 t)) (with_number p.0 p.1) ∙ by (attribute_number p.0 p.1) refl
  where
    by : (o : Option ℤ) → attribute_number p.0 p.1 ≡ o → change_to level p.0 (option_map Some o) ≡ Err fault.BadNumber
    by None h = refl
    by (Some z) h = absurd (p.4 z (said_number p.0 p.1 z h))
fault_read level q before fault.Level p =
    behind_name level q before p.0 (target_names p.0 q p.1 p.2) p.3
    ∙ ap (change_to level p.0) (target_to p.0 q p.1 p.2)
    ∙ ap (λ b. if b then Ok (record { name = p.0; number = p.1 }) else Err fault.Level) p.4
fault_read level q before fault.Memory p = absurd p

-- several queries

abbrev after : List Change → Level → List (List ℕ) → Result Change QueryFault → Result (List Change) QueryFault
after before level qs (Ok c) = changes_of (before ++ c ∷ []) level qs
after before level qs (Err e) = Err e

opened : (before : List Change) (level : Level) (q : List ℕ) (qs : List (List ℕ))
    → changes_of before level (q ∷ qs) ≡ after before level qs (reading_of before level q)
opened before level q qs = by (reading_of before level q)
  where
    by : (r : Result Change QueryFault)
        → (elim r as (λ _. Result (List Change) QueryFault)
        [ Ok c ↦ changes_of (before ++ c ∷ []) level qs | Err e ↦ Err e ]) ≡ after before level qs r
    by (Ok c) = refl
    by (Err e) = refl

all_by : (before : List Change) (level : Level) (q : List ℕ) (qs : List (List ℕ)) (all : List Change)
    (r : Result Change QueryFault) → reading_of before level q ≡ r
    → ((c : Change) → changes_of (before ++ c ∷ []) level qs ≡ Ok all
    → (cs : List Change) × (all ≡ (before ++ c ∷ []) ++ cs) × AreSaid (before ++ c ∷ []) level qs cs)
    → after before level qs r ≡ Ok all → (cs : List Change) × (all ≡ before ++ cs) × AreSaid before level (q ∷ qs) cs
all_by before level q qs all (Err e) h later k = cc k
all_by before level q qs all (Ok c) h later k =
    let p = later c k in
    let s = said before level q c h in
    (c ∷ p.0, p.1 ∙ append_assoc before (c ∷ []) p.0, (s.0, s.1, p.2))

all_said : (before : List Change) (level : Level) (qs : List (List ℕ)) (all : List Change)
    → changes_of before level qs ≡ Ok all → (cs : List Change) × (all ≡ before ++ cs) × AreSaid before level qs cs
all_said before level [] all h = let same : before ≡ all = cc in ([], sym same ∙ sym (append-nil before), refl)
all_said before level (q ∷ qs) all h =
    all_by before level q qs all (reading_of before level q) refl (λ c. all_said (before ++ c ∷ []) level qs all)
    (sym (opened before level q qs) ∙ h)

one_read : (before : List Change) (level : Level) (q : List ℕ) (qs : List (List ℕ)) (c : Change) → Says level q c
    → IsNew c.name before → changes_of before level (q ∷ qs) ≡ changes_of (before ++ c ∷ []) level qs
one_read before level q qs c s new =
    opened before level q qs ∙ ap (after before level qs) (read before level q c s new)

all_read : (before : List Change) (level : Level) (qs : List (List ℕ)) (cs : List Change) → AreSaid before level qs cs
    → changes_of before level qs ≡ Ok (before ++ cs)
all_read before level [] cs h = ap Ok (sym (append-nil before) ∙ ap (λ l. before ++ l) (sym h))
all_read before level (q ∷ qs) [] h = absurd h
all_read before level (q ∷ qs) (c ∷ cs) h =
    one_read before level q qs c h.0 h.1 ∙ all_read (before ++ c ∷ []) level qs cs h.2
    ∙ ap Ok (append_assoc before (c ∷ []) cs)

pub changes_are_said : ChangesAreSaid
changes_are_said level qs cs = (
  (λ h. let p = all_said [] level qs cs h in subst (AreSaid [] level qs) (sym p.1) p.2),
  all_read [] level qs cs,
)

-- the first fault

abbrev FaultIn : List Change → Level → List (List ℕ) → QueryFault → Type 0
FaultIn before level qs e =
    (heads : List (List ℕ)) × (q : List ℕ) × (behind : List (List ℕ)) × (cs : List Change)
    × (qs ≡ heads ++ q ∷ behind) × AreSaid before level heads cs × IsFault (before ++ cs) level q e

first_by : (before : List Change) (level : Level) (q : List ℕ) (qs : List (List ℕ)) (e : QueryFault)
    (r : Result Change QueryFault) → reading_of before level q ≡ r
    → ((c : Change) → changes_of (before ++ c ∷ []) level qs ≡ Err e → FaultIn (before ++ c ∷ []) level qs e)
    → after before level qs r ≡ Err e → FaultIn before level (q ∷ qs) e
first_by before level q qs e (Err f) h later k =
    let same : f ≡ e = cc in (
      [],
      q,
      qs,
      [],
      refl,
      refl,
      subst (λ b. IsFault b level q e) (sym (append-nil before))
          (fault_said level q before e (subst (λ g. reading_of before level q ≡ Err g) same h)),
    )
first_by before level q qs e (Ok c) h later k =
    let p = later c k in
    let s = said before level q c h in (
      q ∷ p.0,
      p.1,
      p.2,
      c ∷ p.3,
      ap (λ l. q ∷ l) p.4,
      (s.0, s.1, p.5),
      subst (λ b. IsFault b level p.1 e) (append_assoc before (c ∷ []) p.3) p.6,
    )

first_said : (before : List Change) (level : Level) (qs : List (List ℕ)) (e : QueryFault)
    → changes_of before level qs ≡ Err e → FaultIn before level qs e
first_said before level [] e h = cc h
first_said before level (q ∷ qs) e h =
    first_by before level q qs e (reading_of before level q) refl (λ c. first_said (before ++ c ∷ []) level qs e)
    (sym (opened before level q qs) ∙ h)

first_read : (before : List Change) (level : Level) (heads : List (List ℕ)) (q : List ℕ) (behind : List (List ℕ))
    (cs : List Change) (e : QueryFault) → AreSaid before level heads cs → IsFault (before ++ cs) level q e
    → changes_of before level (heads ++ q ∷ behind) ≡ Err e
first_read before level [] q behind cs e s f =
    let here : IsFault before level q e =
    subst (λ b. IsFault b level q e) (ap (λ l. before ++ l) s ∙ append-nil before) f in
    opened before level q behind ∙ ap (after before level behind) (fault_read level q before e here)
first_read before level (h ∷ hs) q behind [] e s f = absurd s
first_read before level (h ∷ hs) q behind (c ∷ cs) e s f =
    one_read before level h (hs ++ q ∷ behind) c s.0 s.1
    ∙ first_read (before ++ c ∷ []) level hs q behind cs e s.2
    (subst (λ b. IsFault b level q e) (sym (append_assoc before (c ∷ []) cs)) f)

pub first_fault_decides : FirstFaultDecides
first_fault_decides level qs e = (
  (λ h. let p = first_said [] level qs e h in
      record { before = p.0; query = p.1; behind = p.2; changes = p.3; are = p.4; said = p.5; fault_is = p.6 }),
  (λ p. ap (changes_of [] level) p.are
      ∙ first_read [] level p.before p.query p.behind p.changes e p.said p.fault_is),
)
