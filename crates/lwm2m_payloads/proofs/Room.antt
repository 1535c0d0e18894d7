-- A resource that has 32 parts at most after a Write has 32 at most while its parts are set.
use Rattle.std.proofs.Common.{◌≡◌, ℕ, suc, ◌+◌, ◌≤◌, ◌==◌, Bool, true, false, not, ◌&&◌, ◌||◌, List, [], ◌∷◌, ◌++◌}
use Rattle.std.proofs.Common.{length, map as map_list, Option, Some, refl, sym, ap, subst, ◌∙◌, arith, true≢false}
use Rattle.std.proofs.Common.{nat_lt, nat_le, if◌then◌else◌}
use Rattle.std.specs.Option.{is_some}
use Rattle.std.specs.List.{filter, list_any, AllByRecursion, IsDistinct}
use Rattle.std.specs.FinMap as map
use Rattle.std.specs.Set.{is_member}
use Rattle.std.proofs.lemmas.Bool.Decides.{nat_tests}
use Rattle.std.proofs.lemmas.Cmp.{nat_eq_equiv}
use Rattle.std.proofs.lemmas.List.{length-append, length-map}
use Rattle.std.proofs.lemmas.List.Folds.{list_any-append}
use Rattle.std.proofs.lemmas.Map.Made.{length-le_from_is_member, is_member-filter}
use Rattle.std.proofs.lemmas.Bool.{eqb-true}
use Rattle.lemmas.proofs.Numbers.{eqb_turned}
use Rattle.lwm2m_values.specs.declared.value.Value.{Value}
use Rattle.object_defs.specs.Path.{part_of}
use Rattle.object_defs.specs.declared.path.InstancePath.{InstancePath}
use Rattle.object_defs.specs.declared.path.ResourcePath.{ResourcePath}
use Rattle.instance_store.specs.Stored.{Stored, value_at, with_value, parts_of, is_full, has_instance}
use Rattle.lwm2m_payloads.specs.declared.given.Given.TheVariants.{Parts}
use Rattle.lwm2m_payloads.specs.declared.given.Mode.TheVariants.{Update}
use Rattle.lwm2m_payloads.specs.Changes.{with_parts, is_other, is_too_many, parts_behind}
use Rattle.lwm2m_payloads.specs.PartList.{PartList}
use Rattle.lwm2m_payloads.proofs.Exceeding.{too_many}
use Rattle.lwm2m_payloads.proofs.Held.{held_distinct, held_at}
use Rattle.lwm2m_payloads.proofs.Places.{at_part, lies_own}
use Rattle.lwm2m_payloads.proofs.Written.{parts_instances}

abbrev pub has_part : Stored → ResourcePath → ℕ → Bool
has_part stored p n = is_some (value_at stored (part_of p n))

is_set : (b : Bool) (v : Value) (o : Option Value) → is_some (if b then Some v else o) ≡ (b || is_some o)
is_set true v o = refl
is_set false v o = refl

one_set : (stored : Stored) (p : ResourcePath) (e : ℕ × Value) (n : ℕ)
    → has_part (with_value stored (part_of p e.0) e.1) p n ≡ ((e.0 == n) || has_part stored p n)
one_set stored p e n =
    ap is_some (at_part stored p e.0 e.1 (part_of p n))
    ∙ ap (λ b. is_some (if b && (n == e.0) then Some e.1 else value_at stored (part_of p n))) (lies_own p (Some n))
    ∙ is_set (n == e.0) e.1 (value_at stored (part_of p n))
    ∙ ap (λ b. b || has_part stored p n) (eqb_turned n e.0)

either : (a b c : Bool) → (a || (b || c)) ≡ ((b || a) || c)
either true true c = refl
either true false c = refl
either false true c = refl
either false false c = refl

-- the parts that were set are added to those that there were
pub all_set : (parts : PartList) (stored : Stored) (p : ResourcePath) (n : ℕ)
    → has_part (with_parts stored p parts) p n ≡ (list_any (λ e. e.0 == n) parts || has_part stored p n)
all_set [] stored p n = refl
all_set (e ∷ parts) stored p n =
    all_set parts (with_value stored (part_of p e.0) e.1) p n
    ∙ ap (λ b. list_any (λ e. e.0 == n) parts || b) (one_set stored p e n)
    ∙ either (list_any (λ e. e.0 == n) parts) (e.0 == n) (has_part stored p n)

numbered : (parts : PartList) (n : ℕ) → is_member ◌==◌ (map_list (λ e. e.0) parts) n ≡ list_any (λ e. e.0 == n) parts
numbered [] n = refl
numbered (e ∷ parts) n =
    ap (λ b. b || is_member ◌==◌ (map_list (λ e. e.0) parts) n) (eqb_turned n e.0)
    ∙ ap (λ b. (e.0 == n) || b) (numbered parts n)

pub others : (parts : PartList) (stored : Stored) (p : ResourcePath) (n : ℕ)
    → is_member ◌==◌ (filter (is_other parts) (parts_of stored p)) n ≡ (has_part stored p n && is_other parts n)
others parts stored p n =
    is_member-filter nat_eq_equiv (is_other parts) n (λ x e. ap (is_other parts) (eqb-true n x e)) (parts_of stored p)
    ∙ ap (λ b. b && is_other parts n) (held_at stored p n)

-- the parts given, and the others that there were
abbrev behind : Stored → ResourcePath → PartList → List ℕ
behind stored p parts = map_list (λ e. e.0) parts ++ filter (is_other parts) (parts_of stored p)

is_behind : (parts : PartList) (stored : Stored) (p : ResourcePath) (n : ℕ)
    → is_member ◌==◌ (behind stored p parts) n
    ≡ (list_any (λ e. e.0 == n) parts || (has_part stored p n && not (list_any (λ e. e.0 == n) parts)))
is_behind parts stored p n =
    list_any-append (λ m. n == m) (map_list (λ e. e.0) parts) (filter (is_other parts) (parts_of stored p))
    ∙ ap (λ b. b || is_member ◌==◌ (filter (is_other parts) (parts_of stored p)) n) (numbered parts n)
    ∙ ap (λ b. list_any (λ e. e.0 == n) parts || b) (others parts stored p n)

among : (done here rest had : Bool) → (here || (done || had)) ≡ true
    → ((done || (here || rest)) || (had && not (done || (here || rest)))) ≡ true
among true here rest had h = refl
among false true rest had h = refl
among false false true had h = refl
among false false false had h = ap (λ b. b && true) h

none_is : (n : ℕ) (ns : List ℕ) → is_member ◌==◌ ns n ≡ false → AllByRecursion (λ y. (n == y) ≡ false) ns
none_is n [] h = tt
none_is n (m ∷ ns) h =
    elim (n == m) as (λ b. (b || is_member ◌==◌ ns n) ≡ false → (b ≡ false) × AllByRecursion (λ y. (n == y) ≡ false) ns)
    [ true ↦ λ k. absurd cc | false ↦ λ k. (refl, none_is n ns k) ] h

one_more : (n : ℕ) (ns : List ℕ) → is_member ◌==◌ ns n ≡ false → IsDistinct ◌==◌ ns → IsDistinct ◌==◌ (n ∷ ns)
unfolding IsDistinct
one_more n ns h distinct = (none_is n ns h, distinct)

below : (held parts others : ℕ) → suc held ≤ parts + others → nat_lt 32 (parts + others) ≡ false
    → nat_le 32 held ≡ false
below held parts others h k = grind (arith, nat_tests)

-- a part that is new among those set so far finds less than 32
new_fits : (stored : Stored) (p : ResourcePath) (done : PartList) (e : ℕ × Value) (rest : PartList)
    → is_too_many Update stored p (Parts (done ++ e ∷ rest)) ≡ false → has_part (with_parts stored p done) p e.0 ≡ false
    → nat_le 32 (length (parts_of (with_parts stored p done) p)) ≡ false
new_fits stored p done e rest few new =
    let now = with_parts stored p done in
    let parts = done ++ e ∷ rest in
    let distinct = one_more e.0 (parts_of now p) (held_at now p e.0 ∙ new) (held_distinct now p) in
    let count = length-le_from_is_member nat_eq_equiv (e.0 ∷ parts_of now p) (behind stored p parts) distinct (λ n h.
    is_behind parts stored p n
    ∙ ap (λ b. b || (has_part stored p n && not b)) (list_any-append (λ e. e.0 == n) done (e ∷ rest))
    ∙ among (list_any (λ e. e.0 == n) done) (e.0 == n) (list_any (λ e. e.0 == n) rest) (has_part stored p n)
    (ap (λ b. b || (list_any (λ e. e.0 == n) done || has_part stored p n)) (eqb_turned e.0 n)
    ∙ ap (λ b. (n == e.0) || b) (sym (held_at now p n ∙ all_set done stored p n))
    ∙ h)) in
    let sum = length-append (map_list (λ e. e.0) parts) (filter (is_other parts) (parts_of stored p))
    ∙ ap (λ k. k + length (filter (is_other parts) (parts_of stored p))) (length-map parts (λ e. e.0)) in
    below (length (parts_of now p)) (length parts) (length (filter (is_other parts) (parts_of stored p)))
    (subst (λ k. length (e.0 ∷ parts_of now p) ≤ k) sum count)
    (sym (too_many (parts_behind Update stored p parts)) ∙ few)

-- no part finds its resource full where all of them have room
never_full : (stored : Stored) (p : ResourcePath) (done : PartList) (e : ℕ × Value) (rest : PartList)
    → is_too_many Update stored p (Parts (done ++ e ∷ rest)) ≡ false → is_full (with_parts stored p done) p e.0 ≡ false
never_full stored p done e rest few =
    elim (has_part (with_parts stored p done) p e.0) as
    (λ b. has_part (with_parts stored p done) p e.0 ≡ b
    → (not b && nat_le 32 (length (parts_of (with_parts stored p done) p))) ≡ false) [
      | true ↦ λ h. refl
      | false ↦ λ h. new_fits stored p done e rest few h
    ] refl

full_means_at : (b f : Bool) → (b ≡ false → f ≡ false) → f ≡ true → b ≡ true
full_means_at true f h k = refl
full_means_at false f h k = absurd (true≢false (sym k ∙ h refl))

-- so where a part finds its resource full there are too many
pub full_means : (stored : Stored) (p : ResourcePath) (parts done : PartList) (e : ℕ × Value) (rest : PartList)
    → parts ≡ done ++ e ∷ rest → is_full (with_parts stored p done) p e.0 ≡ true
    → is_too_many Update stored p (Parts parts) ≡ true
full_means stored p parts done e rest is full =
    full_means_at (is_too_many Update stored p (Parts parts)) (is_full (with_parts stored p done) p e.0)
    (λ few. never_full stored p done e rest (ap (λ l. is_too_many Update stored p (Parts l)) (sym is) ∙ few)) full

-- a change of values keeps the instances
pub parts_present : (parts : PartList) (stored : Stored) (p : ResourcePath) (place : InstancePath)
    → has_instance (with_parts stored p parts) place ≡ has_instance stored place
parts_present parts stored p place = ap (λ m. map.contains_key m place) (parts_instances parts stored p)
