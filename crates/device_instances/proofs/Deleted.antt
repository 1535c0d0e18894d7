-- How a Delete takes one instance after the other, and what is left.
use Rattle.std.proofs.Common.{◌≡◌, ◌≢◌, ℕ, ◌<◌, ◌-◌, Bool, true, false, cond, not, ◌&&◌, ◌||◌, eqb, Option, None, Some}
use Rattle.std.proofs.Common.{refl, sym, ap, subst, ◌∙◌, ◌⊎◌, inl, inr, arith}
use Rattle.std.specs.Option.{is_some}
use Rattle.std.specs.FinMap as map
use Rattle.std.proofs.lemmas.Bool.{eqb-true, and_parts, cases_eq, false≢true, or_right, or_cases}
use Rattle.lemmas.proofs.Tests.{or_second}
use Rattle.object_defs.specs.Path.{instance_cmp}
use Rattle.object_defs.specs.declared.path.FullPath.{FullPath}
use Rattle.object_defs.specs.declared.path.InstancePath.{InstancePath}
use Rattle.object_defs.proofs.PathOrder.{path_total, path_exact, instance_total, instance_exact}
use Rattle.object_defs.proofs.MapLaws.{get_kept}
use Rattle.instance_store.specs.Stored.{Stored, value_at, has_instance, instance_path, without_instance}
use Rattle.access_control.specs.Rights.{speaks_of, control_of}
use Rattle.access_control.proofs.Lowest.{lowest_decides, none_decides}
use Rattle.device_instances.specs.Numbers.{instance_at}
use Rattle.device_instances.specs.Deletions.{instance_in, is_same, is_control_of, goes_with, without_deleted}
use Rattle.device_instances.proofs.Instances.{itself, differs}
use Rattle.device_instances.proofs.Controls.{not_same, one_place}
use Rattle.device_instances.proofs.Within.{is_itself, kept}
use Rattle.device_instances.proofs.Rights.{speaks_alike}

-- an instance is as it was
pub record SameAt (p : InstancePath) (s t : Stored) : Type 0 where
  pub there : map.get t.instances p ≡ map.get s.instances p
  pub values : (q : FullPath) → instance_in q ≡ p → value_at t q ≡ value_at s q

-- it is away, with its values
pub record EmptyAt (p : InstancePath) (t : Stored) : Type 0 where
  pub there : map.get t.instances p ≡ None
  pub values : (q : FullPath) → instance_in q ≡ p → value_at t q ≡ None

-- ---- one instance

without_value : (s : Stored) (p : InstancePath) (q : FullPath) (b : Bool) → is_same (instance_in q) p ≡ b
    → value_at (without_instance s p) q ≡ cond (not b) (value_at s q) None
without_value s p q b h = kept s (instance_path p) q ∙ ap (λ c. cond (not c) (value_at s q) None) h

pub emptied : (s : Stored) (p : InstancePath) → EmptyAt p (without_instance s p)
emptied s p = record {
  there = map.get-remove instance_total s.instances p p ∙ ap (λ b. cond b None (map.get s.instances p)) (itself p);
  values = λ q e. without_value s p q true (ap (λ o. is_same o p) e ∙ is_itself p);
}

pub spared : (s : Stored) (p o : InstancePath) → o ≢ p → SameAt o s (without_instance s p)
spared s p o other = record {
  there = map.get-remove instance_total s.instances p o
      ∙ ap (λ b. cond b None (map.get s.instances o)) (differs o p other);
  values = λ q e. without_value s p q false (not_same (instance_in q) p (λ k. other (sym e ∙ k)));
}

same_then : (p : InstancePath) (s t u : Stored) → SameAt p s t → SameAt p t u → SameAt p s u
same_then p s t u a b = record { there = b.there ∙ a.there; values = λ q e. b.values q e ∙ a.values q e }

empty_then : (p : InstancePath) (t u : Stored) → EmptyAt p t → SameAt p t u → EmptyAt p u
empty_then p t u a b = record { there = b.there ∙ a.there; values = λ q e. b.values q e ∙ a.values q e }

-- ---- one after the other

-- each instance is as it was, or goes and is away; the deleted one is away
pub record Progress (place : InstancePath) (old now : Stored) : Type 0 where
  pub each : (p : InstancePath) → SameAt p old now ⊎ ((goes_with old place p ≡ true) × EmptyAt p now)
  pub first : EmptyAt place now

goes_itself : (s : Stored) (place : InstancePath) → goes_with s place place ≡ true
goes_itself s place = ap (λ b. b || is_control_of s place place) (is_itself place)

by_place : (p o : InstancePath) (A : Type 0) → (p ≡ o → A) → (p ≢ o → A) → A
by_place p o A f g =
    elim (is_same p o) as (λ b. is_same p o ≡ b → A) [
      | true ↦ λ h. f (one_place p o h)
      | false ↦ λ h. g (λ e. false≢true (sym h ∙ ap (λ x. is_same x o) e ∙ is_itself o))
    ] refl

pub begun : (s : Stored) (place : InstancePath) → Progress place s (without_instance s place)
begun s place = record {
  each = λ p. by_place p place (SameAt p s (without_instance s place)
      ⊎ ((goes_with s place p ≡ true) × EmptyAt p (without_instance s place)))
      (λ e. inr (subst (λ o. (goes_with s place o ≡ true) × EmptyAt o (without_instance s place)) (sym e)
      (goes_itself s place, emptied s place)))
      (λ other. inl (spared s place p other));
  first = emptied s place;
}

-- an instance of object 2 that still speaks of it goes
control_goes : (place : InstancePath) (old now : Stored) (j : ℕ) → SameAt (instance_at 2 j) old now
    → has_instance now (instance_at 2 j) ≡ true → speaks_of now j place.object place.instance ≡ true
    → goes_with old place (instance_at 2 j) ≡ true
control_goes place old now j same has speaks =
    or_right (is_same (instance_at 2 j) place) (is_control_of old place (instance_at 2 j))
    (ap (λ b. b && speaks_of old j place.object place.instance) (sym (ap is_some same.there) ∙ has)
    ∙ sym (speaks_alike old now j place.object place.instance same.values) ∙ speaks)

found_goes : (place : InstancePath) (old now : Stored) (j : ℕ) → Progress place old now
    → control_of now place.object place.instance ≡ Some j → goes_with old place (instance_at 2 j) ≡ true
found_goes place old now j h found =
    let low = (lowest_decides now place.object place.instance j).0 found in
    elim (h.each (instance_at 2 j)) [
      | inl same ↦ control_goes place old now j same low.there low.speaks
      | inr away ↦ away.0
    ]

pub found_there : (place : InstancePath) (now : Stored) (j : ℕ) → control_of now place.object place.instance ≡ Some j
    → has_instance now (instance_at 2 j) ≡ true
found_there place now j found = ((lowest_decides now place.object place.instance j).0 found).there

pub continued : (place : InstancePath) (old now : Stored) (j : ℕ) → Progress place old now
    → control_of now place.object place.instance ≡ Some j → Progress place old (without_instance now (instance_at 2 j))
continued place old now j h found =
    let next = without_instance now (instance_at 2 j) in
    record {
      each = λ p. by_place p (instance_at 2 j) (SameAt p old next ⊎ ((goes_with old place p ≡ true) × EmptyAt p next))
          (λ e. inr (subst (λ o. (goes_with old place o ≡ true) × EmptyAt o next) (sym e)
          (found_goes place old now j h found, emptied now (instance_at 2 j))))
          (λ other. elim (h.each p) [
            | inl same ↦ inl (same_then p old now next same (spared now (instance_at 2 j) p other))
            | inr away ↦ inr (away.0, empty_then p now next away.1 (spared now (instance_at 2 j) p other))
          ]);
      first = by_place place (instance_at 2 j) (EmptyAt place next)
          (λ e. subst (λ o. EmptyAt o next) (sym e) (emptied now (instance_at 2 j)))
          (λ other. empty_then place now next h.first (spared now (instance_at 2 j) place other));
    }

-- ---- at the end

pub record Settled (place : InstancePath) (old now : Stored) (p : InstancePath) : Type 0 where
  pub there : map.get now.instances p ≡ cond (not (goes_with old place p)) (map.get old.instances p) None
  pub values : (q : FullPath) → instance_in q ≡ p
      → value_at now q ≡ cond (not (goes_with old place p)) (value_at old q) None

away_settled : (place : InstancePath) (old now : Stored) (p : InstancePath) → goes_with old place p ≡ true
    → EmptyAt p now
    → Settled place old now p
away_settled place old now p gone away = record {
  there = away.there ∙ ap (λ b. cond (not b) (map.get old.instances p) None) (sym gone);
  values = λ q e. away.values q e ∙ ap (λ b. cond (not b) (value_at old q) None) (sym gone);
}

none_left : (place : InstancePath) (old now : Stored) (p : InstancePath) → SameAt p old now
    → control_of now place.object place.instance ≡ None → is_control_of old place p ≡ true → ⊥
none_left place old now p same none control =
    let parts = and_parts (eqb p.object 2) (has_instance old p && speaks_of old p.instance place.object place.instance)
    control in
    let more = and_parts (has_instance old p) (speaks_of old p.instance place.object place.instance) parts.1 in
    let is : p ≡ instance_at 2 p.instance =
    λ i. record { object = eqb-true p.object 2 parts.0 i; instance = p.instance } in
    let has : has_instance now (instance_at 2 p.instance) ≡ true =
    ap (has_instance now) (sym is) ∙ ap is_some same.there ∙ more.0 in
    let speaks = speaks_alike old now p.instance place.object place.instance (λ q e. same.values q (e ∙ sym is)) in
    false≢true (sym ((none_decides now place.object place.instance).0 none p.instance has) ∙ speaks ∙ more.1)

settled : (place : InstancePath) (old now : Stored) → Progress place old now
    → control_of now place.object place.instance ≡ None → (p : InstancePath) → Settled place old now p
settled place old now h none p =
    elim (h.each p) [
      | inr away ↦ away_settled place old now p away.0 away.1
      | inl same ↦ elim (goes_with old place p) as (λ b. goes_with old place p ≡ b → Settled place old now p) [
        | false ↦ λ g. record {
          there = same.there ∙ ap (λ b. cond (not b) (map.get old.instances p) None) (sym g);
          values = λ q e. same.values q e ∙ ap (λ b. cond (not b) (value_at old q) None) (sym g);
        }
        | true ↦ λ g. elim (or_cases (is_same p place) (is_control_of old place p) g) [
          | inl here ↦ away_settled place old now p g
              (subst (λ o. EmptyAt o now) (sym (one_place p place here)) h.first)
          | inr control ↦ absurd (none_left place old now p same none control)
        ]
      ] refl
    ]

value_left : (s : Stored) (place : InstancePath) (q : FullPath)
    → value_at (without_deleted s place) q ≡ cond (not (goes_with s place (instance_in q))) (value_at s q) None
value_left s place q = get_kept path_total path_exact s.values (λ k. not (goes_with s place (instance_in k))) q

instance_left : (s : Stored) (place p : InstancePath)
    → map.get (without_deleted s place).instances p ≡ cond (not (goes_with s place p)) (map.get s.instances p) None
instance_left s place p = get_kept instance_total instance_exact s.instances (λ k. not (goes_with s place k)) p

pub ended : (place : InstancePath) (old now : Stored) → Progress place old now
    → control_of now place.object place.instance ≡ None → now ≡ without_deleted old place
ended place old now h none =
    let done = settled place old now h none in
    let values : now.values ≡ (without_deleted old place).values =
    map.same_map path_total path_exact now.values (without_deleted old place).values
    (λ q. (done (instance_in q)).values q refl ∙ sym (value_left old place q)) in
    let instances : now.instances ≡ (without_deleted old place).instances =
    map.same_map instance_total instance_exact now.instances (without_deleted old place).instances
    (λ p. (done p).there ∙ sym (instance_left old place p)) in
    λ i. record { values = values i; instances = instances i }

-- ---- each step takes one

not_empty : (s : Stored) (p : InstancePath) → has_instance s p ≡ true → map.len s.instances ≡ 0 → ⊥
not_empty s p has none =
    false≢true (sym (ap is_some (map.get-empty instance_cmp p))
    ∙ sym (ap (λ m. is_some (map.get m p)) (map.empty_of_len s.instances none)) ∙ has)

pub one_less : (s : Stored) (p : InstancePath) → has_instance s p ≡ true
    → map.len (without_instance s p).instances < map.len s.instances
one_less s p has =
    let less : map.len (map.remove s.instances p) ≡ map.len s.instances - 1 =
    map.len-remove instance_total s.instances p
    ∙ ap (λ b. cond b (map.len s.instances - 1) (map.len s.instances)) has in
    elim (cases_eq (map.len s.instances) 0) [
      | inl none ↦ absurd (not_empty s p has none)
      | inr some ↦ omega (arith, less, some)
    ]

-- ---- what a reader wants to know of it

no_value : (b : Bool) (o : Option ℕ) → b ≡ true → (cond (not b) o None ≡ None)
no_value true o h = refl
no_value false o h = cc

pub no_value_left : (s : Stored) (place : InstancePath) (q : FullPath) → instance_in q ≡ place
    → value_at (without_deleted s place) q ≡ None
no_value_left s place q e =
    value_left s place q ∙ ap (λ b. cond (not b) (value_at s q) None) (ap (goes_with s place) e ∙ goes_itself s place)

is_left : (b : Bool) (o : Option (Unit {0})) → is_some (cond (not b) o None) ≡ true → (b ≡ false) × (is_some o ≡ true)
is_left true o h = cc
is_left false o h = (refl, h)

and_false : (a b : Bool) → a ≡ true → (a && b) ≡ false → b ≡ false
and_false true b h k = k
and_false false b h k = cc

pub no_control_left : (s : Stored) (place : InstancePath) (j : ℕ)
    → has_instance (without_deleted s place) (instance_at 2 j) ≡ true
    → speaks_of (without_deleted s place) j place.object place.instance ≡ false
no_control_left s place j has =
    let stays = is_left (goes_with s place (instance_at 2 j)) (map.get s.instances (instance_at 2 j))
    (sym (ap is_some (instance_left s place (instance_at 2 j))) ∙ has) in
    speaks_alike s (without_deleted s place) j place.object place.instance
    (λ q e. value_left s place q ∙ ap (λ b. cond (not b) (value_at s q) None) (ap (goes_with s place) e ∙ stays.0))
    ∙ and_false (has_instance s (instance_at 2 j)) (speaks_of s j place.object place.instance) stays.1
    (or_second (is_same (instance_at 2 j) place) (is_control_of s place (instance_at 2 j)) stays.0)
