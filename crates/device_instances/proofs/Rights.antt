-- What a server may do to an instance that it has created.
use Rattle.std.proofs.Common.{◌≡◌, ◌≢◌, ℕ, ◌<◌, ◌≤◌, true, false, cond, not, ◌&&◌, nat_le, eqb, List, None, Some}
use Rattle.std.proofs.Common.{pos, refl, sym, ap, subst, ◌∙◌, ◌⊎◌, inl, inr, arith}
use Rattle.std.specs.Option.{is_some}
use Rattle.std.specs.FinMap as map
use Rattle.std.proofs.lemmas.Bool.{eq-eqb, false≢true, and_from}
use Rattle.std.proofs.lemmas.Bool.Decides.{nat_tests}
use Rattle.instance_store.proofs.SetValues.{value_elsewhere}
use Rattle.lwm2m_values.specs.declared.value.Value.TheVariants.{Whole}
use Rattle.object_defs.specs.Path.{single_of, part_of}
use Rattle.object_defs.specs.declared.definition.ResourceDef.{ResourceDef}
use Rattle.object_defs.specs.declared.path.FullPath.{FullPath}
use Rattle.object_defs.specs.declared.path.InstancePath.{InstancePath}
use Rattle.instance_store.specs.Stored.{Stored, value_at, has_instance, resource_path, with_instance, without_values}
use Rattle.lwm2m_values.specs.Value.{is_integer}
use Rattle.access_control.specs.Rights.{control, names, integer_in, entry_of, owns, speaks_of, control_of}
use Rattle.access_control.specs.Rights.{right_by, right_by_entry, right_by_default, right_on_control, right_of}
use Rattle.access_control.specs.Rights.{every_right}
use Rattle.access_control.proofs.Lowest.{lowest_decides, none_decides}
use Rattle.lwm2m_payloads.specs.declared.given.Assignment.{Assignment}
use Rattle.device_instances.specs.Numbers.{instance_at, smallest_free}
use Rattle.device_instances.specs.Creations.{is_full, with_number, with_control, with_control_at, with_control_for}
use Rattle.device_instances.specs.Creations.{with_created}
use Rattle.device_instances.specs.Deletions.{instance_in, is_same}
use Rattle.device_instances.proofs.Instances.{added, not_added, has_free}
use Rattle.device_instances.proofs.Controls.{IsNew, not_same, one_place, control_instances, control_values}
use Rattle.device_instances.proofs.Controls.{control_only, old_is_not_new}
use Rattle.device_instances.proofs.Within.{here, kept, is_itself, written_within}

-- ---- what a Create leaves

module _ (s : Stored) (accounts server : ℕ) (resources : List ResourceDef) (place : InstancePath)
    (given : List Assignment) where
  abbrev before : Stored
  before = with_control_for s accounts server place

  abbrev new : Stored
  new = with_created s accounts server resources place given

  pub there : has_instance new place ≡ true
  there = ap (λ m. map.contains_key m place)
      (written_within resources place given (with_instance before place)).instances ∙ added before place

  instances_then : (p : InstancePath) → p ≢ place → map.get new.instances p ≡ map.get before.instances p
  instances_then p other =
      ap (λ m. map.get m p) (written_within resources place given (with_instance before place)).instances
      ∙ not_added before place p other

  pub values_then : (q : FullPath) → instance_in q ≢ place → value_at new q ≡ value_at before q
  values_then q other =
      (written_within resources place given (with_instance before place)).values q
      (not_same (instance_in q) place other)

  pub stays : (p : InstancePath) → has_instance s p ≡ true → p ≢ place → has_instance new p ≡ true
  stays p has other =
      ap is_some (instances_then p other ∙ control_instances s accounts server place p (old_is_not_new s p has)) ∙ has

  pub values_stay : (p : InstancePath) → has_instance s p ≡ true → p ≢ place → (q : FullPath) → instance_in q ≡ p
      → value_at new q ≡ value_at s q
  values_stay p has other q e =
      values_then q (λ k. other (sym e ∙ k)) ∙ control_values s accounts server place q
      (λ h. old_is_not_new s p has (subst (IsNew s) e h))

  pub none_else : (p : InstancePath) → has_instance new p ≡ true → (has_instance s p ≡ true) ⊎ ((p ≡ place) ⊎ IsNew s p)
  none_else p h =
      elim (is_same p place) as (λ b. is_same p place ≡ b → (has_instance s p ≡ true) ⊎ ((p ≡ place) ⊎ IsNew s p)) [
        | true ↦ λ e. inr (inl (one_place p place e))
        | false ↦ λ e.
            let other : p ≢ place = λ k. false≢true (sym e ∙ ap (λ o. is_same o place) k ∙ is_itself place) in
            elim (control_only s accounts server place p (sym (ap is_some (instances_then p other)) ∙ h))
            [ inl was ↦ inl was | inr is ↦ inr (inr is) ]
      ] refl

-- ---- the instance of object 2

at_once : (j r n : ℕ) → eqb r n ≡ false → single_of (control j r) ≢ single_of (control j n)
at_once j r n h e =
    let same : r ≡ n = ap (λ (q : FullPath). q.resource) e in
    false≢true (sym h ∙ eq-eqb r n same)

is_it : (n : ℕ) → is_integer n (integer_in (Some (Whole (pos n)))) ≡ true
is_it n = eq-eqb n n refl

module _ (s : Stored) (j server : ℕ) (place : InstancePath) where
  abbrev bare : Stored
  bare = without_values (with_instance s (instance_at 2 j)) (resource_path (control j 2))

  abbrev one : Stored
  one = with_number bare (control j 0) place.object

  abbrev two : Stored
  two = with_number one (control j 1) place.instance

  pub object_is : value_at (with_control s j server place) (single_of (control j 0)) ≡ Some (Whole (pos place.object))
  object_is =
      value_elsewhere two (single_of (control j 3)) (single_of (control j 0)) (Whole (pos server)) (at_once j 0 3 refl)
      ∙ value_elsewhere one (single_of (control j 1)) (single_of (control j 0)) (Whole (pos place.instance))
      (at_once j 0 1 refl)
      ∙ here bare 2 j 0 (Whole (pos place.object))

  pub instance_is : value_at (with_control s j server place) (single_of (control j 1))
      ≡ Some (Whole (pos place.instance))
  instance_is =
      value_elsewhere two (single_of (control j 3)) (single_of (control j 1)) (Whole (pos server)) (at_once j 1 3 refl)
      ∙ here one 2 j 1 (Whole (pos place.instance))

  pub owner_is : value_at (with_control s j server place) (single_of (control j 3)) ≡ Some (Whole (pos server))
  owner_is = here two 2 j 3 (Whole (pos server))

  other_part : (n r : ℕ) → part_of (control j 2) n ≢ single_of (control j r)
  other_part n r e = let none : Some n ≡ None = ap (λ (q : FullPath). q.part) e in cc

  in_list : (n : ℕ) → value_at bare (part_of (control j 2) n) ≡ None
  in_list n =
      kept (with_instance s (instance_at 2 j)) (resource_path (control j 2)) (part_of (control j 2) n)
      ∙ ap (λ b. cond (not (b && true)) (value_at s (part_of (control j 2) n)) None) (eq-eqb j j refl)

  pub no_entry : (n : ℕ) → value_at (with_control s j server place) (part_of (control j 2) n) ≡ None
  no_entry n =
      value_elsewhere two (single_of (control j 3)) (part_of (control j 2) n) (Whole (pos server)) (other_part n 3)
      ∙ value_elsewhere one (single_of (control j 1)) (part_of (control j 2) n) (Whole (pos place.instance))
      (other_part n 1)
      ∙ value_elsewhere bare (single_of (control j 0)) (part_of (control j 2) n) (Whole (pos place.object))
      (other_part n 0)
      ∙ in_list n

-- ---- the creator

two_accounts : (n : ℕ) → 2 ≤ n → nat_le 2 n ≡ true
two_accounts n h = grind (arith, nat_tests)

not_one : (n : ℕ) → 2 ≤ n → nat_le n 1 ≡ false
not_one n h = grind (arith, nat_tests)

not_two : (n : ℕ) → n ≢ 2 → eqb n 2 ≡ false
not_two n h = grind (arith, nat_tests)

pub speaks_alike : (s t : Stored) (k o i : ℕ)
    → ((q : FullPath) → instance_in q ≡ instance_at 2 k → value_at t q ≡ value_at s q)
    → speaks_of t k o i ≡ speaks_of s k o i
speaks_alike s t k o i h =
    ap (λ v. is_integer o (integer_in v) && names t k 1 i) (h (single_of (control k 0)) refl)
    ∙ ap (λ v. names s k 0 o && is_integer i (integer_in v)) (h (single_of (control k 1)) refl)

module _ (s : Stored) (accounts server : ℕ) (resources : List ResourceDef) (place : InstancePath)
    (given : List Assignment) (many : 2 ≤ accounts) (other : place.object ≢ 2) (j : ℕ)
    (free : smallest_free s 2 ≡ Some j) where
  abbrev made : Stored
  made = with_created s accounts server resources place given

  is_before : with_control_for s accounts server place ≡ with_control s j server place
  is_before =
      ap (λ b. cond b (with_control_at s server place (smallest_free s 2)) s) (two_accounts accounts many)
      ∙ ap (with_control_at s server place) free

  apart : (k : ℕ) → instance_at 2 k ≢ place
  apart k e = other (sym (ap (λ (p : InstancePath). p.object) e))

  value_is : (q : FullPath) → instance_in q ≡ instance_at 2 j
      → value_at made q ≡ value_at (with_control s j server place) q
  value_is q e = values_then s accounts server resources place given q (λ k. apart j (sym e ∙ k))
      ∙ ap (λ t. value_at t q) is_before

  speaks : speaks_of made j place.object place.instance ≡ true
  speaks = and_from _ _
      (ap (λ v. is_integer place.object (integer_in v))
      (value_is (single_of (control j 0)) refl ∙ object_is s j server place) ∙ is_it place.object)
      (ap (λ v. is_integer place.instance (integer_in v))
      (value_is (single_of (control j 1)) refl ∙ instance_is s j server place) ∙ is_it place.instance)

  is_there : has_instance made (instance_at 2 j) ≡ true
  is_there =
      ap is_some (instances_then s accounts server resources place given (instance_at 2 j) (apart j))
      ∙ ap (λ t. has_instance t (instance_at 2 j)) is_before ∙ added s (instance_at 2 j)

  silent : control_of s place.object place.instance ≡ None → (k : ℕ) → k < j
      → has_instance made (instance_at 2 k) ≡ true → speaks_of made k place.object place.instance ≡ false
  silent none k less h =
      elim (none_else s accounts server resources place given (instance_at 2 k) h) [
        | inl was ↦ speaks_alike s made k place.object place.instance
            (values_stay s accounts server resources place given (instance_at 2 k) was (apart k))
            ∙ (none_decides s place.object place.instance).0 none k was
        | inr more ↦ elim more [
          | inl same ↦ absurd (apart k same)
          | inr is ↦ let e : Some j ≡ Some k = sym free ∙ is.1 in let same : j ≡ k = cc in absurd (omega arith)
        ]
      ]

  is_found : control_of s place.object place.instance ≡ None → control_of made place.object place.instance ≡ Some j
  is_found none = (lowest_decides made place.object place.instance j).1
      (record { there = is_there; speaks = speaks; lowest = silent none })

  entry : entry_of made j server ≡ None
  entry = ap integer_in (value_is (part_of (control j 2) server) refl ∙ no_entry s j server place server)

  owner : owns made j server ≡ true
  owner = ap (λ v. is_integer server (integer_in v))
      (value_is (single_of (control j 3)) refl ∙ owner_is s j server place) ∙ is_it server

  every : control_of s place.object place.instance ≡ None
      → right_of made accounts server place.object place.instance ≡ every_right
  every none =
      ap (λ b. cond b every_right (cond (eqb place.object 2) (right_on_control made server place.instance)
      (right_by made server (control_of made place.object place.instance)))) (not_one accounts many)
      ∙ ap (λ b. cond b (right_on_control made server place.instance)
      (right_by made server (control_of made place.object place.instance))) (not_two place.object other)
      ∙ ap (right_by made server) (is_found none)
      ∙ ap (right_by_entry made j server) entry
      ∙ ap (λ b. cond b every_right (right_by_default (entry_of made j 0))) owner

pub creator : (s : Stored) (accounts server : ℕ) (resources : List ResourceDef) (place : InstancePath)
    (given : List Assignment) → 2 ≤ accounts → place.object ≢ 2 → is_full s 2 ≡ false
    → control_of s place.object place.instance ≡ None
    → right_of (with_created s accounts server resources place given) accounts server place.object
    place.instance ≡ every_right
creator s accounts server resources place given many other room none =
    let found = has_free s 2 room in
    every s accounts server resources place given many other found.0 found.1 none
