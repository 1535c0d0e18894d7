-- Sets of instances that differ elsewhere, and how many instances an object has.
use Rattle.std.proofs.Common.{◌≡◌, ◌≢◌, ℕ, ◌≤◌, true, false, cond, ◌||◌, nat_le, eqb, List, [], ◌∷◌, map, length}
use Rattle.std.proofs.Common.{Option, None, Some, refl, sym, ap, ◌∙◌, arith}
use Rattle.std.specs.Option.{is_some}
use Rattle.std.specs.List.{list_any}
use Rattle.std.specs.Ordering.{nat_cmp, eq_by_cmp}
use Rattle.std.specs.Cmp.{nat_cmp_total}
use Rattle.std.specs.FinMap as map
use Rattle.std.specs.FinMap.Entries.{same_entries, is_some-find}
use Rattle.std.proofs.lemmas.Bool.Decides.{nat_tests}
use Rattle.std.proofs.lemmas.Map.Lookups.{exact_unsigned}
use Rattle.std.proofs.lemmas.Map.Steps.{le-length_from_below}
use Rattle.lemmas.proofs.Orders.{is_equal}
use Rattle.object_defs.specs.declared.path.InstancePath.{InstancePath}
use Rattle.object_defs.specs.Path.{instance_cmp}
use Rattle.object_defs.proofs.PathOrder.{instance_total, instance_exact}
use Rattle.instance_store.specs.Stored.{Stored, has_instance, instances_of, with_instance}
use Rattle.instance_store.proofs.InstanceLaws.{under, keys_of-under, find-under, sorted-under}
use Rattle.device_instances.specs.Numbers.{instance_at, smallest_free}
use Rattle.device_instances.specs.Creations.{is_full}
use Rattle.device_instances.proofs.Found.{all_taken}

-- sets that have the same instances of an object list the same numbers of it
pub same_numbers : (s t : Stored) (o : ℕ)
    → ((n : ℕ) → map.get t.instances (instance_at o n) ≡ map.get s.instances (instance_at o n))
    → instances_of t o ≡ instances_of s o
same_numbers s t o h =
    keys_of-under o (map.entries t.instances)
    ∙ ap (map (λ e. e.0)) (same_entries nat_cmp nat_cmp_total exact_unsigned (under o (map.entries t.instances))
    (under o (map.entries s.instances))
    (sorted-under o (map.entries t.instances) (map.entries_sorted t.instances))
    (sorted-under o (map.entries s.instances) (map.entries_sorted s.instances))
    (λ n. find-under o (map.entries t.instances) n ∙ sym (map.get-entries t.instances (instance_at o n)) ∙ h n
    ∙ map.get-entries s.instances (instance_at o n) ∙ sym (find-under o (map.entries s.instances) n)))
    ∙ sym (keys_of-under o (map.entries s.instances))

-- instances that are not one do not compare alike
pub differs : (p q : InstancePath) → p ≢ q → eq_by_cmp instance_cmp p q ≡ false
differs p q other =
    elim (eq_by_cmp instance_cmp p q) as (λ b. eq_by_cmp instance_cmp p q ≡ b → b ≡ false) [
      | true ↦ λ h. absurd (other (instance_exact p q (is_equal _ h)))
      | false ↦ λ h. refl
    ] refl

pub same_place : (p q : InstancePath) → eq_by_cmp instance_cmp p q ≡ true → p ≡ q
same_place p q h = instance_exact p q (is_equal _ h)

pub itself : (p : InstancePath) → eq_by_cmp instance_cmp p p ≡ true
itself p = grind (arith, nat_tests)

-- with one more instance
pub behind_added : (s : Stored) (p q : InstancePath)
    → map.get (with_instance s p).instances q ≡ cond (eq_by_cmp instance_cmp q p) (Some tt) (map.get s.instances q)
behind_added s p q = map.get-insert instance_total s.instances p tt q

pub added : (s : Stored) (p : InstancePath) → has_instance (with_instance s p) p ≡ true
added s p = ap is_some (behind_added s p p ∙ ap (λ b. cond b (Some tt) (map.get s.instances p)) (itself p))

pub not_added : (s : Stored) (p q : InstancePath) → q ≢ p
    → map.get (with_instance s p).instances q ≡ map.get s.instances q
not_added s p q other = behind_added s p q ∙ ap (λ b. cond b (Some tt) (map.get s.instances q)) (differs q p other)

-- a number that is listed
same_test : (k n : ℕ) → eq_by_cmp nat_cmp k n ≡ eqb k n
same_test k n = grind (arith, nat_tests)

same_any : (k : ℕ) (ns : List ℕ) → list_any (eq_by_cmp nat_cmp k) ns ≡ list_any (eqb k) ns
same_any k [] = refl
same_any k (n ∷ ns) =
    ap (λ b. b || list_any (eq_by_cmp nat_cmp k) ns) (same_test k n) ∙ ap (λ b. eqb k n || b) (same_any k ns)

pub listed : (s : Stored) (o k : ℕ) → list_any (eqb k) (instances_of s o) ≡ has_instance s (instance_at o k)
listed s o k =
    ap (list_any (eqb k)) (keys_of-under o (map.entries s.instances))
    ∙ sym (same_any k (map (λ e. e.0) (under o (map.entries s.instances))))
    ∙ sym (is_some-find nat_cmp k (under o (map.entries s.instances)))
    ∙ ap is_some (find-under o (map.entries s.instances) k ∙ sym (map.get-entries s.instances (instance_at o k)))

too_many : (n : ℕ) → nat_le 64 n ≡ false → 65535 ≤ n → ⊥
too_many n h k = grind (arith, nat_tests)

found_one : (s : Stored) (o : ℕ) (r : Option ℕ) → smallest_free s o ≡ r → is_full s o ≡ false → (j : ℕ) × (r ≡ Some j)
found_one s o (Some j) h room = (j, refl)
found_one s o None h room =
    let many : 65535 ≤ length (instances_of s o) =
    le-length_from_below (instances_of s o) 65535 (λ q l. listed s o q ∙ all_taken s o h q l) in
    absurd (too_many (length (instances_of s o)) room many)

-- an object that isn't full has a free number
pub has_free : (s : Stored) (o : ℕ) → is_full s o ≡ false → (j : ℕ) × (smallest_free s o ≡ Some j)
has_free s o room = found_one s o (smallest_free s o) refl room
