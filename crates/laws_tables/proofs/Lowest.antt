-- The first of an object's instances, in ascending order, that passes a test is the lowest that does.
use Rattle.std.proofs.Common.{◌≡◌, ℕ, ◌<◌, Bool, true, false, map, None, Some, sym, ap, ◌∙◌}
use Rattle.std.proofs.Math.Dec.{T}
use Rattle.std.specs.Option.{is_some}
use Rattle.std.specs.List.{find as first_that}
use Rattle.std.specs.Ordering.{nat_cmp}
use Rattle.std.specs.FinMap as map
use Rattle.std.specs.FinMap.{find, is_sorted}
use Rattle.instance_store.specs.Stored.{Stored, has_instance, instances_of}
use Rattle.instance_store.proofs.InstanceLaws.{under, keys_of-under, find-under, sorted-under, place}
use Rattle.access_control.proofs.Lowest.{Numbers, found, missed}

-- the instances of an object, by their numbers
numbers : Stored → ℕ → Numbers
numbers stored object = under object (map.entries stored.instances)

numbers_are : (stored : Stored) (object : ℕ) → instances_of stored object ≡ map (λ x. x.0) (numbers stored object)
unfolding numbers
numbers_are stored object = keys_of-under object (map.entries stored.instances)

has_is : (stored : Stored) (object k : ℕ) → is_some (find nat_cmp k (numbers stored object))
    ≡ has_instance stored (place object k)
unfolding numbers
has_is stored object k =
    ap is_some (find-under object (map.entries stored.instances) k
    ∙ sym (map.get-entries stored.instances (place object k)))

sorted_are : (stored : Stored) (object : ℕ) → T (is_sorted nat_cmp (numbers stored object))
unfolding numbers
sorted_are stored object =
    sorted-under object (map.entries stored.instances) (map.entries_sorted stored.instances)

-- an instance of an object is there and passes, and no lower one does
pub record IsFirst (stored : Stored) (object : ℕ) (test : ℕ → Bool) (j : ℕ) : Type 0 where
  pub there : has_instance stored (place object j) ≡ true
  pub passes : test j ≡ true
  pub lowest : (k : ℕ) → k < j → has_instance stored (place object k) ≡ true → test k ≡ false

pub first_is : (stored : Stored) (object : ℕ) (test : ℕ → Bool) (j : ℕ)
    → first_that test (instances_of stored object) ≡ Some j → IsFirst stored object test j
first_is stored object test j h =
    let low = found test (numbers stored object) j (sorted_are stored object)
    (sym (ap (first_that test) (numbers_are stored object)) ∙ h) in
    record {
      there = sym (has_is stored object j) ∙ low.there;
      passes = low.passes;
      lowest = λ k l has. low.lowest k l (has_is stored object k ∙ has);
    }

pub none_is : (stored : Stored) (object : ℕ) (test : ℕ → Bool)
    → first_that test (instances_of stored object) ≡ None → (k : ℕ) → has_instance stored (place object k) ≡ true
    → test k ≡ false
none_is stored object test h k has =
    missed test (numbers stored object) (sym (ap (first_that test) (numbers_are stored object)) ∙ h) k
    (has_is stored object k ∙ has)
