-- What a Delete takes.
use Rattle.std.proofs.Common.{◌≡◌, ℕ, Bool, true, false, cond, not, ◌&&◌, ◌||◌, eqb, List, [], ◌∷◌, Option, None, Some}
use Rattle.std.proofs.Common.{◌==◌, ℤ, refl, sym, ap, subst, ◌∙◌, filter}
use Rattle.std.specs.Bool.{if◌then◌else◌}
use Rattle.std.specs.FinMap as map
use Rattle.std.specs.List.{list_any}
use Rattle.std.specs.Option.{is_some}
use Rattle.std.proofs.lemmas.Bool.{eqb-true}
use Rattle.std.proofs.Math.Bool.{and-false}
use Rattle.object_defs.proofs.MapLaws.{get_kept}
use Rattle.object_defs.proofs.PathOrder.{instance_exact, instance_total, path_exact, path_total}
use Rattle.object_defs.specs.declared.path.FullPath.{FullPath}
use Rattle.object_defs.specs.declared.path.InstancePath.{InstancePath}
use Rattle.object_defs.specs.declared.path.Path.{Path}
use Rattle.object_defs.specs.declared.path.Path.TheVariants.{Instance}
use Rattle.instance_store.specs.Stored.{Stored, has_instance, instances_of, value_at}
use Rattle.access_control.specs.Rights.{speaks_of}
use Rattle.notifier.specs.declared.attribute.AttributeKey.{AttributeKey}
use Rattle.notifier.specs.Attributes.{Numbers, has_number, lies_under, without_under}
use Rattle.notifier.proofs.Keys.{key_exact, key_total}
use Rattle.device_instances.specs.Deletions.{instance_in, goes_with, without_deleted}
use Rattle.device_instances.proofs.Instances.{listed}
use Rattle.device_requests.specs.declared.ruling.Ruling.{Ruling}
use Rattle.device_requests.specs.Client.{Client}
use Rattle.device_requests.specs.Delete.{attributes_after_delete, delete_unless, taken_away, without_controls}
use Rattle.device_requests.specs.Laws.{is_refusal}
use Rattle.device_requests.specs.Refusals.{refusals_of, to_delete}
use Rattle.device_requests.specs.Targets.{place_of}
use Rattle.laws_requests.specs.Deletions.{DeletesTake, TakesAway, goes_at}
use Rattle.laws_requests.proofs.Asking.{passes}

turned : {X : Type 0} (b : Bool) (x : Option X) → cond (not b) x None ≡ (if b then None else x)
turned true x = refl
turned false x = refl

value_left : (s : Stored) (place : InstancePath) (q : FullPath)
    → value_at (without_deleted s place) q ≡ (if goes_with s place (instance_in q) then None else value_at s q)
value_left s place q =
    get_kept path_total path_exact s.values (λ (k : FullPath). not (goes_with s place (instance_in k))) q
    ∙ turned (goes_with s place (instance_in q)) (value_at s q)

is_left : {X : Type 0} (b : Bool) (x : Option X) → is_some (cond (not b) x None) ≡ (not b && is_some x)
is_left true x = refl
is_left false x = refl

instance_left : (s : Stored) (place p : InstancePath)
    → has_instance (without_deleted s place) p ≡ (not (goes_with s place p) && has_instance s p)
instance_left s place p =
    ap is_some (get_kept instance_total instance_exact s.instances (λ (k : InstancePath). not (goes_with s place k)) p)
    ∙ is_left (goes_with s place p) (map.get s.instances p)

-- ---- attributes

get_without : (m : Numbers) (path : Path) (k : AttributeKey)
    → map.get (without_under m path) k ≡ cond (not (lies_under path k)) (map.get m k) None
get_without m path k = get_kept key_total key_exact m (λ (j : AttributeKey). not (lies_under path j)) k

twice : {X : Type 0} (a b : Bool) (x : Option X)
    → cond (not b) (cond (not a) x None) None ≡ cond (not (a || b)) x None
twice true true x = refl
twice true false x = refl
twice false true x = refl
twice false false x = refl

get_controls : (m : Numbers) (js : List ℕ) (k : AttributeKey)
    → map.get (without_controls m js) k
    ≡ cond (not (list_any (λ (j : ℕ). lies_under (Instance 2 j) k) js)) (map.get m k) None
get_controls m [] k = refl
get_controls m (j ∷ js) k =
    let rest = list_any (λ (i : ℕ). lies_under (Instance 2 i) k) js in
    get_controls (without_under m (Instance 2 j)) js k
    ∙ (ap (λ (x : Option ℤ). cond (not rest) x None) (get_without m (Instance 2 j) k)
    ∙ twice (lies_under (Instance 2 j) k) rest (map.get m k))

-- a key of an object lies below no instance
none_under : (o : ℕ) (js : List ℕ) → list_any (λ (j : ℕ). o == 2 && false) js ≡ false
none_under o [] = refl
none_under o (j ∷ js) =
    ap (λ (b : Bool). b || list_any (λ (i : ℕ). o == 2 && false) js) (and-false (o == 2)) ∙ none_under o js

never : (a b : Bool) → false ≡ (a && (b && false))
never true true = refl
never true false = refl
never false b = refl

any_front : (f : ℕ → Bool) (b : Bool) (j : ℕ) (js : List ℕ)
    → list_any f (cond b (j ∷ js) js) ≡ ((b && f j) || list_any f js)
any_front f true j js = refl
any_front f false j js = refl

joined : (a b c e r : Bool) → (e ≡ true → b ≡ c)
    → ((b && (a && e)) || (a && (c && r))) ≡ (a && (c && (e || r)))
joined false true c e r h = refl
joined false false c e r h = refl
joined true true c false r h = refl
joined true false c false r h = refl
joined true true true true r h = refl
joined true true false true r h = let k : true ≡ false = h refl in cc
joined true false true true r h = let k : false ≡ true = h refl in cc
joined true false false true r h = refl

-- a key of an instance lies below one that is listed and passes a test
some_under : (o n : ℕ) (p : ℕ → Bool) (js : List ℕ)
    → list_any (λ (j : ℕ). o == 2 && n == j) (filter p js) ≡ (o == 2 && (p n && list_any (eqb n) js))
some_under o n p [] = never (o == 2) (p n)
some_under o n p (j ∷ js) =
    any_front (λ (i : ℕ). o == 2 && n == i) (p j) j (filter p js)
    ∙ ap (λ (b : Bool). (p j && (o == 2 && n == j)) || b) (some_under o n p js)
    ∙ joined (o == 2) (p j) (p n) (n == j) (list_any (eqb n) js) (λ h. ap p (sym (eqb-true n j h)))

settled : (a h s : Bool) → (a || (not (not (a || (h && s)) && h) && h)) ≡ (a || (h && s))
settled true h s = refl
settled false true true = refl
settled false true false = refl
settled false false s = refl

-- an instance of Access Control that was there and goes
control_goes : (s : Stored) (o i object n : ℕ)
    → ((object == o && n == i) || (object == 2
    && (not (has_instance (without_deleted s (place_of o i)) (place_of 2 n)) && has_instance s (place_of 2 n))))
    ≡ goes_with s (place_of o i) (place_of object n)
control_goes s o i object n =
    let went = not (has_instance (without_deleted s (place_of o i)) (place_of 2 n)) in
    elim (object == 2) as (λ b. (object == 2) ≡ b
    → ((object == o && n == i) || (b && (went && has_instance s (place_of 2 n))))
    ≡ ((object == o && n == i) || (b && (has_instance s (place_of object n) && speaks_of s n o i)))) [
      | false ↦ λ e. refl
      | true ↦ λ e. subst (λ (x : ℕ). ((x == o && n == i) || (went && has_instance s (place_of 2 n)))
          ≡ ((x == o && n == i) || (has_instance s (place_of x n) && speaks_of s n o i)))
          (sym (eqb-true object 2 e))
          (ap (λ (b : Bool). (2 == o && n == i) || (not b && has_instance s (place_of 2 n)))
          (instance_left s (place_of o i) (place_of 2 n))
          ∙ settled (2 == o && n == i) (has_instance s (place_of 2 n)) (speaks_of s n o i))
    ] refl

goes_by : (s : Stored) (o i object : ℕ) (instance : Option ℕ)
    → ((object == o && has_number i instance) || list_any (λ (j : ℕ). object == 2 && has_number j instance)
    (taken_away s (without_deleted s (place_of o i))))
    ≡ goes_at s (place_of o i) object instance
goes_by s o i object None =
    let js = taken_away s (without_deleted s (place_of o i)) in
    ap (λ (b : Bool). b || list_any (λ (j : ℕ). object == 2 && false) js) (and-false (object == o))
    ∙ none_under object js
goes_by s o i object (Some n) =
    let went = λ (j : ℕ). not (has_instance (without_deleted s (place_of o i)) (place_of 2 j)) in
    ap (λ (b : Bool). (object == o && n == i) || b) (some_under object n went (instances_of s 2)
    ∙ ap (λ (b : Bool). object == 2 && (went n && b)) (listed s 2 n))
    ∙ control_goes s o i object n

attribute_left : (client : Client) (o i : ℕ) (k : AttributeKey)
    → map.get (attributes_after_delete client (Instance o i)) k
    ≡ (if goes_at client.store (place_of o i) k.object k.instance then None else map.get client.attributes k)
attribute_left client o i k =
    let js = taken_away client.store (without_deleted client.store (place_of o i)) in
    let rest = list_any (λ (j : ℕ). lies_under (Instance 2 j) k) js in
    get_controls (without_under client.attributes (Instance o i)) js k
    ∙ ap (λ (x : Option ℤ). cond (not rest) x None) (get_without client.attributes (Instance o i) k)
    ∙ twice (lies_under (Instance o i) k) rest (map.get client.attributes k)
    ∙ ap (λ (b : Bool). cond (not b) (map.get client.attributes k) None) (goes_by client.store o i k.object k.instance)
    ∙ turned (goes_at client.store (place_of o i) k.object k.instance) (map.get client.attributes k)

taken : (client : Client) (o i : ℕ) → TakesAway client (delete_unless None client (Instance o i)).client (place_of o i)
taken client o i =
    record {
      instances = instance_left client.store (place_of o i);
      values = value_left client.store (place_of o i);
      attributes = attribute_left client o i;
    }

pub deletes_take : DeletesTake
deletes_take client server o i h =
    subst (λ (ruling : Option Ruling). TakesAway client (delete_unless ruling client (Instance o i)).client
    (place_of o i))
    (sym (passes (refusals_of client server (Instance o i) to_delete)
    (refl, (refl, (refl, (refl, (refl, (refl, (refl, (refl, tt))))))))
    (λ (ruling : Option Ruling). delete_unless ruling client (Instance o i)) (λ c. refl) (ap is_refusal h)))
    (taken client o i)
