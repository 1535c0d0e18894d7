-- What a Create adds.
use Rattle.std.proofs.Common.{◌≡◌, ◌≢◌, ℕ, Bool, true, false, cond, not, List, Option, None, Some, length, nat_le, pos}
use Rattle.std.proofs.Common.{Result, Ok, Err, ok_or, refl, sym, ap, subst, ◌∙◌}
use Rattle.std.specs.Bool.{if◌then◌else◌}
use Rattle.std.specs.FinMap as map
use Rattle.std.specs.Option.{is_some}
use Rattle.std.specs.Result.{result_ok}
use Rattle.std.proofs.lemmas.Bool.{false≢true}
use Rattle.lemmas.proofs.Options.{some_if_denied}
use Rattle.object_defs.specs.Path.{part_of, single_of}
use Rattle.object_defs.specs.declared.definition.ResourceDef.{ResourceDef}
use Rattle.object_defs.specs.declared.path.FullPath.{FullPath}
use Rattle.object_defs.specs.declared.path.InstancePath.{InstancePath}
use Rattle.object_defs.specs.declared.path.Path.TheVariants.{Object, Instance, Resource}
use Rattle.instance_store.specs.Stored.{Stored, has_instance, lies_in, value_at, with_instance, with_value}
use Rattle.instance_store.specs.Stored.{without_values}
use Rattle.instance_store.proofs.SetValues.{value_elsewhere}
use Rattle.lwm2m_values.specs.declared.value.Value.{Value}
use Rattle.lwm2m_values.specs.declared.value.Value.TheVariants.{Whole}
use Rattle.lwm2m_payloads.specs.Given.{creation_given}
use Rattle.lwm2m_payloads.specs.Results.{result_map}
use Rattle.lwm2m_payloads.specs.Written.{EachOnce, value_behind}
use Rattle.lwm2m_payloads.specs.declared.fault.PayloadFault.{PayloadFault}
use Rattle.lwm2m_payloads.specs.declared.given.Assignment.{Assignment}
use Rattle.lwm2m_payloads.specs.declared.given.Creation.{Creation}
use Rattle.lwm2m_payloads.specs.declared.given.Mode.TheVariants.{Replace}
use Rattle.lwm2m_payloads.proofs.EachOnce.{creation_once}
use Rattle.lwm2m_payloads.proofs.Written.{at_written}
use Rattle.device_instances.specs.Creations.{with_control, with_control_at, with_control_for, with_created}
use Rattle.device_instances.specs.Deletions.{instance_in}
use Rattle.device_instances.specs.Numbers.{instance_at, number_for, smallest_free}
use Rattle.device_instances.proofs.Controls.{control_within, not_same, one_place}
use Rattle.device_instances.proofs.Instances.{added, not_added}
use Rattle.device_instances.proofs.Rights.{instance_is, no_entry, object_is, owner_is}
use Rattle.device_instances.proofs.Within.{kept, written_within}
use Rattle.device_requests.specs.Answer.{Outcome}
use Rattle.device_requests.specs.Client.{Client}
use Rattle.device_requests.specs.declared.create.Newborn.{Newborn}
use Rattle.device_requests.specs.declared.ruling.Ruling.{Ruling}
use Rattle.device_requests.specs.Create.{create_unless, newborn, newborn_from, number_fault}
use Rattle.device_requests.specs.Laws.{is_refusal}
use Rattle.device_requests.specs.Refusals.{is_fixed, refusals_of, to_create}
use Rattle.device_requests.specs.Targets.{place_of, resource_place, resources_defined}
use Rattle.laws_requests.specs.Creations.{CreatesAdd, IsControlOf, IsCreated, IsSame}
use Rattle.laws_requests.proofs.Asking.{chosen, fails, passes}

-- ---- the instance of Access Control

-- another instance beside a new one of Access Control, if there is one
record IsBeside (s t : Stored) (p : InstancePath) : Type 0 where
  there : map.get t.instances p ≡ map.get s.instances p
  values : (q : FullPath) → instance_in q ≡ p → value_at t q ≡ value_at s q

beside : (s : Stored) (b : Bool) (r : Option ℕ) (server : ℕ) (place p : InstancePath)
    → (p.object ≡ 2 → (if b then r else None) ≢ Some p.instance)
    → IsBeside s (if b then with_control_at s server place r else s) p
beside s false r server place p other = record { there = refl; values = λ q e. refl }
beside s true None server place p other = record { there = refl; values = λ q e. refl }
beside s true (Some j) server place p other =
    let apart : p ≢ instance_at 2 j = λ e. other (ap (λ (q : InstancePath). q.object) e)
    (ap (λ (q : InstancePath). Some q.instance) (sym e)) in
    record {
      there = not_added s (instance_at 2 j) p apart;
      values = λ q e. (control_within s j server place).values q
          (not_same (instance_in q) (instance_at 2 j) (λ k. apart (sym e ∙ k)));
    }

controlled : (s : Stored) (b : Bool) (r : Option ℕ) (server : ℕ) (place : InstancePath) (j : ℕ)
    → (if b then r else None) ≡ Some j
    → (if b then with_control_at s server place r else s) ≡ with_control s j server place
controlled s false r server place j h = cc
controlled s true None server place j h = cc
controlled s true (Some k) server place j h = ap (λ (x : Option ℕ). with_control_at s server place x) h

nothing_or : (b : Bool) (v : Option Value) → cond (not b) v None ≡ (if b then None else v)
nothing_or true v = refl
nothing_or false v = refl

-- what is in an instance of Access Control beside what a Create sets
control_rest : (s : Stored) (j server : ℕ) (place : InstancePath) (q : FullPath)
    → q ≢ single_of (resource_place 2 j 0) → q ≢ single_of (resource_place 2 j 1)
    → q ≢ single_of (resource_place 2 j 3)
    → value_at (with_control s j server place) q ≡ (if lies_in (Resource 2 j 2) q then None else value_at s q)
control_rest s j server place q not0 not1 not3 =
    let there = with_instance s (instance_at 2 j) in
    let bare = without_values there (Resource 2 j 2) in
    let one = with_value bare (single_of (resource_place 2 j 0)) (Whole (pos place.object)) in
    let two = with_value one (single_of (resource_place 2 j 1)) (Whole (pos place.instance)) in
    value_elsewhere two (single_of (resource_place 2 j 3)) q (Whole (pos server)) not3
    ∙ value_elsewhere one (single_of (resource_place 2 j 1)) q (Whole (pos place.instance)) not1
    ∙ value_elsewhere bare (single_of (resource_place 2 j 0)) q (Whole (pos place.object)) not0
    ∙ kept there (Resource 2 j 2) q
    ∙ nothing_or (lies_in (Resource 2 j 2) q) (value_at s q)

-- ---- the new instance

module _ (s : Stored) (accounts server : ℕ) (resources : List ResourceDef) (place : InstancePath)
    (given : List Assignment) (other : place.object ≢ 2) where
  abbrev before : Stored
  before = with_control_for s accounts server place

  abbrev new : Stored
  new = with_created s accounts server resources place given

  abbrev control : Option ℕ
  control = if nat_le 2 accounts then smallest_free s 2 else None

  is_there : has_instance new place ≡ true
  is_there =
      ap (λ m. map.contains_key m place)
      (written_within resources place given (with_instance before place)).instances ∙ added before place

  same_beside : (p : InstancePath) → p ≢ place → IsBeside before new p
  same_beside p apart = record {
    there = ap (λ m. map.get m p) (written_within resources place given (with_instance before place)).instances
        ∙ not_added before place p apart;
    values = λ q e. (written_within resources place given (with_instance before place)).values q
        (not_same (instance_in q) place (λ k. apart (sym e ∙ k)));
  }

  stays : (p : InstancePath) → p ≢ place → (p.object ≡ 2 → control ≢ Some p.instance) → IsSame s new p
  stays p apart free =
      let a = same_beside p apart in
      let b = beside s (nat_le 2 accounts) (smallest_free s 2) server place p free in
      record { there = ap is_some (a.there ∙ b.there); values = λ q e. a.values q e ∙ b.values q e }

  holds : EachOnce given → (q : FullPath) → lies_in (Instance place.object place.instance) q ≡ true
      → value_at new q ≡ value_behind Replace resources given q (value_at s q)
  holds once q lies =
      at_written Replace resources (with_instance before place) place given q once
      ∙ chosen (lies_in (Instance place.object place.instance) q) true
      (value_behind Replace resources given q (value_at before q)) (value_at before q) lies
      ∙ ap (value_behind Replace resources given q)
      ((beside s (nat_le 2 accounts) (smallest_free s 2) server place place (λ e. absurd (other e))).values q
      (one_place (instance_in q) place lies))

  has_control : (j : ℕ) → control ≡ Some j → IsControlOf s new j place server
  has_control j h =
      let is = controlled s (nat_le 2 accounts) (smallest_free s 2) server place j h in
      let apart : instance_at 2 j ≢ place = λ e. other (sym (ap (λ (p : InstancePath). p.object) e)) in
      let beyond = same_beside (instance_at 2 j) apart in
      let at = λ (q : FullPath) (e : instance_in q ≡ instance_at 2 j). beyond.values q e
      ∙ ap (λ (t : Stored). value_at t q) is in
      record {
        there = ap is_some (beyond.there) ∙ ap (λ (t : Stored). has_instance t (instance_at 2 j)) is
            ∙ added s (instance_at 2 j);
        object = at (single_of (record { object = 2; instance = j; resource = 0 })) refl ∙ object_is s j server place;
        instance = at (single_of (record { object = 2; instance = j; resource = 1 })) refl
            ∙ instance_is s j server place;
        owner = at (single_of (record { object = 2; instance = j; resource = 3 })) refl ∙ owner_is s j server place;
        no_entry = λ n. at (part_of (record { object = 2; instance = j; resource = 2 }) n) refl
            ∙ no_entry s j server place n;
        others = λ q e not0 not1 not3. at q e ∙ control_rest s j server place q not0 not1 not3;
      }

-- ---- the request

born_at : (s : Stored) (o : ℕ) (x : Creation) (r : Option ℕ) (b : Newborn)
    → result_ok (result_map (λ (n : ℕ). record { number = n; given = x.assigned }) (ok_or r (number_fault x.number)))
    ≡ Some b → x.assigned ≡ b.given
born_at s o x None b h = cc
born_at s o x (Some n) b h =
    let one : record { number = n; given = x.assigned } ≡ b = cc in ap (λ (y : Newborn). y.given) one

born_once : (s : Stored) (o : ℕ) (c : Result Creation PayloadFault) (b : Newborn)
    → ((x : Creation) → c ≡ Ok x → EachOnce x.assigned) → result_ok (newborn_from s o c) ≡ Some b → EachOnce b.given
born_once s o (Err e) b once h = cc
born_once s o (Ok x) b once h = subst EachOnce (born_at s o x (number_for s o x.number) b h) (once x refl)

made : (client : Client) (server o : ℕ) (payload : List ℕ) (b : Newborn) → newborn client o payload ≡ Some b
    → is_fixed o ≡ false → IsCreated client server o payload (create_unless None client server o (Some b))
made client server o payload b gives free =
    let resources = resources_defined client.catalog o in
    let n = length client.accounts in
    let place = place_of o b.number in
    let other : place.object ≢ 2 = λ e. false≢true (sym free ∙ ap is_fixed e) in
    let once = born_once client.store o (creation_given resources payload) b
    (λ x is. creation_once resources payload x is) gives in
    record {
      born = b;
      gives = gives;
      location = refl;
      there = is_there client.store n server resources place b.given other;
      inside = holds client.store n server resources place b.given other once;
      control = has_control client.store n server resources place b.given other;
      others = stays client.store n server resources place b.given other;
    }

pub creates_add : CreatesAdd
creates_add client server o number payload h =
    let new = newborn client o payload in
    let rules = refusals_of client server (Object o) (to_create number payload) in
    let none = passes rules (refl, (refl, (refl, (refl, (refl, (refl, (refl, (refl, tt))))))))
    (λ (ruling : Option Ruling). create_unless ruling client server o new) (λ c. refl) (ap is_refusal h) in
    let all = fails rules none in
    let b = some_if_denied new all.1.1.1.1.1.0 in
    subst (λ (out : Outcome). IsCreated client server o payload out)
    (sym (ap (λ (ruling : Option Ruling). create_unless ruling client server o new) none
    ∙ ap (λ (x : Option Newborn). create_unless None client server o x) b.1))
    (made client server o payload b.0 b.1 all.1.1.1.0)
