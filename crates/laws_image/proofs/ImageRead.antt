-- The images are read.
use Rattle.std.proofs.Common.{◌≡◌, pos, List, [], ◌∷◌, length, None, Some, Ok, refl, sym, ap, subst, ◌∙◌}
use Rattle.std.specs.FinMap as finite
use Rattle.std.specs.Cmp.{IsTotalOrder}
use Rattle.std.specs.declared.cmp.Ordering.{Ordering}
use Rattle.std.proofs.Math.Dec.{T}
use Rattle.lwm2m_values.specs.declared.value.Value.{Value}
use Rattle.lwm2m_values.specs.declared.value.Value.TheVariants.{Whole}
use Rattle.object_defs.specs.Base.{base}
use Rattle.object_defs.specs.Path.{instance_cmp, path_cmp}
use Rattle.object_defs.proofs.PathOrder.{instance_total, path_total}
use Rattle.object_defs.specs.declared.path.FullPath.{FullPath}
use Rattle.object_defs.specs.declared.path.InstancePath.{InstancePath}
use Rattle.device_machine.specs.declared.event.Event.TheVariants.{Recv}
use Rattle.byte_layout.specs.Layout.{raw, number, each}
use Rattle.scenario_layout.specs.Value.{place, part_number, path, kind, value}
use Rattle.scenario_layout.specs.Class.{notify, notify_in, account, accounts, object_id, object, objects, instance}
use Rattle.scenario_layout.specs.Class.{instances, value_path, values, behind_instances, behind_objects}
use Rattle.scenario_layout.specs.Class.{behind_accounts, behind_notify, class}
use Rattle.scenario_layout.specs.Class as classes_of
use Rattle.scenario_image.specs.Image.{IsImageIn, classes, image, lists}
use Rattle.scenario_image.specs.Layout.{datagram, recv, tick, put, firmware, post, need, step, steps, row, rows}
use Rattle.scenario_image.specs.Layout as steps_of
use Rattle.scenario_image.specs.Scenario.{Scenario}
use Rattle.scenario_image.specs.declared.step.Step.TheVariants.{Event}
use Rattle.scenario_image.proofs.Imaged.{image_exact}
use Rattle.laws_image.specs.WorkedImage.{IsEmptyImage, IsWorkedImage, image_1, image_2, nothing, scenario}
use Rattle.laws_image.specs.WorkedImage as worked
use Rattle.laws_image.proofs.Bytes.{whole}

-- ---- what stands in the maps

abbrev one_instance : List (InstancePath × Unit {0})
one_instance = (record { object = 3; instance = 0 }, tt) ∷ []

abbrev one_value : List (FullPath × Value)
one_value = (record { object = 3; instance = 0; resource = 9; part = None }, Whole (pos 100)) ∷ []

no_instances : finite.entries (finite.from_sorted {X = Unit {0}} {R = instance_cmp} []) ≡ []
no_instances = finite.entries-from_sorted instance_cmp [] tt

no_values : finite.entries (finite.from_sorted {X = Value} {R = path_cmp} []) ≡ []
no_values = finite.entries-from_sorted path_cmp [] tt

not_there : (q : InstancePath) → finite.get (finite.from_sorted {X = Unit {0}} {R = instance_cmp} []) q ≡ None
not_there q = finite.get-from_sorted instance_cmp [] q tt

no_value : (q : FullPath) → finite.get (finite.from_sorted {X = Value} {R = path_cmp} []) q ≡ None
no_value q = finite.get-from_sorted path_cmp [] q tt

there : finite.get (finite.from_sorted {R = instance_cmp} one_instance) (record { object = 3; instance = 0 })
    ≡ Some (tt {0})
there = finite.get-from_sorted instance_cmp one_instance (record { object = 3; instance = 0 }) tt

count : finite.len (finite.from_sorted {X = Value} {R = path_cmp} []) ≡ 0
count = finite.len-entries (finite.from_sorted {X = Value} {R = path_cmp} []) ∙ ap length no_values

-- the scenario, with these values and instances
of_maps : finite.FinMap path_cmp Value → finite.FinMap instance_cmp (Unit {0}) → Scenario
of_maps held there =
    record {
      classes = record {
        accounts = 1 ∷ [];
        catalog = base;
        store = record { values = held; instances = there };
        notify = 0;
      } ∷ [];
      rows = record { class = 0; steps = Event (Recv 1 worked.datagram) ∷ [] } ∷ [];
    }

sorted_scenario : Scenario
sorted_scenario = of_maps (finite.from_sorted one_value) (finite.from_sorted one_instance)

read_1 : image.read image_1 ≡ Ok ((1, sorted_scenario), [])
unfolding sorted_scenario of_maps image lists classes class notify_in behind_notify accounts account behind_accounts
    objects object object_id behind_objects instances instance place behind_instances values classes_of.entry value_path
    path part_number value kind rows row steps step steps_of.kind recv datagram raw number each
read_1 = simp (no_instances, not_there, no_value, there, count) refl

read_2 : image.read image_2 ≡ Ok ((2, sorted_scenario), [])
unfolding sorted_scenario of_maps image lists classes class notify notify_in behind_notify accounts account
    behind_accounts objects object object_id behind_objects instances instance place behind_instances values
    classes_of.entry value_path path part_number value kind rows row steps step steps_of.kind recv datagram raw
    number each
read_2 = simp (no_instances, not_there, no_value, there, count) refl

-- ---- the same store, as it is built

sorted_empty : {K X : Type 0} (cmp : K → K → Ordering) → finite.from_sorted {X = X} {R = cmp} [] ≡ finite.empty
sorted_empty {K} {X} cmp =
    finite.empty_of_len (finite.from_sorted {X = X} {R = cmp} [])
    (finite.len-entries (finite.from_sorted {X = X} {R = cmp} []) ∙ ap length (finite.entries-from_sorted cmp [] tt))

no_entry : {K X : Type 0} (cmp : K → K → Ordering) → finite.entries (finite.empty {X = X} {R = cmp}) ≡ []
no_entry {K} {X} cmp = ap finite.entries (sym (sorted_empty {K = K} {X = X} cmp)) ∙ finite.entries-from_sorted cmp [] tt

-- an entry that is inserted into none
alone : {K X : Type 0} (cmp : K → K → Ordering) → IsTotalOrder cmp → (k : K) (x : X)
    → T (finite.is_sorted cmp ((k, x) ∷ []))
    → finite.from_sorted {R = cmp} ((k, x) ∷ []) ≡ finite.insert finite.empty k x
alone cmp total k x sorted =
    finite.same_entries_map (finite.from_sorted {R = cmp} ((k, x) ∷ [])) (finite.insert finite.empty k x)
    (finite.entries-from_sorted cmp ((k, x) ∷ []) sorted
    ∙ sym (finite.entries-insert total finite.empty k x ∙ ap (finite.put cmp k x) (no_entry cmp)))

as_built : sorted_scenario ≡ scenario
unfolding sorted_scenario of_maps
as_built =
    ap (λ m. of_maps m (finite.from_sorted one_instance))
    (alone path_cmp path_total (record { object = 3; instance = 0; resource = 9; part = None }) (Whole (pos 100)) tt)
    ∙ ap (of_maps (finite.insert finite.empty (record { object = 3; instance = 0; resource = 9; part = None })
    (Whole (pos 100)))) (alone instance_cmp instance_total (record { object = 3; instance = 0 }) tt tt)

pub spelled : IsWorkedImage
spelled = record {
  length_1 = refl;
  length_2 = refl;
  version_1 = subst (IsImageIn 1 image_1) as_built
      (whole image image_1 (1, sorted_scenario) image_exact refl read_1);
  version_2 = subst (IsImageIn 2 image_2) as_built
      (whole image image_2 (2, sorted_scenario) image_exact refl read_2);
}

read_none_1 : image.read (0x4C ∷ 0x57 ∷ 0x53 ∷ 0x43 ∷ 0x01 ∷ 0x00 ∷ 0x00 ∷ 0x00 ∷ 0x00 ∷ []) ≡ Ok ((1, nothing), [])
unfolding image lists classes rows raw number each
read_none_1 = refl

read_none_2 : image.read (0x4C ∷ 0x57 ∷ 0x53 ∷ 0x43 ∷ 0x02 ∷ 0x00 ∷ 0x00 ∷ 0x00 ∷ 0x00 ∷ []) ≡ Ok ((2, nothing), [])
unfolding image lists classes rows raw number each
read_none_2 = refl

pub spelled_empty : IsEmptyImage
spelled_empty = record {
  version_1 = whole image _ (1, nothing) image_exact refl read_none_1;
  version_2 = whole image _ (2, nothing) image_exact refl read_none_2;
}
