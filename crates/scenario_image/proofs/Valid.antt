-- A scenario stays valid with a class, a row or a step more.
use Rattle.std.proofs.Common.{◌≡◌, ℕ, zero, suc, ◌-◌, ◌≤◌, nat_le, Bool, true, false, not, List, [], ◌∷◌, ◌++◌}
use Rattle.std.proofs.Common.{length, Option, None, Some, slice_get, slice_set, if◌then◌else◌, refl, sym, ap, subst}
use Rattle.std.proofs.Common.{◌∙◌, arith, length-append}
use Rattle.std.proofs.lemmas.Bool.{leb-false, not-false}
use Rattle.std.specs.List.{AllByRecursion}
use Rattle.std.proofs.lemmas.List.{length-set}
use Rattle.lemmas.proofs.Lists.{item_at, each_pushed, each_weaker, each_at}
use Rattle.device_template.specs.Template.{Template}
use Rattle.scenario_image.specs.declared.step.Step.{Step}
use Rattle.scenario_image.specs.declared.fault.ScenarioFault.{ScenarioFault}
use Rattle.scenario_image.specs.declared.fault.ScenarioFault.TheVariants as faults
use Rattle.scenario_image.specs.Scenario.{Row, Scenario, HasFields, IsGoodStep, IsGoodRow, IsValid, is_in_range}
use Rattle.scenario_image.specs.Scenario.{is_within_limits, is_known, class_fault, row_fault, last_row, with_last_step}
use Rattle.scenario_image.specs.Scenario.{with_last, accounts_in, accounts_of, fault_in, step_fault, most_rows}
use Rattle.scenario_image.specs.Scenario.{most_steps}

abbrev pub made : List Template → List Row → Scenario
made classes rows = record { classes = classes; rows = rows }

-- ---- lists

all_set : {X : Type 0} (P : X → Type 0) (xs : List X) (i : ℕ) (x : X) → AllByRecursion P xs → P x
    → AllByRecursion P (slice_set xs i x)
all_set P [] i x all one = tt
all_set P (y ∷ ys) zero x all one = (one, all.1)
all_set P (y ∷ ys) (suc i) x all one = (all.0, all_set P ys i x all.1 one)

get_push : {X : Type 0} (xs : List X) (i : ℕ) (x y : X) → slice_get xs i ≡ Some x → slice_get (xs ++ y ∷ []) i ≡ Some x
get_push [] i x y h = let e : None ≡ Some x = h in absurd cc
get_push (z ∷ xs) zero x y h = h
get_push (z ∷ xs) (suc i) x y h = get_push xs i x y h

-- ---- refusals

-- where no line applies, the first doesn't
free : (b : Bool) (f : ScenarioFault) (rest : Option ScenarioFault) → (if b then Some f else rest) ≡ None → (b ≡ false)
    × (rest ≡ None)
free true f rest h = let e : Some f ≡ None = h in absurd cc
free false f rest h = (refl, h)

-- ---- a class more

wider : (classes : List Template) (class : Template) (row : Row) → IsGoodRow classes row
    → IsGoodRow (classes ++ class ∷ []) row
wider classes class row good =
    record {
      class = good.class;
      stated = get_push classes row.class good.class class good.stated;
      count =
          good.count;
      each = good.each;
    }

pub by_class : (classes new : List Template) (rows : List Row) (s : Scenario) (class : Template)
    → IsValid (made classes rows) → made classes rows ≡ s
    → class_fault s ≡ None → new ≡ classes ++ class ∷ [] → IsValid (made new rows)
by_class classes new rows s class valid same ok more =
    let room = leb-false 256 (length classes)
    (free (nat_le 256 (length classes)) faults.Limit None (ap class_fault same ∙ ok)).0 in
    subst (λ x. IsValid (made x rows)) (sym more) (record {
      classes = omega (arith, room, length-append classes (class ∷ []));
      rows = valid.rows;
      each = each_weaker (IsGoodRow classes) (IsGoodRow (classes ++ class ∷ [])) (wider classes class) rows valid.each;
    })

-- ---- a row more

pub by_row : (classes : List Template) (rows new : List Row) (s : Scenario) (class : ℕ) → IsValid (made classes rows)
    → made classes rows ≡ s
    → row_fault s class ≡ None → new ≡ rows ++ record { class = class; steps = [] } ∷ [] → IsValid (made classes new)
by_row classes rows new s class valid same ok more =
    let first = free (nat_le (length classes) class) faults.Missing
    (if nat_le most_rows (length rows) then Some faults.Limit else None) (ap (λ x. row_fault x class) same ∙ ok) in
    let room = leb-false most_rows (length rows) (free (nat_le most_rows (length rows)) faults.Limit None first.1).0 in
    let found = item_at classes class (leb-false (length classes) class first.0) in
    subst (λ x. IsValid (made classes x)) (sym more) (record {
      classes = valid.classes;
      rows = omega (arith, room, length-append rows (record { class = class; steps = [] } ∷ []));
      each = each_pushed (IsGoodRow classes) rows (record { class = class; steps = [] }) valid.each
          (record { class = found.0; stated = found.1; count = omega arith; each = tt });
    })

-- ---- a step more

longer_row : (classes : List Template) (row : Row) (step : Step) → IsGoodRow classes row → HasFields step
    → is_in_range step ≡ true → fault_in classes (Some row) step ≡ None
    → IsGoodRow classes (with_last_step row step)
longer_row classes row step good fields range ok =
    let known = is_known (accounts_of classes row.class) step in
    let count = nat_le most_steps (length row.steps) in
    let within = is_within_limits step in
    let first = free (not known) faults.Missing
    (if count then Some faults.Limit else (if not within then Some faults.Limit else None)) ok in
    let second = free count faults.Limit (if not within then Some faults.Limit else None) first.1 in
    let third = free (not within) faults.Limit None second.1 in
    record {
      class = good.class;
      stated = good.stated;
      count = omega (arith, leb-false most_steps (length row.steps) second.0, length-append row.steps (step ∷ []));
      each = each_pushed (IsGoodStep good.class.accounts) row.steps step good.each
          (record {
            fields = fields;
            range = range;
            known = ap (λ c. is_known (accounts_in c) step) (sym good.stated) ∙ not-false known first.0;
            within = not-false within third.0;
          });
    }

stepped : (classes : List Template) (rows : List Row) (last : Option Row) (step : Step) → IsValid (made classes rows)
    → last_row rows ≡ last
    → HasFields step → is_in_range step ≡ true → fault_in classes last step ≡ None
    → IsValid (made classes (with_last rows last step))
stepped classes rows None step valid at fields range ok = valid
stepped classes rows (Some row) step valid at fields range ok =
    record {
      classes = valid.classes;
      rows = subst (λ n. n ≤ most_rows) (sym (length-set rows (length rows - 1) (with_last_step row step))) valid.rows;
      each = all_set (IsGoodRow classes) rows (length rows - 1) (with_last_step row step) valid.each
          (longer_row classes row step (each_at (IsGoodRow classes) rows (length rows - 1) row valid.each at) fields
          range ok);
    }

pub by_step : (classes : List Template) (rows new : List Row) (s : Scenario) (step : Step) → IsValid (made classes rows)
    → made classes rows ≡ s
    → step_fault s step ≡ None → HasFields step → new ≡ with_last rows (last_row rows) step → IsValid (made classes new)
by_step classes rows new s step valid same ok fields more =
    let first = free (not (is_in_range step)) faults.Range (fault_in classes (last_row rows) step)
    (ap (λ x. step_fault x step) same ∙ ok) in
    subst (λ x. IsValid (made classes x)) (sym more)
    (stepped classes rows (last_row rows) step valid refl fields (not-false (is_in_range step) first.0) first.1)
