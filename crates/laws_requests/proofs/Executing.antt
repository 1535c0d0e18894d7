-- What an Execute changes.
use Rattle.std.proofs.Common.{◌≡◌, ◌≢◌, ℕ, Bool, true, false, cond, not, List, Option, None, Some, pos, refl, sym, ap}
use Rattle.std.proofs.Common.{◌==◌, negsuc, subst, ◌∙◌, arith}
use Rattle.std.specs.Bool.{if◌then◌else◌}
use Rattle.std.specs.Cmp.{eq_by_cmp_equiv}
use Rattle.std.specs.Option.{is_some, option_map, unwrap_or}
use Rattle.std.specs.Ordering.{eq_by_cmp}
use Rattle.lwm2m_values.specs.declared.value.Value.{Value}
use Rattle.std.proofs.lemmas.Bool.{eqb-true}
use Rattle.std.proofs.lemmas.Bool.Decides.{nat_tests}
use Rattle.lemmas.proofs.Orders.{is_equal}
use Rattle.lwm2m_values.specs.declared.value.Value.TheVariants.{Text, Whole, Flag, Opaque, Moment, Link}
use Rattle.object_defs.specs.Path.{part_of, path_cmp, single_of}
use Rattle.object_defs.specs.declared.path.FullPath.{FullPath}
use Rattle.object_defs.specs.declared.path.Path.{Path}
use Rattle.object_defs.specs.declared.path.Path.TheVariants.{Resource}
use Rattle.object_defs.proofs.PathOrder.{path_exact, path_total}
use Rattle.instance_store.specs.Stored.{Stored, has_instance, lies_in, value_at, with_value, without_values}
use Rattle.instance_store.proofs.SetValues.{value_after, value_elsewhere}
use Rattle.device_firmware.specs.Firmware.{firmware, firmware_after, next_from, state_as, state_in, with_outcome}
use Rattle.device_firmware.specs.declared.event.FirmwareEvent.TheVariants as event
use Rattle.device_instances.proofs.Within.{kept}
use Rattle.device_requests.specs.declared.ruling.Ruling.{Ruling}
use Rattle.device_requests.specs.declared.answer.Code.TheVariants.{Changed}
use Rattle.device_requests.specs.Client.{Client, with_stored}
use Rattle.device_requests.specs.Laws.{is_refusal}
use Rattle.device_requests.specs.Execute.{after_execute, execute_unless, with_no_error}
use Rattle.device_requests.specs.Outcomes.{execute_outcome}
use Rattle.device_requests.specs.Refusals.{refusal_of, refusals_of, to_execute}
use Rattle.device_requests.specs.Ruling.{code_of}
use Rattle.device_requests.specs.Targets.{is_resource, resource_place}
use Rattle.laws_requests.specs.Executions.{BeginsUpdate, ErrorsAreReset, ExecutesKeep, HasNoError, UpdatesBegin}
use Rattle.laws_requests.proofs.Asking.{fails, passes}

same_by : (ruling : Option Ruling) (client : Client) (path : Path) → after_execute client.store path ≡ client.store
    → (execute_unless ruling client path).client ≡ client
same_by None client path h = ap (λ (s : Stored). with_stored client s) h
same_by (Some ruling) client path h = refl

pub executes_keep : ExecutesKeep
executes_keep client server path number payload h k =
    same_by (refusal_of client server path (to_execute number payload)) client path
    (ap (λ (a : Bool). if a then unwrap_or (firmware_after client.store event.Update) client.store
    else if is_resource 3 12 path then with_no_error client.store path else client.store) h
    ∙ ap (λ (b : Bool). if b then with_no_error client.store path else client.store) k)

pub apart : (p q : FullPath) → q ≢ p → eq_by_cmp path_cmp q p ≡ false
apart p q other =
    elim (eq_by_cmp path_cmp q p) as (λ b. eq_by_cmp path_cmp q p ≡ b → b ≡ false) [
      | true ↦ λ h. absurd (other (path_exact q p (is_equal _ h)))
      | false ↦ λ h. refl
    ] refl

lies_there : (i : ℕ) → lies_in (Resource 3 i 11) (part_of (resource_place 3 i 11) 0) ≡ true
lies_there i = grind (arith, nat_tests)

itself : (i : ℕ) → eq_by_cmp path_cmp (part_of (resource_place 3 i 11) 0) (part_of (resource_place 3 i 11) 0) ≡ true
itself i = (eq_by_cmp_equiv path_total).refl (part_of (resource_place 3 i 11) 0)

no_error : (s : Stored) (i : ℕ) → HasNoError s (with_no_error s (Resource 3 i 12)) i
no_error s i =
    let p = part_of (resource_place 3 i 11) 0 in
    let bare = without_values s (Resource 3 i 11) in
    record {
      first = value_after bare p p (Whole (pos 0))
          ∙ ap (λ (b : Bool). cond b (Some (Whole (pos 0))) (value_at bare p)) (itself i);
      alone = λ q lies other. value_elsewhere bare p q (Whole (pos 0)) other
          ∙ (kept s (Resource 3 i 11) q ∙ ap (λ (b : Bool). cond (not b) (value_at s q) None) lies);
      others = λ q away. value_elsewhere bare p q (Whole (pos 0))
          (λ e. let l : true ≡ false = sym (lies_there i)
          ∙ (ap (lies_in (Resource 3 i 11)) (sym e) ∙ away) in cc)
          ∙ (kept s (Resource 3 i 11) q ∙ ap (λ (b : Bool). cond (not b) (value_at s q) None) away);
    }

pub unrefused : (client : Client) (server : ℕ) (path : Path) (number : Option ℕ) (payload : List ℕ)
    → code_of (execute_outcome client server path number payload).answer.ruling ≡ Changed
    → refusal_of client server path (to_execute number payload) ≡ None
unrefused client server path number payload h =
    passes (refusals_of client server path (to_execute number payload))
    (refl, (refl, (refl, (refl, (refl, (refl, (refl, (refl, tt))))))))
    (λ (ruling : Option Ruling). execute_unless ruling client path) (λ c. refl) (ap is_refusal h)

pub errors_reset : ErrorsAreReset
errors_reset client server i number payload h =
    subst
    (λ (ruling : Option Ruling). HasNoError client.store
    (execute_unless ruling client (Resource 3 i 12)).client.store i)
    (sym (unrefused client server (Resource 3 i 12) number payload h)) (no_error client.store i)

-- ---- an update

-- whether an update begins where this is the State
abbrev begins_at : Stored → Option Value → Bool
begins_at s v = not (is_some (option_map (with_outcome s) (next_from event.Update (state_as v))))

not_two : (s : Stored) (n : ℕ) → (n == 2) ≡ false → begins_at s (Some (Whole (pos n))) ≡ false → ⊥
not_two s n z h =
    let at_number : (k : ℕ) → n ≡ k → begins_at s (Some (Whole (pos k))) ≡ false =
    λ k e. subst (λ (m : ℕ). begins_at s (Some (Whole (pos m))) ≡ false) e h in
    elim (n == 0) as (λ b. (n == 0) ≡ b → ⊥) [
      | true ↦ λ e. let l : true ≡ false = at_number 0 (eqb-true n 0 e) in cc
      | false ↦ λ e0. elim (n == 1) as (λ b. (n == 1) ≡ b → ⊥) [
        | true ↦ λ e. let l : true ≡ false = at_number 1 (eqb-true n 1 e) in cc
        | false ↦ λ e1. elim (n == 3) as (λ b. (n == 3) ≡ b → ⊥) [
          | true ↦ λ e. let l : true ≡ false = at_number 3 (eqb-true n 3 e) in cc
          | false ↦ λ e3. let l : true ≡ false = rw (e0, e1, z, e3) at h in cc
        ] refl
      ] refl
    ] refl

is_two : (s : Stored) (v : Option Value) → begins_at s v ≡ false → v ≡ Some (Whole (pos 2))
is_two s None h = cc
is_two s (Some (Text _)) h = cc
is_two s (Some (Whole (pos n))) h =
    elim (n == 2) as (λ b. (n == 2) ≡ b → Some (Whole (pos n)) ≡ Some (Whole (pos 2))) [
      | true ↦ λ e. ap (λ (k : ℕ). Some (Whole (pos k))) (eqb-true n 2 e)
      | false ↦ λ e. absurd (not_two s n e h)
    ] refl
is_two s (Some (Whole (negsuc _))) h = cc
is_two s (Some (Flag _)) h = cc
is_two s (Some (Opaque _)) h = cc
is_two s (Some (Moment _)) h = cc
is_two s (Some (Link _ _)) h = cc

abbrev at : ℕ → FullPath
at n = single_of (resource_place 5 0 n)

begun : (s : Stored) → value_at s (at 3) ≡ Some (Whole (pos 2))
    → BeginsUpdate s (with_value (with_value s (at 3) (Whole (pos 3))) (at 5) (Whole (pos 0)))
begun s h =
    let v = Whole (pos 3) in
    let r = Whole (pos 0) in
    record {
      was = h;
      state = value_after (with_value s (at 3) v) (at 5) (at 3) r ∙ value_after s (at 3) (at 3) v;
      result = value_after (with_value s (at 3) v) (at 5) (at 5) r;
      others = λ q not3 not5. value_elsewhere (with_value s (at 3) v) (at 5) q r not5
          ∙ value_elsewhere s (at 3) q v not3;
    }

begun_by : (s : Stored) (b : Bool)
    → not (is_some (option_map (with_outcome s) (if b then next_from event.Update (state_in s) else None))) ≡ false
    → BeginsUpdate s
    (unwrap_or (option_map (with_outcome s) (if b then next_from event.Update (state_in s) else None)) s)
begun_by s false h = cc
begun_by s true h =
    let two = is_two s (value_at s (at 3)) h in
    subst (λ (v : Option Value). BeginsUpdate s
    (unwrap_or (option_map (with_outcome s) (next_from event.Update (state_as v))) s)) (sym two) (begun s two)

pub updates_begin : UpdatesBegin
updates_begin client server i number payload h =
    let none = unrefused client server (Resource 5 i 2) number payload h in
    let all = fails (refusals_of client server (Resource 5 i 2) (to_execute number payload)) none in
    subst (λ (ruling : Option Ruling). BeginsUpdate client.store
    (execute_unless ruling client (Resource 5 i 2)).client.store)
    (sym none)
    (begun_by client.store (has_instance client.store firmware) all.1.1.1.1.1.1.0)
