-- What a device does depends on the recorded requests only by those that live.
use Rattle.std.proofs.Common.{◌≡◌, ℕ, ◌+◌, ◌-◌, nat_lt, ◌==◌, Bool, true, false, ◌&&◌, cond, List, [], ◌∷◌, ◌++◌}
use Rattle.std.proofs.Common.{Option, None, Some, Result, Ok, Err, refl, sym, ap, subst, ◌∙◌, arith}
use Rattle.std.specs.List.{filter, find}
use Rattle.std.specs.Bool.{if◌then◌else◌}
use Rattle.std.proofs.lemmas.Bool.Decides.{nat_tests}
use Rattle.std.proofs.lemmas.List.Elements.{filter-append}
use Rattle.coap_codec.specs.Message.{Message}
use Rattle.coap_codec.specs.Reading.{reading_of}
use Rattle.coap_codec.specs.declared.kind.Kind.{Kind}
use Rattle.coap_codec.specs.declared.kind.Kind.TheVariants.{Con, Non, Ack, Rst}
use Rattle.coap_codec.specs.declared.fault.CoapFault.{CoapFault}
use Rattle.device_machine.specs.declared.event.Event.{Event}
use Rattle.device_machine.specs.declared.event.Event.TheVariants.{Recv, Put, Firmware, Tick}
use Rattle.device_machine.specs.declared.output.Output.{Output}
use Rattle.device_machine.specs.declared.recorded.Recorded.{Recorded}
use Rattle.device_template.specs.Values.{misses, with_value_at}
use Rattle.device_requests.specs.declared.answer.Act.{Act as Deed}
use Rattle.device_firmware.specs.Firmware.{firmware_after}
use Rattle.device_firmware.specs.declared.event.FirmwareEvent.TheVariants.{Ended}
use Rattle.instance_store.specs.Stored.{Stored}
use Rattle.lwm2m_values.specs.declared.value.Value.{Value}
use Rattle.object_defs.specs.Path.{full_path}
use Rattle.object_defs.specs.declared.path.FullPath.{FullPath}
use Rattle.notifier.specs.declared.observation.Observation.{Observation}
use Rattle.device_machine.specs.Observing.{ObserveResult, observe_result}
use Rattle.device_machine.specs.Memory.{remembered_flat}
use Rattle.device_machine.specs.State.{DeviceState, Machine, lifetime, is_live, with_live_records, with_client}
use Rattle.device_machine.specs.State.{with_observations, Device, HaveSameMembers, Shows}
use Rattle.device_machine.specs.Records.{HaveOwnKeys}
use Rattle.device_requests.specs.Client.{Client, has_account, with_stored}
use Rattle.device_requests.specs.Answer.{Outcome}
use Rattle.device_requests.specs.Request.{outcome_of}
use Rattle.device_machine.specs.Reactions.{Reaction, reply_to, kept_after, on_firmware, on_fresh}
use Rattle.device_machine.specs.Reactions.{on_noted, on_acknowledgement, on_outcome, on_reset, repeat_of, is_same}
use Rattle.device_machine.specs.Reactions.{on_request, on_datagram, on_message, claims_confirmable, is_request}
use Rattle.device_machine.specs.Reactions.{reaction_to}
use Rattle.device_machine.proofs.Members.{own_filtered, same_appended, same_equal, same_fewer, same_found}

-- a filter after a weaker one
pub filter-filter : {X : Type 0} (p q : X → Bool) → ((x : X) → q x ≡ true → p x ≡ true) → (xs : List X)
    → filter q (filter p xs) ≡ filter q xs
filter-filter p q h [] = refl
filter-filter p q h (x ∷ xs) =
    elim (p x) as (λ b. (q x ≡ true → b ≡ true)
    → filter q (cond b (x ∷ filter p xs) (filter p xs)) ≡ cond (q x) (x ∷ filter q xs) (filter q xs)) [
      | true ↦ λ k. ap (λ ys. cond (q x) (x ∷ ys) ys) (filter-filter p q h xs)
      | false ↦ elim (q x) as (λ c. (c ≡ true → false ≡ true)
          → filter q (filter p xs) ≡ cond c (x ∷ filter q xs) (filter q xs)) [
            | true ↦ λ k. let e : false ≡ true = k refl in cc
            | false ↦ λ k. filter-filter p q h xs
          ]
    ] (h x)

-- what lives later lives now
pub live_later : (clock n second life : ℕ) → nat_lt (clock + n - second) life ≡ true
    → nat_lt (clock - second) life ≡ true
live_later clock n second life h = grind (arith, nat_tests)

-- two reactions that look alike
pub record Alike (a b : Reaction) : Type 0 where
  pub outputs : a.outputs ≡ b.outputs
  pub kept_then : a.flat.kept ≡ b.flat.kept
  pub living_then : HaveSameMembers (with_live_records a.flat).recorded (with_live_records b.flat).recorded

abbrev flat_of : DeviceState → List Recorded → Machine
flat_of k xs = record { kept = k; recorded = xs }

-- where only those that live are kept, the same ones live
pub forgotten : (k : DeviceState) (kept all : List Recorded) → kept ≡ filter (λ r. is_live k.clock r) all
    → with_live_records (flat_of k kept) ≡ with_live_records (flat_of k all)
forgotten k kept all h =
    ap (λ rs. flat_of k (filter (λ r. is_live k.clock r) rs)) h
    ∙ ap (λ rs. flat_of k rs) (filter-filter (λ r. is_live k.clock r) (λ r. is_live k.clock r) (λ r e. e) all)

-- what is remembered after an event lives
pub living_remembered : (f : Machine) (event : Event)
    → with_live_records (remembered_flat f event) ≡ with_live_records f
living_remembered f (Recv server bytes) = refl
living_remembered f (Put path value) = refl
living_remembered f (Firmware code) = refl
living_remembered f (Tick seconds) = forgotten f.kept _ f.recorded refl

abbrev put_in : DeviceState → Option FullPath → Value → DeviceState
put_in k place value =
    with_client k (with_stored k.client (with_value_at k.client.store place value))

abbrev LivingIn : ℕ → List Recorded → List Recorded → Type 0
LivingIn clock xs ys = HaveSameMembers (filter (λ r. is_live clock r) xs) (filter (λ r. is_live clock r) ys)

-- the same requests live, and the same are found again
pub record SameLiving (clock : ℕ) (xs ys : List Recorded) : Type 0 where
  pub members : LivingIn clock xs ys
  pub found : (server : ℕ) (m : Message)
      → find (λ r. is_live clock r && is_same server m r) xs ≡ find (λ r. is_live clock r && is_same server m r) ys

-- a search by two tests is one among those that pass the first
pub among_living : (p q : Recorded → Bool) (xs : List Recorded) → find (λ r. p r && q r) xs ≡ find q (filter p xs)
among_living p q [] = refl
among_living p q (x ∷ xs) =
    elim (p x) as (λ b. cond (b && q x) (Some x) (find (λ r. p r && q r) xs)
    ≡ find q (cond b (x ∷ filter p xs) (filter p xs))) [
      | true ↦ ap (λ t. cond (q x) (Some x) t) (among_living p q xs)
      | false ↦ among_living p q xs
    ]

-- where the same ones live, no two of one key, in any order
pub same_members : (clock : ℕ) (xs ys : List Recorded) → HaveOwnKeys xs → LivingIn clock xs ys → SameLiving clock xs ys
same_members clock xs ys own h =
    record {
      members = h;
      found = λ server m. among_living (λ r. is_live clock r) (λ r. is_same server m r) xs
          ∙ same_found server m.kind m.mid (filter (λ r. is_live clock r) xs) (filter (λ r. is_live clock r) ys)
          (own_filtered (λ r. is_live clock r) xs own) h
          ∙ sym (among_living (λ r. is_live clock r) (λ r. is_same server m r) ys);
    }

alike_choice : (b : Bool) (r s t u : Reaction) → Alike r s → Alike t u → Alike (if b then r else t) (if b then s else u)
alike_choice true r s t u h k = h
alike_choice false r s t u h k = k

alike_quiet : (k : DeviceState) (xs ys : List Recorded) (o : List Output) → SameLiving k.clock xs ys
    → Alike (record { outputs = o; flat = flat_of k xs }) (record { outputs = o; flat = flat_of k ys })
alike_quiet k xs ys o h = record { outputs = refl; kept_then = refl; living_then = h.members }

pub repeat_same : (k : DeviceState) (xs ys : List Recorded) (server : ℕ) (m : Message) → SameLiving k.clock xs ys
    → repeat_of (flat_of k xs) server m ≡ repeat_of (flat_of k ys) server m
repeat_same k xs ys server m h = h.found server m

same_pushed : (clock : ℕ) (xs ys zs : List Recorded) → LivingIn clock xs ys → LivingIn clock (xs ++ zs) (ys ++ zs)
same_pushed clock xs ys zs h =
    let lives : Recorded → Bool = λ r. is_live clock r in
    subst (λ rs. HaveSameMembers rs (filter lives (ys ++ zs))) (sym (filter-append lives xs zs))
    (subst (HaveSameMembers (filter lives xs ++ filter lives zs)) (sym (filter-append lives ys zs))
    (same_appended (filter lives xs) (filter lives ys) (filter lives zs) h))

pub clock_after : (k : DeviceState) (kind : Kind) (reply : Option Message) → (kept_after k kind reply).clock ≡ k.clock
clock_after k Con reply = refl
clock_after k Non None = refl
clock_after k Non (Some reply) = refl
clock_after k Ack reply = refl
clock_after k Rst reply = refl

same_at : (c d : ℕ) (xs ys : List Recorded) → c ≡ d → LivingIn d xs ys → LivingIn c xs ys
same_at c d xs ys e h = subst (λ n. LivingIn n xs ys) (sym e) h

alike_fresh : (k : DeviceState) (xs ys : List Recorded) (server : ℕ) (m : Message) (client : Client)
    (left : List Observation)
    (reply : Option Message) (act : Option Deed) → SameLiving k.clock xs ys
    → let new = with_observations (with_client k client) left in
    Alike (on_fresh (flat_of k xs) server m new reply act) (on_fresh (flat_of k ys) server m new reply act)
alike_fresh k xs ys server m client left reply act h =
    let new = with_observations (with_client k client) left in
    record {
      outputs = refl;
      kept_then = refl;
      living_then = same_at _ _ _ _ (clock_after new m.kind reply) (same_pushed k.clock xs ys _ h.members);
    }

alike_noted : (k : DeviceState) (xs ys : List Recorded) (server : ℕ) (m : Message) (outcome : Outcome)
    (noted : ObserveResult)
    → SameLiving k.clock xs ys
    → Alike (on_noted (flat_of k xs) server m outcome noted) (on_noted (flat_of k ys) server m outcome noted)
alike_noted k xs ys server m outcome noted h =
    alike_fresh k xs ys server m outcome.client noted.left
    (reply_to k.next_id m m.kind noted.number outcome.answer) outcome.answer.act h

alike_outcome : (k : DeviceState) (xs ys : List Recorded) (server : ℕ) (m : Message) (outcome : Outcome)
    → SameLiving k.clock xs ys
    → Alike (on_outcome (flat_of k xs) server m outcome) (on_outcome (flat_of k ys) server m outcome)
alike_outcome k xs ys server m outcome h =
    alike_noted k xs ys server m outcome (observe_result (with_client k outcome.client) server m outcome.answer) h

alike_request : (k : DeviceState) (xs ys : List Recorded) (server : ℕ) (m : Message) (o : Option Recorded)
    → SameLiving k.clock xs ys
    → Alike (on_request (flat_of k xs) server m o) (on_request (flat_of k ys) server m o)
alike_request k xs ys server m None h = alike_outcome k xs ys server m (outcome_of k.client server m) h
alike_request k xs ys server m (Some r) h = alike_quiet k xs ys _ h

alike_asked : (k : DeviceState) (xs ys : List Recorded) (server : ℕ) (m : Message) → SameLiving k.clock xs ys
    → Alike (on_request (flat_of k xs) server m (repeat_of (flat_of k xs) server m))
    (on_request (flat_of k ys) server m (repeat_of (flat_of k ys) server m))
alike_asked k xs ys server m h =
    subst (λ o. Alike (on_request (flat_of k xs) server m (repeat_of (flat_of k xs) server m))
    (on_request (flat_of k ys) server m o))
    (repeat_same k xs ys server m h) (alike_request k xs ys server m (repeat_of (flat_of k xs) server m) h)

alike_reset : (k : DeviceState) (xs ys : List Recorded) (server mid : ℕ) → SameLiving k.clock xs ys
    → Alike (on_reset (flat_of k xs) server mid) (on_reset (flat_of k ys) server mid)
alike_reset k xs ys server mid h =
    record {
      outputs = refl;
      kept_then = refl;
      living_then = h.members;
    }

alike_acknowledgement : (k : DeviceState) (xs ys : List Recorded) (server mid : ℕ) → SameLiving k.clock xs ys
    → Alike (on_acknowledgement (flat_of k xs) server mid) (on_acknowledgement (flat_of k ys) server mid)
alike_acknowledgement k xs ys server mid h =
    record {
      outputs = refl;
      kept_then = refl;
      living_then = h.members;
    }

alike_message : (k : DeviceState) (xs ys : List Recorded) (server : ℕ) (m : Message) (kind : Kind)
    → SameLiving k.clock xs ys
    → Alike (on_message (flat_of k xs) server m kind) (on_message (flat_of k ys) server m kind)
alike_message k xs ys server m Con h =
    alike_choice (is_request m.code) _ _ _ _ (alike_asked k xs ys server m h) (alike_quiet k xs ys _ h)
alike_message k xs ys server m Non h =
    alike_choice (is_request m.code) _ _ _ _ (alike_asked k xs ys server m h) (alike_quiet k xs ys _ h)
alike_message k xs ys server m Ack h =
    alike_choice (m.code == 0) _ _ _ _ (alike_acknowledgement k xs ys server m.mid h) (alike_quiet k xs ys _ h)
alike_message k xs ys server m Rst h =
    alike_choice (m.code == 0) _ _ _ _ (alike_reset k xs ys server m.mid h) (alike_quiet k xs ys _ h)

alike_datagram : (k : DeviceState) (xs ys : List Recorded) (server : ℕ) (bytes : List ℕ)
    (reading : Result Message CoapFault)
    → SameLiving k.clock xs ys
    → Alike (on_datagram (flat_of k xs) server bytes reading) (on_datagram (flat_of k ys) server bytes reading)
alike_datagram k xs ys server bytes (Ok m) h = alike_message k xs ys server m m.kind h
alike_datagram k xs ys server bytes (Err fault) h =
    alike_choice (claims_confirmable bytes) _ _ _ _ (alike_quiet k xs ys _ h) (alike_quiet k xs ys _ h)

alike_put : (k : DeviceState) (xs ys : List Recorded) (place : Option FullPath) (value : Value)
    → SameLiving k.clock xs ys
    → Alike (record { outputs = []; flat = flat_of (put_in k place value) xs })
    (record { outputs = []; flat = flat_of (put_in k place value) ys })
alike_put k xs ys place value h =
    record { outputs = refl; kept_then = refl; living_then = h.members }

alike_firmware : (k : DeviceState) (xs ys : List Recorded) (stored : Option Stored) → SameLiving k.clock xs ys
    → Alike (on_firmware (flat_of k xs) stored) (on_firmware (flat_of k ys) stored)
alike_firmware k xs ys None h = alike_quiet k xs ys _ h
alike_firmware k xs ys (Some stored) h =
    record { outputs = refl; kept_then = refl; living_then = h.members }

same_later : (clock n : ℕ) (xs ys : List Recorded) → LivingIn clock xs ys → LivingIn (clock + n) xs ys
same_later clock n xs ys h =
    same_fewer (λ r. is_live clock r) (λ r. is_live (clock + n) r)
    (λ r. live_later clock n r.second (lifetime r.kind)) xs ys h

alike_event : (k : DeviceState) (xs ys : List Recorded) → SameLiving k.clock xs ys → (event : Event)
    → Alike (reaction_to (flat_of k xs) event) (reaction_to (flat_of k ys) event)
alike_event k xs ys h (Recv server bytes) =
    alike_choice (has_account k.client server) _ _ _ _ (alike_datagram k xs ys server bytes (reading_of bytes) h)
    (alike_quiet k xs ys _ h)
alike_event k xs ys h (Put path value) =
    alike_choice (misses k.client.catalog k.client.store (full_path path) value) _ _ _ _ (alike_quiet k xs ys _ h)
    (alike_put k xs ys (full_path path) value h)
alike_event k xs ys h (Firmware code) = alike_firmware k xs ys (firmware_after k.client.store (Ended code)) h
alike_event k xs ys h (Tick n) =
    record {
      outputs = refl;
      kept_then = refl;
      living_then = same_later k.clock n xs ys h.members;
    }

-- flat states in which the same requests live react alike
pub alike : (f g : Machine) → f.kept ≡ g.kept → SameLiving f.kept.clock f.recorded g.recorded → (event : Event)
    → Alike (reaction_to f event) (reaction_to g event)
alike f g kept same event =
    subst (λ k. Alike (reaction_to f event) (reaction_to (flat_of k g.recorded) event)) kept
    (alike_event f.kept f.recorded g.recorded same event)

-- what a device has, and what it shows: the same requests live
shown_living : (device : Device) (f g : Machine) → with_live_records g ≡ device.flat → HaveOwnKeys g.recorded
    → Shows device f → (g.kept ≡ f.kept) × SameLiving g.kept.clock g.recorded f.recorded
shown_living device f g is own shows =
    let kept : g.kept ≡ f.kept = ap (λ (s : Machine). s.kept) is ∙ shows.kept in
    let living : LivingIn g.kept.clock g.recorded f.recorded =
    subst (λ (k : DeviceState). HaveSameMembers (with_live_records g).recorded
    (filter (λ r. is_live k.clock r) f.recorded)) (sym kept)
    (subst (λ (s : Machine). HaveSameMembers s.recorded (with_live_records f).recorded) (sym is) shows.recorded) in
    (kept, same_members g.kept.clock g.recorded f.recorded own living)

-- it reacts as what it shows
pub alike_shown : (device : Device) (f g : Machine) → with_live_records g ≡ device.flat → HaveOwnKeys g.recorded
    → Shows device f → (event : Event) → Alike (reaction_to g event) (reaction_to f event)
alike_shown device f g is own shows event =
    let same = shown_living device f g is own shows in alike g f same.0 same.1 event

-- a request is a repeat in both or in neither
pub repeat_shown : (device : Device) (f g : Machine) → with_live_records g ≡ device.flat → HaveOwnKeys g.recorded
    → Shows device f → (server : ℕ) (m : Message) → repeat_of g server m ≡ repeat_of f server m
repeat_shown device f g is own shows server m =
    let same = shown_living device f g is own shows in
    same.1.found server m
    ∙ ap (λ (k : DeviceState). find (λ r. is_live k.clock r && is_same server m r) f.recorded) same.0

-- a device that is not spent shows the flat state of which it keeps the requests that live, in their order
pub shows_same : (d : Device) (f : Machine) → d.spent ≡ false → d.flat ≡ with_live_records f → Shows d f
shows_same d f ready holds =
    record {
      ready = ready;
      kept = ap (λ (g : Machine). g.kept) holds;
      recorded = same_equal d.flat.recorded (with_live_records f).recorded (ap (λ (g : Machine). g.recorded) holds);
    }
