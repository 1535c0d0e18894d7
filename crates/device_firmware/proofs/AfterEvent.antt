-- What a store holds after an event.
use Rattle.std.proofs.Common.{◌≡◌, ◌≢◌, ℕ, Bool, true, false, ◌&&◌, ◌||◌, eqb, List, Option, None, Some}
use Rattle.std.proofs.Common.{pos, refl, sym, ap, ◌∙◌, ◌⊎◌, inl, inr}
use Rattle.std.specs.Option.{option_map, is_none, is_some}
use Rattle.std.proofs.lemmas.Bool.{eq-eqb, false≢true}
use Rattle.std.specs.FinMap as map
use Rattle.instance_store.proofs.SetValues.{value_after, value_elsewhere}
use Rattle.lwm2m_values.specs.declared.value.Value.{Value}
use Rattle.lwm2m_values.specs.declared.value.Value.TheVariants.{Text, Whole}
use Rattle.object_defs.specs.Path.{single_of}
use Rattle.object_defs.specs.declared.path.FullPath.{FullPath}
use Rattle.instance_store.specs.Stored.{Stored, value_at, with_value}
use Rattle.device_firmware.specs.declared.event.FirmwareEvent.{FirmwareEvent}
use Rattle.device_firmware.specs.declared.state.State.{State}
use Rattle.device_firmware.specs.declared.state.State.TheVariants.{Idle, Downloading, Downloaded, Updating}
use Rattle.device_firmware.specs.declared.state.Outcome.{Outcome}
use Rattle.device_firmware.specs.Firmware.{firmware_resource, firmware_after, outcome_in, state_number, state_as}
use Rattle.device_firmware.specs.Firmware.{state_in, uri_of, with_uri, with_outcome, firmware_value, is_ready}
use Rattle.device_firmware.specs.Laws.{uri_after}

abbrev at : ℕ → FullPath
at n = single_of (firmware_resource n)

abbrev number : ℕ → Value
number n = Whole (pos n)

read_again : (state : State) → state_as (Some (number (state_number state))) ≡ Some state
read_again Idle = refl
read_again Downloading = refl
read_again Downloaded = refl
read_again Updating = refl

pub state-outcome : (s : Stored) (o : Outcome) → state_in (with_outcome s o) ≡ Some o.state
state-outcome s o =
    let state = number (state_number o.state) in
    ap state_as (value_after (with_value s (at 3) state) (at 5) (at 3) (number o.code)
    ∙ value_after s (at 3) (at 3) state)
    ∙ read_again o.state

pub code-outcome : (s : Stored) (o : Outcome) → firmware_value (with_outcome s o) 5 ≡ Some (number o.code)
code-outcome s o = value_after (with_value s (at 3) (number (state_number o.state))) (at 5) (at 5) (number o.code)

pub uri-outcome : (s : Stored) (o : Outcome) → firmware_value (with_outcome s o) 1 ≡ firmware_value s 1
uri-outcome s o =
    value_after (with_value s (at 3) (number (state_number o.state))) (at 5) (at 1) (number o.code)
    ∙ value_after s (at 3) (at 1) (number (state_number o.state))

pub uri-uri : (s : Stored) (uri : Option (List ℕ))
    → firmware_value (with_uri s uri) 1 ≡ uri_after (firmware_value s 1) uri
uri-uri s None = refl
uri-uri s (Some text) = value_after s (at 1) (at 1) (Text text)

pub other-outcome : (s : Stored) (o : Outcome) (q : FullPath) → q ≢ at 3 → q ≢ at 5
    → value_at (with_outcome s o) q ≡ value_at s q
other-outcome s o q not3 not5 =
    value_elsewhere (with_value s (at 3) (number (state_number o.state))) (at 5) q (number o.code) not5
    ∙ value_elsewhere s (at 3) q (number (state_number o.state)) not3

pub other-uri : (s : Stored) (uri : Option (List ℕ)) (q : FullPath) → q ≢ at 1
    → value_at (with_uri s uri) q ≡ value_at s q
other-uri s None q not1 = refl
other-uri s (Some text) q not1 = value_elsewhere s (at 1) q (Text text) not1

pub same_instances : (s : Stored) (uri : Option (List ℕ)) → (with_uri s uri).instances ≡ s.instances
same_instances s None = refl
same_instances s (Some text) = refl

mapped : {A B : Type 0} (f : A → B) (o : Option A) (b : B) → option_map f o ≡ Some b → (a : A) × (f a ≡ b)
mapped f None b h = cc
mapped f (Some a) b h = (a, cc)

-- an event that is taken has an outcome, which the store then has
pub taken : (s after : Stored) (event : FirmwareEvent) → firmware_after s event ≡ Some after → (o : Outcome)
    × (with_outcome (with_uri s (uri_of event)) o ≡ after)
taken s after event h = mapped (with_outcome (with_uri s (uri_of event))) (outcome_in s event) after h

pub taken_as : (s after : Stored) (event : FirmwareEvent) (o : Outcome) → outcome_in s event ≡ Some o
    → firmware_after s event ≡ Some after → with_outcome (with_uri s (uri_of event)) o ≡ after
taken_as s after event o is h =
    let same : firmware_after s event ≡ Some (with_outcome (with_uri s (uri_of event)) o) =
    ap (option_map (with_outcome (with_uri s (uri_of event)))) is in
    let both : Some (with_outcome (with_uri s (uri_of event)) o) ≡ Some after = sym same ∙ h in cc

-- ---- where memory can be wanting

firmware_value-uri : (s : Stored) (uri : Option (List ℕ)) (n : ℕ) → eqb n 1 ≡ false
    → firmware_value (with_uri s uri) n ≡ firmware_value s n
firmware_value-uri s uri n h =
    other-uri s uri (at n) (λ e. false≢true (sym h ∙ eq-eqb n 1 (ap (λ (q : FullPath). q.resource) e)))

not_ready-outcome : (b c r : Bool) → (b ≡ false) ⊎ (c ≡ false) → ((b && c) && r) ≡ false
not_ready-outcome false c r h = refl
not_ready-outcome true false r h = refl
not_ready-outcome true true r (inl h) = cc
not_ready-outcome true true r (inr h) = cc

not_ready-uri : (b a : Bool) (uri : Option (List ℕ)) → a ≡ false → is_some uri ≡ true
    → (b && (is_none uri || a)) ≡ false
not_ready-uri false a uri h some = refl
not_ready-uri true a None h some = cc
not_ready-uri true a (Some text) h some = h

pub still-5 : (s t : Stored) (v : Value) → t ≡ with_value s (at 3) v → firmware_value t 5 ≡ None
    → firmware_value s 5 ≡ None
still-5 s t v e h = sym (value_after s (at 3) (at 5) v) ∙ ap (λ u. firmware_value u 5) (sym e) ∙ h

-- by what wants of setting the Package URI, and the outcome
pub wanting-uri : (s : Stored) (event : FirmwareEvent) → firmware_value s 1 ≡ None → is_some (uri_of event) ≡ true
    → is_ready s event ≡ false
wanting-uri s event h some =
    not_ready-uri (is_some (firmware_value s 3) && is_some (firmware_value s 5)) (is_some (firmware_value s 1))
    (uri_of event) (ap is_some h) some

pub wanting-outcome : (s : Stored) (event : FirmwareEvent) → (firmware_value (with_uri s (uri_of event)) 3 ≡ None)
    ⊎ (firmware_value (with_uri s (uri_of event)) 5 ≡ None) → is_ready s event ≡ false
wanting-outcome s event (inl h) =
    not_ready-outcome (is_some (firmware_value s 3)) (is_some (firmware_value s 5))
    (is_none (uri_of event) || is_some (firmware_value s 1))
    (inl (ap is_some (sym (firmware_value-uri s (uri_of event) 3 refl) ∙ h)))
wanting-outcome s event (inr h) =
    not_ready-outcome (is_some (firmware_value s 3)) (is_some (firmware_value s 5))
    (is_none (uri_of event) || is_some (firmware_value s 1))
    (inr (ap is_some (sym (firmware_value-uri s (uri_of event) 5 refl) ∙ h)))
