-- Where something is refused, there is something to tell.
use Rattle.std.proofs.Common.{◌≡◌, ℕ, Bool, true, false, List, Option, None, Some, Result, Ok, Err, refl, sym, ap, ◌∙◌}
use Rattle.std.specs.Option.{is_none, is_some, option_and_then}
use Rattle.std.specs.Result.{result_err, result_ok}
use Rattle.lwm2m_payloads.specs.declared.given.Mode.{Mode}
use Rattle.object_defs.specs.declared.path.Path.{Path}
use Rattle.device_firmware.specs.declared.event.FirmwareEvent.{FirmwareEvent}
use Rattle.device_requests.specs.Client.{Client}
use Rattle.device_requests.specs.Refusals.{is_too_much, to_write, unless_taken}
use Rattle.device_requests.specs.Write.{event_of, exceeds, mode_at, new_values, values_excess, write_excess}

-- what is judged gives something, or has a fault
pub never_neither : {A E : Type 0} (r : Result A E) → None ≡ result_err r → is_some (result_ok r) ≡ false → ⊥
never_neither (Ok a) h k = cc
never_neither (Err e) h k = cc

pub never_none : {A : Type 0} (o : Option A) → None ≡ o → is_some o ≡ true → ⊥
never_none None h k = cc
never_none (Some a) h k = cc

-- there is one of two things
pub other_is : {A B : Type 0} (found : Option A) (other : Option B) → found ≡ None → is_some found ≡ is_none other
    → is_some other ≡ true
other_is found None h k = let none = ap is_some h in cc
other_is found (Some b) h k = refl

unless : (event : Option FirmwareEvent) (much : Bool) → unless_taken event much ≡ true → much ≡ true
unless None much h = h
unless (Some event) much h = cc

exceeding : {V E : Type 0} (excess : V → Option E) (test : Option V → Bool) → test None ≡ false
    → ((v : V) → test (Some v) ≡ is_some (excess v)) → (values : Option V) → test values ≡ true
    → is_some (option_and_then excess values) ≡ true
exceeding excess test none some None h = cc
exceeding excess test none some (Some v) h = sym (some v) ∙ h

-- a Write that would store too much gives some resource too many parts
pub has_excess : (client : Client) (server : ℕ) (mode : Mode) (path : Path) (number : Option ℕ) (payload : List ℕ)
    → is_too_much client server path (to_write mode number payload) ≡ true
    → is_some (write_excess client mode path number payload) ≡ true
has_excess client server mode path number payload h =
    let values = new_values client path number payload in
    exceeding (values_excess (mode_at mode path) client.catalog client.store path)
    (exceeds (mode_at mode path) client.catalog client.store path) refl (λ v. refl) values
    (unless (event_of path values) _ h)
