-- Which answers may take memory.
use Rattle.std.proofs.Common.{◌≡◌, ℕ, Bool, true, false, not, ◌==◌, List, [], ◌∷◌, Option, None, Some, Result, Ok, Err}
use Rattle.std.proofs.Common.{OnErr, is_some, refl, ap, ◌∙◌}
use Rattle.instance_store.specs.Stored.{Stored}
use Rattle.object_defs.specs.Lines.{first_line}
use Rattle.object_defs.specs.Path.{object_in}
use Rattle.object_defs.specs.declared.path.Path.{Path}
use Rattle.device_firmware.specs.declared.event.FirmwareEvent.{FirmwareEvent}
use Rattle.lwm2m_payloads.specs.declared.given.Mode.{Mode}
use Rattle.device_requests.specs.declared.ruling.Ruling.{Ruling}
use Rattle.device_requests.specs.declared.ruling.Ruling.TheVariants as rule
use Rattle.device_requests.specs.declared.write.NewValues.{NewValues}
use Rattle.device_requests.specs.Access.{rights_on}
use Rattle.device_requests.specs.Client.{Client}
use Rattle.device_requests.specs.Inside.{value_rules}
use Rattle.device_requests.specs.Outcomes.{write_outcome}
use Rattle.device_requests.specs.Read.{format_at}
use Rattle.device_requests.specs.Refusals.{can_be_written, is_refused_now, is_target, unless_taken}
use Rattle.device_requests.specs.Ruling.{takes_memory}
use Rattle.device_requests.specs.Write.{after_write_with_event, event_of, exceeds, mode_at, new_values, write_unless}

-- what an error says, said otherwise
pub of_error : {X E : Type 0} (r : Result X E) (P Q : Type 0) → (P → Q) → OnErr r P → OnErr r Q
of_error (Ok x) P Q f h = tt
of_error (Err e) P Q f h = f h

late_ruling : (b : Bool) (ruling : Ruling) (client : Client) (stored : Stored) → takes_memory ruling ≡ true
    → takes_memory (write_unless (first_line ((b, ruling) ∷ [])) client stored).answer.ruling ≡ true
late_ruling true ruling client stored h = h
late_ruling false ruling client stored h = refl

late_turn : (client : Client) (event : Option FirmwareEvent) (much : Bool) (stored : Stored)
    → takes_memory (write_unless (first_line ((is_refused_now client.store event, rule.State)
    ∷ (unless_taken event much, rule.Limit) ∷ [])) client stored).answer.ruling
    ≡ true
late_turn client None much stored = late_ruling much rule.Limit client stored refl
late_turn client (Some event) much stored =
    late_ruling (is_refused_now client.store (Some event)) rule.State client stored refl

late_values : (client : Client) (mode : Mode) (path : Path) (values : Option NewValues) (stored : Stored)
    → takes_memory (write_unless (first_line (value_rules client mode path values)) client stored).answer.ruling ≡ true
late_values client mode path None stored = refl
late_values client mode path (Some values) stored =
    late_turn client (event_of path (Some values))
    (exceeds (mode_at mode path) client.catalog client.store path (Some values)) stored

-- of the rules of a Write, those of the target and of the server do not apply
pub early_lines : (o t r w : Bool) (lines : List (Bool × Ruling)) → o ≡ false → t ≡ true → r ≡ true → w ≡ true
    → first_line ((o, rule.Security) ∷ (not t, rule.Target) ∷ (not r, rule.Right) ∷ (not w, rule.Operation) ∷ lines)
    ≡ first_line lines
early_lines o t r w lines other target may can =
    λ j. first_line
    ((other j, rule.Security) ∷ (not (target j), rule.Target) ∷ (not (may j), rule.Right) ∷ (
      not (can j),
      rule.Operation,
    )
    ∷ lines)

late_write : (o t r w f : Bool) (lines : List (Bool × Ruling)) → o ≡ false → t ≡ true → r ≡ true → w ≡ true → f ≡ true
    → first_line
    ((o, rule.Security) ∷ (not t, rule.Target) ∷ (not r, rule.Right) ∷ (not w, rule.Operation)
    ∷ (not f, rule.ContentFormat) ∷ lines)
    ≡ first_line lines
late_write o t r w f lines other target may can served =
    early_lines o t r w ((not f, rule.ContentFormat) ∷ lines) other target may can
    ∙ ap (λ b. first_line ((not b, rule.ContentFormat) ∷ lines)) served

-- a Write whose target, server and format are not refused may take memory
pub write_takes_memory : (client : Client) (server : ℕ) (mode : Mode) (path : Path) (number : Option ℕ)
    (payload : List ℕ)
    → (object_in path == 0) ≡ false → is_target client.catalog client.store path ≡ true
    → (rights_on client server path).write ≡ true → can_be_written client.catalog path ≡ true
    → is_some (format_at client.catalog path number) ≡ true
    → takes_memory (write_outcome client server mode path number payload).answer.ruling ≡ true
write_takes_memory client server mode path number payload other target may can served =
    let values = new_values client path number payload in
    let stored = after_write_with_event (mode_at mode path) client path values (event_of path values) in
    ap (λ ruling. takes_memory (write_unless ruling client stored).answer.ruling)
    (late_write (object_in path == 0) (is_target client.catalog client.store path)
    (rights_on client server path).write
    (can_be_written client.catalog path) (is_some (format_at client.catalog path number))
    (value_rules client mode path values) other target may can served)
    ∙ late_values client mode path values stored
