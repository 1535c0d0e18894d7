-- What was said of observations is still what their present answers are, where none of these has changed.
use Rattle.std.proofs.Common.{◌≡◌, ℕ, ◌<◌, ◌^◌, Bool, true, false, cond, not, List, [], ◌∷◌, filter, map}
use Rattle.std.proofs.Common.{Option, None, Some, MatchOption, pos, refl, sym, ap, subst, ◌∙◌, eq-eqb}
use Rattle.std.proofs.lemmas.Bool.{and_from}
use Rattle.std.proofs.lemmas.Slice.Eq.{bytes_eq-Decides}
use Rattle.std.specs.Bool.{if◌then◌else◌}
use Rattle.std.specs.Option.{option_map, unwrap_or}
use Rattle.lemmas.proofs.Tests.{never_both}
use Rattle.lwm2m_values.specs.declared.value.Value.{Value}
use Rattle.lwm2m_values.specs.declared.value.Value.TheVariants.{Whole}
use Rattle.object_defs.specs.Path.{single_of}
use Rattle.object_defs.specs.declared.path.FullPath.{FullPath}
use Rattle.instance_store.specs.Stored.{Stored, with_value}
use Rattle.device_firmware.specs.Firmware.{firmware_after, firmware_resource, outcome_in, state_number, with_outcome}
use Rattle.device_firmware.specs.declared.event.FirmwareEvent.TheVariants.{Ended}
use Rattle.notifier.specs.Due.{IsFirstDue, IsNeverDue, is_one_due}
use Rattle.notifier.specs.Observed.{as_closed, is_awaited, is_named, next_number, with_acknowledged, with_registered}
use Rattle.notifier.specs.Said.{Watch, initial_outlook, said_with, said_without}
use Rattle.notifier.specs.declared.observation.Observation.{Observation}
use Rattle.notifier.specs.declared.pending.Outlook.{Outlook}
use Rattle.device_requests.specs.Client.{Client, with_stored}
use Rattle.device_notifications.specs.Laws.{IsFirstSending}
use Rattle.device_notifications.specs.Reach.{DifferAt}
use Rattle.device_notifications.specs.Second.{quiet_sweep, second}
use Rattle.device_notifications.proofs.Differing.{differ_at_one, differ_at_two}
use Rattle.device_notifications.proofs.Resting.{first_sending, quiet_second}
use Rattle.device_notifications.specs.Outlooks.{IsKnown, IsKnownBut, outlook_of, outlooks_of}
use Rattle.device_machine.specs.Memory.{outcome_paths}

without : (f : Observation → Outlook) (p : Observation → Bool) (os : List Observation)
    → said_without p os (map f os) ≡ map f (filter (λ o. not (p o)) os)
without f p [] = refl
without f p (o ∷ os) =
    elim (p o) as (λ b. (if b then said_without p os (map f os) else f o ∷ said_without p os (map f os))
    ≡ map f (cond (not b) (o ∷ filter (λ x. not (p x)) os) (filter (λ x. not (p x)) os))) [
      | true ↦ without f p os
      | false ↦ ap (λ t. f o ∷ t) (without f p os)
    ]

-- where observations go
pub known_without : (client : Client) (p : Observation → Bool) (old new : Watch) → IsKnown client old
    → new.list ≡ filter (λ o. not (p o)) old.list → new.said ≡ said_without p old.list old.said → IsKnown client new
known_without client p old new known list said =
    said ∙ ap (λ ss. said_without p old.list ss) known ∙ without (outlook_of client) p old.list
    ∙ ap (λ os. outlooks_of client os) (sym list)

abbrev AreKnownBut : ℕ → List ℕ → Client → List Observation → List Outlook → Type 0
AreKnownBut server token client os ss = IsKnownBut server token client (record { list = os; said = ss })

each_known : (server : ℕ) (token : List ℕ) (client : Client) (os : List Observation)
    → AreKnownBut server token client os (outlooks_of client os)
each_known server token client [] = tt
each_known server token client (o ∷ os) = (λ other. refl, each_known server token client os)

-- where the present answers of all are known
pub known_but : (server : ℕ) (token : List ℕ) (client : Client) (watch : Watch) → IsKnown client watch
    → IsKnownBut server token client watch
known_but server token client watch known =
    subst (AreKnownBut server token client watch.list) (sym known) (each_known server token client watch.list)

has_its_name : (o : Observation) → is_named o.server o.token o ≡ true
has_its_name o = and_from _ _ (eq-eqb o.server o.server refl) ((bytes_eq-Decides o.token o.token).1 refl)

registered : (client : Client) (new : Observation) (os : List Observation)
    → AreKnownBut new.server new.token client (with_registered os new)
    (said_with new.server new.token os (outlooks_of client os))
registered client new [] = (λ other. absurd (never_both _ (has_its_name new) other), tt)
registered client new (o ∷ os) =
    elim (is_named new.server new.token o) as (λ b. AreKnownBut new.server new.token client
    (if b then record new { number = next_number o.number } ∷ os else o ∷ with_registered os new)
    (if b then initial_outlook ∷ outlooks_of client os
    else outlook_of client o ∷ said_with new.server new.token os (outlooks_of client os))) [
      | true ↦ (
        λ other. absurd (never_both _ (has_its_name new) other),
        each_known new.server new.token client os,
      )
      | false ↦ (λ other. refl, registered client new os)
    ]

-- where one was registered, of which nothing is said yet
pub known_registered : (client : Client) (new : Observation) (old next : Watch) → IsKnown client old
    → next.list ≡ with_registered old.list new → next.said ≡ said_with new.server new.token old.list old.said
    → IsKnownBut new.server new.token client next
known_registered client new old next known list said =
    let saids : said_with new.server new.token old.list (outlooks_of client old.list) ≡ next.said =
    ap (λ ss. said_with new.server new.token old.list ss) (sym known) ∙ sym said in
    subst (AreKnownBut new.server new.token client next.list) saids
    (subst (λ os. AreKnownBut new.server new.token client os
    (said_with new.server new.token old.list (outlooks_of client old.list))) (sym list)
    (registered client new old.list))

closed : (client : Client) (p : Observation → Bool) (os : List Observation)
    → outlooks_of client os ≡ outlooks_of client (map (λ o. if p o then as_closed o else o) os)
closed client p [] = refl
closed client p (o ∷ os) =
    elim (p o) as (λ b. outlook_of client o ∷ outlooks_of client os
    ≡ outlook_of client (if b then as_closed o else o)
    ∷ outlooks_of client (map (λ x. if p x then as_closed x else x) os)) [
      | true ↦ ap (λ t. outlook_of client o ∷ t) (closed client p os)
      | false ↦ ap (λ t. outlook_of client o ∷ t) (closed client p os)
    ]

-- where some of them are closed
pub known_closed : (client : Client) (server mid : ℕ) (old new : Watch) → IsKnown client old
    → new.list ≡ with_acknowledged old.list server mid → new.said ≡ old.said → IsKnown client new
known_closed client server mid old new known list said =
    said ∙ known ∙ closed client (is_awaited server mid) old.list ∙ ap (λ os. outlooks_of client os) (sym list)

-- where they were said anew if something changed
pub known_after : (changed : Bool) (client after : Client) (old new : Watch) → IsKnown client old
    → (changed ≡ false → after ≡ client) → (changed ≡ true → IsKnown after new) → (changed ≡ false → new ≡ old)
    → IsKnown after new
known_after true client after old new known same anew still = anew refl
known_after false client after old new known same anew still =
    ap (λ (w : Watch). w.said) (still refl) ∙ known
    ∙ (λ j. outlooks_of (sym (same refl) j) ((sym (still refl) j).list))

-- what is said where the values at these full paths alone have changed
abbrev pub SaysAnew : List FullPath → Client → Watch → Watch → Type 0
SaysAnew qs client old new =
    (before : Stored) → DifferAt qs before client.store → IsKnown (with_stored client before) old → IsKnown client new

known_again : (qs : List FullPath) (stored : Stored) (client after : Client) (old new : Watch) → IsKnown client old
    → after ≡ with_stored client stored → DifferAt qs client.store stored → SaysAnew qs after old new
    → IsKnown after new
known_again qs stored client after old new known is differ anew =
    anew client.store (subst (λ (k : Client). DifferAt qs client.store k.store) (sym is) differ)
    (known ∙ ap (λ (k : Client). outlooks_of (with_stored k client.store) old.list) (sym is))

-- where a value was set
pub known_put : (p : FullPath) (v : Value) (client after : Client) (old new : Watch) → IsKnown client old
    → after ≡ with_stored client (with_value client.store p v) → SaysAnew (p ∷ []) after old new → IsKnown after new
known_put p v client after old new known is anew =
    known_again (p ∷ []) (with_value client.store p v) client after old new known is
    (differ_at_one client.store p v) anew

-- an end of a download or an update sets no other value than the State and the Update Result
differ_ended : (s : Stored) (code : ℕ) → DifferAt outcome_paths s (unwrap_or (firmware_after s (Ended code)) s)
differ_ended s code =
    elim (outcome_in s (Ended code)) as (λ outcome.
    DifferAt outcome_paths s (unwrap_or (option_map (with_outcome s) outcome) s)) [
      | None ↦ record { instances = refl; others = λ q other. refl }
      | Some outcome ↦ differ_at_two s (single_of (firmware_resource 3)) (single_of (firmware_resource 5))
          (Whole (pos (state_number outcome.state))) (Whole (pos outcome.code))
    ]

-- where a download or an update has ended
pub known_ended : (code : ℕ) (client after : Client) (old new : Watch) → IsKnown client old
    → after ≡ with_stored client (unwrap_or (firmware_after client.store (Ended code)) client.store)
    → SaysAnew outcome_paths after old new → IsKnown after new
known_ended code client after old new known is anew =
    known_again outcome_paths (unwrap_or (firmware_after client.store (Ended code)) client.store) client after old new
    known is (differ_ended client.store code) anew

-- the first second that is due by what was said is the first in which something is sent or removed
pub due_is : (client : Client) (clock next_id : ℕ) (os : List Observation) (ss : List Outlook) (r : Option ℕ)
    → ss ≡ outlooks_of client os → MatchOption r (IsNeverDue clock os ss) (λ first. IsFirstDue clock os ss first)
    → MatchOption r
    ((t : ℕ) → clock < t → t < 2 ^ 64 → second client t next_id os ≡ quiet_sweep next_id os)
    (λ first. IsFirstSending client clock next_id os first)
due_is client clock next_id os ss None known h =
    λ t after fits. quiet_second client t next_id os (ap (λ xs. is_one_due os xs t) (sym known) ∙ h t after fits)
due_is client clock next_id os ss (Some first) known h =
    first_sending client clock next_id os first (subst (λ xs. IsFirstDue clock os xs first) known h)
