-- Each line of the table of firmware updates, State by State.
use Rattle.std.proofs.Common.{◌≡◌, ◌≢◌, ℕ, zero, suc, ◌<◌, pos, ◌==◌, not, ◌&&◌, Bool, true, false, List, []}
use Rattle.std.proofs.Common.{◌∷◌, Option, None, Some, refl, sym, ap, subst, ◌∙◌, arith}
use Rattle.std.proofs.Common.{ne_eqb}
use Rattle.std.proofs.lemmas.Bool.{cond-false, lt-leb}
use Rattle.std.specs.Prelude.{if◌then◌else◌, nat_le, option_map, MatchBool}
use Rattle.std.specs.List.{AllByRecursion, list_any}
use Rattle.std.specs.Option.{option_or, unwrap_or}
use Rattle.lwm2m_values.specs.declared.value.Value.{Value}
use Rattle.lwm2m_values.specs.declared.value.Value.TheVariants as value
use Rattle.instance_store.specs.Stored.{Stored, has_instance, value_at, with_value}
use Rattle.instance_store.proofs.SetValues.{value_after}
use Rattle.device_firmware.specs.declared.event.FirmwareEvent.{FirmwareEvent}
use Rattle.device_firmware.specs.declared.event.FirmwareEvent.TheVariants.{Cleared, Package, Uri, Update, Ended}
use Rattle.device_firmware.specs.Firmware.{downloading_ended, event_of_package, event_of_uri, firmware_after}
use Rattle.device_firmware.specs.Firmware.{is_failure}
use Rattle.device_firmware.specs.Firmware.{next_from, state_as, state_number, state_of, updating_ended, uri_of}
use Rattle.device_firmware.specs.Firmware.{with_outcome, with_uri}
use Rattle.device_firmware.specs.Laws.{uri_after}
use Rattle.device_firmware.proofs.AfterEvent.{code-outcome, other-outcome, other-uri, same_instances, uri-outcome}
use Rattle.device_firmware.proofs.AfterEvent.{uri-uri}
use Rattle.laws_tables.specs.Firmware.{line_of_failure, firmware_path, Holds, IsAfter, IsInState, Line, line, lines}
use Rattle.laws_tables.specs.Firmware.{StartsAsCleared, WritesAreEvents}

-- ---- a store after an outcome

state_behind : (s : Stored) (o : _)
    → value_at (with_outcome s o) (firmware_path 3) ≡ Some (value.Whole (pos (state_number o.state)))
state_behind s o =
    let state = value.Whole (pos (state_number o.state)) in
    value_after (with_value s (firmware_path 3) state) (firmware_path 5) (firmware_path 3) (value.Whole (pos o.code))
    ∙ value_after s (firmware_path 3) (firmware_path 3) state

uri_is : (old : Option Value) (uri : Option (List ℕ)) → uri_after old uri
    ≡ option_or (option_map value.Text uri) old
uri_is old None = refl
uri_is old (Some text) = refl

after : (event : FirmwareEvent) (states : List ℕ) (s : Stored) (o : _)
    → IsAfter (line event states (uri_of event) (state_number o.state) o.code) s
    (with_outcome (with_uri s (uri_of event)) o)
after event states s o =
    let there = with_uri s (uri_of event) in
    record {
      uri = uri-outcome there o ∙ uri-uri s (uri_of event) ∙ uri_is (value_at s (firmware_path 1)) (uri_of event);
      state = state_behind there o;
      result = code-outcome there o;
      others = λ q not1 not3 not5. other-outcome there o q not3 not5 ∙ other-uri s (uri_of event) q not1;
      instances = same_instances s (uri_of event);
    }

-- ---- a State of a line

-- what an event leads to by its State
leads : (s : Stored) (n : ℕ) (event : FirmwareEvent) → IsInState s n
    → firmware_after s event
    ≡ option_map (with_outcome (with_uri s (uri_of event))) (next_from event (state_of n))
leads s n event is =
    ap (λ b. option_map (with_outcome (with_uri s (uri_of event)))
    (if b then next_from event (state_as (value_at s (firmware_path 3))) else None)) is.there
    ∙ ap (λ v. option_map (with_outcome (with_uri s (uri_of event))) (next_from event (state_as v))) is.state_is

-- it is taken there, and leads to this outcome
taken : (s : Stored) (n : ℕ) (event : FirmwareEvent) (states : List ℕ) (o : _) → IsInState s n
    → next_from event (state_of n) ≡ Some o
    → (new : Stored) × (firmware_after s event ≡ Some new)
    × IsAfter (line event states (uri_of event) (state_number o.state) o.code) s new
taken s n event states o is e = (
  with_outcome (with_uri s (uri_of event)) o,
  leads s n event is ∙ ap (option_map (with_outcome (with_uri s (uri_of event)))) e,
  after event states s o,
)

refused : (s : Stored) (n : ℕ) (event : FirmwareEvent) → IsInState s n → next_from event (state_of n) ≡ None
    → firmware_after s event ≡ None
refused s n event is e = leads s n event is ∙ ap (option_map (with_outcome (with_uri s (uri_of event)))) e

-- the four States
four : (P : ℕ → Type 0) → P 0 → P 1 → P 2 → P 3 → (n : ℕ) → n < 4 → P n
four P a b c d zero h = a
four P a b c d (suc zero) h = b
four P a b c d (suc (suc zero)) h = c
four P a b c d (suc (suc (suc zero))) h = d
four P a b c d (suc (suc (suc (suc n)))) h = absurd (omega arith)

-- ---- the lines

abbrev At : Line → ℕ → Type 0
At l n =
    (s : Stored) → IsInState s n
    → MatchBool (list_any (λ s. s == n) l.states)
    ((new : Stored) × (firmware_after s l.event ≡ Some new) × IsAfter l s new)
    (firmware_after s l.event ≡ None)

by_states : (l : Line) → At l 0 → At l 1 → At l 2 → At l 3 → Holds l
by_states l a b c d s n is = four (At l) a b c d n is.known s is

cleared_line : Holds (line Cleared (0 ∷ 1 ∷ 2 ∷ 3 ∷ []) (Some []) 0 0)
cleared_line =
    by_states (line Cleared (0 ∷ 1 ∷ 2 ∷ 3 ∷ []) (Some []) 0 0)
    (λ s is. taken s 0 Cleared (0 ∷ 1 ∷ 2 ∷ 3 ∷ []) _ is refl)
    (λ s is. taken s 1 Cleared (0 ∷ 1 ∷ 2 ∷ 3 ∷ []) _ is refl)
    (λ s is. taken s 2 Cleared (0 ∷ 1 ∷ 2 ∷ 3 ∷ []) _ is refl)
    (λ s is. taken s 3 Cleared (0 ∷ 1 ∷ 2 ∷ 3 ∷ []) _ is refl)

package_line : Holds (line Package (0 ∷ 2 ∷ []) None 2 0)
package_line =
    by_states (line Package (0 ∷ 2 ∷ []) None 2 0) (λ s is. taken s 0 Package (0 ∷ 2 ∷ []) _ is refl)
    (λ s is. refused s 1 Package is refl) (λ s is. taken s 2 Package (0 ∷ 2 ∷ []) _ is refl)
    (λ s is. refused s 3 Package is refl)

uri_line : (text : List ℕ) → Holds (line (Uri text) (0 ∷ []) (Some text) 1 0)
uri_line text =
    by_states (line (Uri text) (0 ∷ []) (Some text) 1 0) (λ s is. taken s 0 (Uri text) (0 ∷ []) _ is refl)
    (λ s is. refused s 1 (Uri text) is refl) (λ s is. refused s 2 (Uri text) is refl)
    (λ s is. refused s 3 (Uri text) is refl)

update_line : Holds (line Update (2 ∷ []) None 3 0)
update_line =
    by_states (line Update (2 ∷ []) None 3 0) (λ s is. refused s 0 Update is refl)
    (λ s is. refused s 1 Update is refl) (λ s is. taken s 2 Update (2 ∷ []) _ is refl)
    (λ s is. refused s 3 Update is refl)

downloaded_line : Holds (line (Ended 0) (1 ∷ []) None 2 0)
downloaded_line =
    by_states (line (Ended 0) (1 ∷ []) None 2 0) (λ s is. refused s 0 (Ended 0) is refl)
    (λ s is. taken s 1 (Ended 0) (1 ∷ []) _ is refl) (λ s is. refused s 2 (Ended 0) is refl)
    (λ s is. refused s 3 (Ended 0) is refl)

updated_line : Holds (line (Ended 1) (3 ∷ []) None 0 1)
updated_line =
    by_states (line (Ended 1) (3 ∷ []) None 0 1) (λ s is. refused s 0 (Ended 1) is refl)
    (λ s is. refused s 1 (Ended 1) is refl) (λ s is. refused s 2 (Ended 1) is refl)
    (λ s is. taken s 3 (Ended 1) (3 ∷ []) _ is refl)

kept_line : Holds (line (Ended 8) (3 ∷ []) None 2 8)
kept_line =
    by_states (line (Ended 8) (3 ∷ []) None 2 8) (λ s is. refused s 0 (Ended 8) is refl)
    (λ s is. refused s 1 (Ended 8) is refl) (λ s is. refused s 2 (Ended 8) is refl)
    (λ s is. taken s 3 (Ended 8) (3 ∷ []) _ is refl)

-- a code that both tests say is a failure
failed_line : (c : ℕ) (d u : _) → downloading_ended c ≡ Some d → updating_ended c ≡ Some u
    → ◌≡◌ {A = ℕ × ℕ} (state_number d.state, d.code) (0, c)
    → ◌≡◌ {A = ℕ × ℕ} (state_number u.state, u.code) (0, c) → Holds (line_of_failure c)
failed_line c d u down up e f =
    by_states (line_of_failure c) (λ s is. refused s 0 (Ended c) is refl)
    (λ s is. subst (After s) e (taken s 1 (Ended c) (1 ∷ 3 ∷ []) d is down))
    (λ s is. refused s 2 (Ended c) is refl)
    (λ s is. subst (After s) f (taken s 3 (Ended c) (1 ∷ 3 ∷ []) u is up))
  where
    After : Stored → ℕ × ℕ → Type 0
    After s x =
        (new : Stored) × (firmware_after s (Ended c) ≡ Some new)
        × IsAfter (line (Ended c) (1 ∷ 3 ∷ []) None x.0 x.1) s new

pub lines_hold : (text : List ℕ) → AllByRecursion Holds (lines text)
lines_hold text = (
  cleared_line,
  (
    package_line,
    (
      uri_line text,
      (
        update_line,
        (
          downloaded_line,
          (
            updated_line,
            (
              kept_line,
              (
                failed_line 2 _ _ refl refl refl refl,
                (
                  failed_line 3 _ _ refl refl refl refl,
                  (
                    failed_line 4 _ _ refl refl refl refl,
                    (
                      failed_line 5 _ _ refl refl refl refl,
                      (
                        failed_line 6 _ _ refl refl refl refl,
                        (
                          failed_line 7 _ _ refl refl refl refl,
                          (failed_line 9 _ _ refl refl refl refl, tt),
                        ),
                      ),
                    ),
                  ),
                ),
              ),
            ),
          ),
        ),
      ),
    ),
  ),
)

-- ---- other codes

no_failure : (c : ℕ) → 9 < c → is_failure c ≡ false
no_failure c h = ap (λ b. nat_le 2 c && (b && not (c == 8))) (lt-leb c 9 h) ∙ never (nat_le 2 c)
  where
    never : (b : Bool) → (b && false) ≡ false
    never true = refl
    never false = refl

not_ended : (c : ℕ) → 9 < c → (downloading_ended c ≡ None) × (updating_ended c ≡ None)
not_ended c h = (
  cond-false (c == 0) _ _ (ne_eqb c 0 (λ e. omega (arith, h, e)))
      ∙ cond-false (is_failure c) _ _ (no_failure c h),
  cond-false (c == 1) _ _ (ne_eqb c 1 (λ e. omega (arith, h, e)))
      ∙ cond-false (c == 8) _ _ (ne_eqb c 8 (λ e. omega (arith, h, e)))
      ∙ cond-false (is_failure c) _ _ (no_failure c h),
)

pub others_refused : (s : Stored) (n code : ℕ) → IsInState s n → 9 < code → firmware_after s (Ended code) ≡ None
others_refused s n code is h =
    four (λ n. IsInState s n → firmware_after s (Ended code) ≡ None)
    (λ is. refused s 0 (Ended code) is refl) (λ is. refused s 1 (Ended code) is (not_ended code h).0)
    (λ is. refused s 2 (Ended code) is refl) (λ is. refused s 3 (Ended code) is (not_ended code h).1)
    n is.known is

-- ---- events

pub events : WritesAreEvents
events = record {
  empty_package = refl;
  zero_byte = refl;
  other_package = by_bytes;
  empty_uri = refl;
  other_uri = by_text;
}
  where
    by_bytes : (bytes : List ℕ) → bytes ≢ [] → bytes ≢ 0 ∷ [] → event_of_package bytes ≡ Package
    by_bytes [] some other = absurd (some refl)
    by_bytes (b ∷ []) some other =
        ap (λ t. if t then Cleared else Package) (ne_eqb b 0 (λ e. other (ap (λ n. n ∷ []) e)))
    by_bytes (b ∷ c ∷ bytes) some other = refl

    by_text : (text : List ℕ) → text ≢ [] → event_of_uri text ≡ Uri text
    by_text [] some = absurd (some refl)
    by_text (c ∷ text) some = refl

-- ---- the start

-- what holds of none, and of each of some
either : {A B : Type 0} (f : Option A → B) (b : B) → f None ≡ b → ((a : A) → f (Some a) ≡ b) → (o : Option A) → f o ≡ b
either f b none some None = none
either f b none some (Some a) = some a

pub starts : StartsAsCleared
starts s =
    by_instance (λ outcome. unwrap_or (option_map (with_outcome (with_uri s (Some []))) outcome) s)
    (has_instance s (record { object = 5; instance = 0 }))
    (next_from Cleared (state_as (value_at s (firmware_path 3)))) (next_from Cleared None) refl refl
    (either (λ state. next_from Cleared state) (next_from Cleared None) refl (λ state. refl)
    (state_as (value_at s (firmware_path 3))))
  where
    idle : Stored
    idle =
        with_value (with_value (with_value s (firmware_path 1) (value.Text [])) (firmware_path 3) (value.Whole (pos 0)))
        (firmware_path 5) (value.Whole (pos 0))

    by_instance : {A : Type 0} (after : Option A → Stored) (b : Bool) (outcome cleared : Option A) → after None ≡ s
        → after cleared ≡ idle → outcome ≡ cleared → (if b then idle else s) ≡ after (if b then outcome else None)
    by_instance after false outcome cleared none is_idle e = sym none
    by_instance after true outcome cleared none is_idle e = sym is_idle ∙ ap after (sym e)
