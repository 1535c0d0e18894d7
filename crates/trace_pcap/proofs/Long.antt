-- Datagrams that no packet carries.
use Rattle.std.proofs.Common.{◌≡◌, ℕ, ◌+◌, ◌<◌, ◌≤◌, Bool, true, false, List, [], ◌∷◌, ◌++◌, length, get_or, Option}
use Rattle.std.proofs.Common.{None, Some}
use Rattle.std.proofs.Common.{zero, suc, take, refl, sym, ap, ◌∙◌, arith}
use Rattle.std.specs.Prelude.{◌||◌, nat_lt}
use Rattle.std.specs.List.{flat_map, list_any}
use Rattle.std.proofs.lemmas.Bool.{ltb-false, or_from, or_parts}
use Rattle.std.proofs.lemmas.Grind.{flat_map-append}
use Rattle.std.proofs.lemmas.List.{append-nil, take_more, take_all}
use Rattle.std.proofs.lemmas.List.Folds.{list_any-append}
use Rattle.device_machine.specs.declared.event.Event.TheVariants.{Recv, Put, Firmware, Tick}
use Rattle.device_machine.specs.declared.output.Output.{Output}
use Rattle.device_machine.specs.declared.output.Output.TheVariants.{Send, Act}
use Rattle.scenario_image.specs.declared.step.Step.{Step}
use Rattle.scenario_image.specs.declared.step.Step.TheVariants.{Event, Post, Need}
use Rattle.udp_capture.specs.Capture.{most_payload}
use Rattle.scenario_image.specs.Scenario.{Scenario}
use Rattle.trace_file.specs.declared.entry.Entry.{Entry}
use Rattle.fleet_core.specs.Run.{step_at}
use Rattle.trace_pcap.specs.Transmissions.{Transmission, arrival, sending, second_after, entry_transmissions}
use Rattle.trace_pcap.specs.Packets.{is_long}

-- at any second and of any device alike
pub arrival_long : (second device : ℕ) (step : Option Step)
    → list_any is_long (arrival 0 0 step) ≡ list_any is_long (arrival second device step)
arrival_long second device None = refl
arrival_long second device (Some (Event (Recv server bytes))) = refl
arrival_long second device (Some (Event (Put path value))) = refl
arrival_long second device (Some (Event (Firmware code))) = refl
arrival_long second device (Some (Event (Tick seconds))) = refl
arrival_long second device (Some (Post group)) = refl
arrival_long second device (Some (Need group count)) = refl

sending_long : (second device : ℕ) (o : Output)
    → list_any is_long (sending 0 0 o) ≡ list_any is_long (sending second device o)
sending_long second device (Send server bytes) = refl
sending_long second device (Act act) = refl

is_true : (b : Bool) → (b ≡ false → ⊥) → b ≡ true
is_true true other = refl
is_true false other = absurd (other refl)

-- a test of the parts of a list, part by part
pub any_part : {X Y : Type 0} (p : Y → Bool) (f : X → List Y) (xs : List X)
    → list_any (λ x. list_any p (f x)) xs ≡ list_any p (flat_map f xs)
any_part p f [] = refl
any_part p f (x ∷ xs) =
    ap (λ b. list_any p (f x) || b) (any_part p f xs) ∙ sym (list_any-append p (f x) (flat_map f xs))

sendings_by_one : (second device : ℕ) (os : List Output)
    → list_any (λ o. list_any is_long (sending 0 0 o)) os
    ≡ list_any (λ o. list_any is_long (sending second device o)) os
sendings_by_one second device [] = refl
sendings_by_one second device (o ∷ os) =
    ap (λ b. b || list_any (λ x. list_any is_long (sending 0 0 x)) os) (sending_long second device o)
    ∙ ap (λ b. list_any is_long (sending second device o) || b) (sendings_by_one second device os)

pub sendings_long : (second device : ℕ) (os : List Output)
    → list_any (λ o. list_any is_long (sending 0 0 o)) os ≡ list_any is_long (flat_map (sending second device) os)
sendings_long second device os =
    sendings_by_one second device os ∙ any_part is_long (sending second device) os

-- a part of a list that has none has none
pub part_short : {X Y : Type 0} (p : Y → Bool) (f : X → List Y) (xs : List X) (i : ℕ) (x : X) → i < length xs
    → x ≡ get_or xs i x → list_any p (flat_map f xs) ≡ false → list_any p (f x) ≡ false
part_short p f [] i x within is none = absurd (omega arith)
part_short p f (y ∷ ys) zero x within is none =
    ap (λ z. list_any p (f z)) is
    ∙ (or_parts (list_any p (f y)) (list_any p (flat_map f ys))
    (sym (list_any-append p (f y) (flat_map f ys)) ∙ none)).0
part_short p f (y ∷ ys) (suc i) x within is none =
    part_short p f ys i x (omega arith) is
    (or_parts (list_any p (f y)) (list_any p (flat_map f ys))
    (sym (list_any-append p (f y) (flat_map f ys)) ∙ none)).1

-- a list has one that a part of it has
pub part_long : {X Y : Type 0} (p : Y → Bool) (f : X → List Y) (xs : List X) (i : ℕ) (x : X) → i < length xs
    → x ≡ get_or xs i x → list_any p (f x) ≡ true → list_any p (flat_map f xs) ≡ true
part_long p f xs i x within is some =
    is_true (list_any p (flat_map f xs)) (λ none. let e = part_short p f xs i x within is none in cc)

-- one part more
pub short_more : {X Y : Type 0} (p : Y → Bool) (f : X → List Y) (xs : List X) (i : ℕ) (x : X) → i < length xs
    → x ≡ get_or xs i x → list_any p (flat_map f (take i xs)) ≡ false → list_any p (f x) ≡ false
    → list_any p (flat_map f (take (i + 1) xs)) ≡ false
short_more p f xs i x within is before here =
    ap (λ l. list_any p (flat_map f l)) (take_more xs i x within)
    ∙ ap (list_any p) (flat_map-append f (take i xs) (get_or xs i x ∷ []))
    ∙ list_any-append p (flat_map f (take i xs)) (flat_map f (get_or xs i x ∷ []))
    ∙ or_from (list_any p (flat_map f (take i xs))) (list_any p (flat_map f (get_or xs i x ∷ []))) before
    (ap (list_any p) (append-nil (f (get_or xs i x)) ∙ ap f (sym is)) ∙ here)

-- a datagram that is not long is carried
pub is_carried : (t : Transmission) → list_any is_long (t ∷ []) ≡ false → length t.bytes ≤ most_payload
is_carried t none =
    ltb-false most_payload (length t.bytes) (or_parts (nat_lt most_payload (length t.bytes)) false none).0

-- an entry has a long datagram where its step or one of its outputs has
pub entry_long : (s : Scenario) (e : Entry) (a b : Bool)
    → a ≡ list_any is_long (arrival 0 0 (step_at s e.device e.step))
    → b ≡ list_any (λ o. list_any is_long (sending 0 0 o)) e.outputs
    → (a || b) ≡ list_any is_long (entry_transmissions s e)
entry_long s e a b first second =
    let at = second_after s e in
    let step = step_at s e.device e.step in
    let sent = flat_map (sending at e.device) e.outputs in
    ap (λ x. x || b) (first ∙ arrival_long at e.device step)
    ∙ ap (λ x. list_any is_long (arrival at e.device step) || x) (second ∙ sendings_long at e.device e.outputs)
    ∙ sym (list_any-append is_long (arrival at e.device step) sent)

-- no part is left
pub none_left : {X Y : Type 0} (p : Y → Bool) (f : X → List Y) (xs : List X) (i : ℕ) → length xs ≤ i
    → list_any p (flat_map f (take i xs)) ≡ false → list_any p (flat_map f xs) ≡ false
none_left p f xs i end none = sym (ap (λ l. list_any p (flat_map f l)) (take_all i xs end)) ∙ none
