-- What a datagram is to a device, and that it is nothing else.
use Rattle.std.proofs.Common.{◌≡◌, ℕ, ◌/◌, ◌%◌, ◌==◌, nat_le, Bool, true, false, ◌&&◌}
use Rattle.std.proofs.Common.{◌⊎◌, inl, inr, List, [], ◌∷◌, length, Option, None, Some}
use Rattle.std.proofs.Common.{Result, Ok, Err, refl, sym, ap, ◌∙◌, arith, eq-eqb}
use Rattle.std.specs.Bool.{if◌then◌else◌}
use Rattle.std.proofs.lemmas.Bool.{eqb-true, ne_eqb}
use Rattle.std.proofs.lemmas.Bool.Decides.{nat_tests}
use Rattle.coap_codec.specs.Message.{Message, Spells}
use Rattle.coap_codec.specs.Reading.{reading_of}
use Rattle.coap_codec.specs.declared.fault.CoapFault.{CoapFault}
use Rattle.coap_codec.specs.declared.kind.Kind.{Kind}
use Rattle.coap_codec.specs.declared.kind.Kind.TheVariants.{Con, Non, Ack, Rst}
use Rattle.coap_codec.proofs.OneReading.{reading_of_spelled}
use Rattle.coap_codec.proofs.Soundness.{AreBytes, spelled_from_reading}
use Rattle.device_requests.specs.Client.{has_account}
use Rattle.device_requests.specs.Request.{outcome_of}
use Rattle.device_machine.specs.Reactions.{Reaction, again, claimed_mid, claims_confirmable, is_request}
use Rattle.device_machine.specs.Reactions.{on_acknowledgement, on_datagram, on_message, on_outcome, on_request}
use Rattle.device_machine.specs.Reactions.{on_reset, reaction_to, repeat_of, reset}
use Rattle.device_machine.specs.Reactions.{sends, silence}
use Rattle.device_machine.specs.State.{Machine}
use Rattle.device_machine.specs.declared.event.Event.TheVariants.{Recv}
use Rattle.device_machine.specs.declared.recorded.Recorded.{Recorded}
use Rattle.laws_device.specs.Receiving.{Arrival, BeginsConfirmable, Brings, BringsNoMessage}
use Rattle.laws_device.specs.Receiving.{BringsRequest, IsArrival, IsMethod}
use Rattle.laws_device.specs.Receiving.Arrival.{ignored, rejected, empty_ack, empty_reset, repeated, fresh}
use Rattle.laws_device.specs.Receiving.IsArrival.{of_stranger, malformed, malformed_otherwise, confirmable_otherwise}
use Rattle.laws_device.specs.Receiving.IsArrival.{non_confirmable_otherwise, acknowledges, acknowledges_otherwise}
use Rattle.laws_device.specs.Receiving.IsArrival.{resets, resets_otherwise, asks_again, asks}
use Rattle.laws_device.proofs.Repeated.{oldest, oldest_found, none_repeated, no_repeat_found}

-- ---- bytes that are no message

pub begins : (bytes : List ℕ) → claims_confirmable bytes ≡ true → BeginsConfirmable bytes (claimed_mid bytes)
begins [] h = cc
begins (a ∷ []) h = cc
begins (a ∷ b ∷ []) h = cc
begins (a ∷ b ∷ c ∷ []) h = cc
begins (a ∷ b ∷ c ∷ d ∷ rest) h =
    let bits = both_bits (nat_le 4 (length (a ∷ b ∷ c ∷ d ∷ rest))) (a / 64 == 1) (a / 16 % 4 == 0) h in
    record {
      first = a;
      code = b;
      high = c;
      low = d;
      rest = rest;
      header = refl;
      version = eqb-true (a / 64) 1 bits.0;
      confirmable = eqb-true (a / 16 % 4) 0 bits.1;
      mid_is = refl;
    }
  where
    both_bits : (long version kind : Bool) → (long && (version && kind)) ≡ true → (version ≡ true) × (kind ≡ true)
    both_bits true true true k = (refl, refl)
    both_bits true true false k = cc
    both_bits true false kind k = cc
    both_bits false version kind k = cc

pub claims_begun : (a b c d : ℕ) (rest : List ℕ) → a / 64 ≡ 1 → a / 16 % 4 ≡ 0
    → claims_confirmable (a ∷ b ∷ c ∷ d ∷ rest) ≡ true
claims_begun a b c d rest h k =
    let long : nat_le 4 (length (a ∷ b ∷ c ∷ d ∷ rest)) ≡ true = grind (arith, nat_tests) in
    let version : (a / 64 == 1) ≡ true = eq-eqb (a / 64) 1 h in
    let kind : (a / 16 % 4 == 0) ≡ true = eq-eqb (a / 16 % 4) 0 k in
    rw (long, version, kind) refl

pub claims : (bytes : List ℕ) (mid : ℕ) → BeginsConfirmable bytes mid → claims_confirmable bytes ≡ true
claims bytes mid h =
    ap claims_confirmable h.header ∙ claims_begun h.first h.code h.high h.low h.rest h.version h.confirmable

pub mid_begun : (bytes : List ℕ) (mid : ℕ) → BeginsConfirmable bytes mid → mid ≡ claimed_mid bytes
mid_begun bytes mid h = h.mid_is ∙ sym (ap claimed_mid h.header)

-- ---- the arrival

abbrev pub noise_arrival : List ℕ → Bool → Arrival
noise_arrival bytes confirmable = if confirmable then rejected (claimed_mid bytes) else ignored

abbrev pub request_arrival : Message → Option Recorded → Arrival
request_arrival m None = fresh m
request_arrival m (Some r) = repeated m r

abbrev pub message_arrival : Machine → ℕ → Message → Kind → Arrival
message_arrival f server m Con =
    if is_request m.code then request_arrival m (repeat_of f server m) else rejected m.mid
message_arrival f server m Non = if is_request m.code then request_arrival m (repeat_of f server m) else ignored
message_arrival f server m Ack = if m.code == 0 then empty_ack m.mid else ignored
message_arrival f server m Rst = if m.code == 0 then empty_reset m.mid else ignored

abbrev pub datagram_arrival : Machine → ℕ → List ℕ → Result Message CoapFault → Arrival
datagram_arrival f server bytes (Ok m) = message_arrival f server m m.kind
datagram_arrival f server bytes (Err fault) = noise_arrival bytes (claims_confirmable bytes)

abbrev pub arrival_of : Machine → ℕ → List ℕ → Arrival
arrival_of f server bytes =
    if has_account f.kept.client server then datagram_arrival f server bytes (reading_of bytes) else ignored

abbrev pub reaction_on : Machine → ℕ → Arrival → Reaction
reaction_on f server ignored = silence f
reaction_on f server (rejected mid) = sends f server (reset mid)
reaction_on f server (empty_ack mid) = on_acknowledgement f server mid
reaction_on f server (empty_reset mid) = on_reset f server mid
reaction_on f server (repeated m r) = record { outputs = again server m.kind r.reply; flat = f }
reaction_on f server (fresh m) = on_outcome f server m (outcome_of f.kept.client server m)

pub choice : {X Y : Type 0} (g : X → Y) (b : Bool) (x y : X) → (if b then g x else g y) ≡ g (if b then x else y)
choice g true x y = refl
choice g false x y = refl

pub chosen : {Y : Type 0} (b : Bool) (x y z w : Y) → x ≡ z → y ≡ w → (if b then x else y) ≡ (if b then z else w)
chosen true x y z w h k = h
chosen false x y z w h k = k

pub request_reacts : (f : Machine) (server : ℕ) (m : Message) (o : Option Recorded)
    → on_request f server m o ≡ reaction_on f server (request_arrival m o)
request_reacts f server m None = refl
request_reacts f server m (Some r) = refl

pub message_reacts : (f : Machine) (server : ℕ) (m : Message) (kind : Kind)
    → on_message f server m kind ≡ reaction_on f server (message_arrival f server m kind)
message_reacts f server m Con =
    let o = repeat_of f server m in
    chosen (is_request m.code) (on_request f server m o) (sends f server (reset m.mid))
    (reaction_on f server (request_arrival m o)) (sends f server (reset m.mid)) (request_reacts f server m o) refl
    ∙ choice (reaction_on f server) (is_request m.code) (request_arrival m o) (rejected m.mid)
message_reacts f server m Non =
    let o = repeat_of f server m in
    chosen (is_request m.code) (on_request f server m o) (silence f)
    (reaction_on f server (request_arrival m o)) (silence f) (request_reacts f server m o) refl
    ∙ choice (reaction_on f server) (is_request m.code) (request_arrival m o) ignored
message_reacts f server m Ack = choice (reaction_on f server) (m.code == 0) (empty_ack m.mid) ignored
message_reacts f server m Rst = choice (reaction_on f server) (m.code == 0) (empty_reset m.mid) ignored

pub datagram_reacts : (f : Machine) (server : ℕ) (bytes : List ℕ) (r : Result Message CoapFault)
    → on_datagram f server bytes r ≡ reaction_on f server (datagram_arrival f server bytes r)
datagram_reacts f server bytes (Ok m) = message_reacts f server m m.kind
datagram_reacts f server bytes (Err fault) =
    choice (reaction_on f server) (claims_confirmable bytes) (rejected (claimed_mid bytes)) ignored

pub reacts : (f : Machine) (server : ℕ) (bytes : List ℕ)
    → reaction_to f (Recv server bytes) ≡ reaction_on f server (arrival_of f server bytes)
reacts f server bytes =
    let r = reading_of bytes in
    chosen (has_account f.kept.client server) (on_datagram f server bytes r) (silence f)
    (reaction_on f server (datagram_arrival f server bytes r)) (silence f) (datagram_reacts f server bytes r) refl
    ∙ choice (reaction_on f server) (has_account f.kept.client server) (datagram_arrival f server bytes r) ignored

-- ---- it is what the bytes bring

pub whichever : {X : Type 0} (P : X → Type 0) (b : Bool) (x y : X) → (b ≡ true → P x) → (b ≡ false → P y)
    → P (if b then x else y)
whichever P true x y h k = h refl
whichever P false x y h k = k refl

-- codes of class 0 other than 0.00
pub method_said : (code : ℕ) → is_request code ≡ true → IsMethod code
method_said code h = (grind (arith, nat_tests), grind (arith, nat_tests))

pub method_tested : (code : ℕ) → IsMethod code → is_request code ≡ true
method_tested code h = grind (arith, nat_tests)

pub no_method_said : (code : ℕ) → is_request code ≡ false → IsMethod code → ⊥
no_method_said code h k = let no : true ≡ false = sym (method_tested code k) ∙ h in cc

pub no_method_tested : (code : ℕ) → (IsMethod code → ⊥) → is_request code ≡ false
no_method_tested code h = by (is_request code) refl
  where
    by : (b : Bool) → is_request code ≡ b → b ≡ false
    by true e = absurd (h (method_said code e))
    by false e = refl

pub not_zero : (n : ℕ) → (n == 0) ≡ false → n ≡ 0 → ⊥
not_zero n h e = let k : true ≡ false = sym (eq-eqb n 0 e) ∙ h in cc

pub request_is : (f : Machine) (server : ℕ) (bytes : List ℕ) (m : Message) (o : Option Recorded)
    → BringsRequest f server bytes m → repeat_of f server m ≡ o → IsArrival f server bytes (request_arrival m o)
request_is f server bytes m None h e = asks m h (none_repeated f server m e)
request_is f server bytes m (Some r) h e = asks_again m r h (oldest f server m r e)

pub message_is : (f : Machine) (server : ℕ) (bytes : List ℕ) (m : Message) (kind : Kind) → Brings f server bytes m
    → m.kind ≡ kind → IsArrival f server bytes (message_arrival f server m kind)
message_is f server bytes m Con h k =
    whichever (IsArrival f server bytes) (is_request m.code) (request_arrival m (repeat_of f server m))
    (rejected m.mid)
    (λ r. request_is f server bytes m (repeat_of f server m) (record {
      brings = h;
      carries = inl k;
      method = method_said m.code r;
    }) refl)
    (λ r. confirmable_otherwise m h k (no_method_said m.code r))
message_is f server bytes m Non h k =
    whichever (IsArrival f server bytes) (is_request m.code) (request_arrival m (repeat_of f server m)) ignored
    (λ r. request_is f server bytes m (repeat_of f server m) (record {
      brings = h;
      carries = inr k;
      method = method_said m.code r;
    }) refl)
    (λ r. non_confirmable_otherwise m h k (no_method_said m.code r))
message_is f server bytes m Ack h k =
    whichever (IsArrival f server bytes) (m.code == 0) (empty_ack m.mid) ignored
    (λ z. acknowledges m h k (eqb-true m.code 0 z)) (λ z. acknowledges_otherwise m h k (not_zero m.code z))
message_is f server bytes m Rst h k =
    whichever (IsArrival f server bytes) (m.code == 0) (empty_reset m.mid) ignored
    (λ z. resets m h k (eqb-true m.code 0 z)) (λ z. resets_otherwise m h k (not_zero m.code z))

pub unread : (bytes : List ℕ) (fault : CoapFault) → reading_of bytes ≡ Err fault → (m : Message) → Spells bytes m → ⊥
unread bytes fault e m spells =
    let k : Ok m ≡ Err fault = sym (reading_of_spelled bytes m spells) ∙ e in cc

pub datagram_is : (f : Machine) (server : ℕ) (bytes : List ℕ) (r : Result Message CoapFault) → AreBytes bytes
    → has_account f.kept.client server ≡ true → reading_of bytes ≡ r
    → IsArrival f server bytes (datagram_arrival f server bytes r)
datagram_is f server bytes (Ok m) all a e =
    message_is f server bytes m m.kind (record { account = a; spelled = spelled_from_reading bytes m all e }) refl
datagram_is f server bytes (Err fault) all a e =
    let none : BringsNoMessage f server bytes = record { account = a; spelled = unread bytes fault e } in
    whichever (IsArrival f server bytes) (claims_confirmable bytes) (rejected (claimed_mid bytes)) ignored
    (λ c. malformed (claimed_mid bytes) none (begins bytes c))
    (λ c. malformed_otherwise none
    (λ mid b. let k : true ≡ false = sym (claims bytes mid b) ∙ c in cc))

pub arrival_is : (f : Machine) (server : ℕ) (bytes : List ℕ) → AreBytes bytes
    → IsArrival f server bytes (arrival_of f server bytes)
arrival_is f server bytes all =
    whichever (IsArrival f server bytes) (has_account f.kept.client server)
    (datagram_arrival f server bytes (reading_of bytes)) ignored
    (λ a. datagram_is f server bytes (reading_of bytes) all a refl) (λ a. of_stranger a)

-- ---- and nothing else

pub brought : (f : Machine) (server : ℕ) (bytes : List ℕ) (m : Message) → Brings f server bytes m
    → arrival_of f server bytes ≡ message_arrival f server m m.kind
brought f server bytes m h =
    ap (λ b. if b then datagram_arrival f server bytes (reading_of bytes) else ignored) h.account
    ∙ ap (datagram_arrival f server bytes) (reading_of_spelled bytes m h.spelled)

pub typed : (f : Machine) (server : ℕ) (bytes : List ℕ) (m : Message) (kind : Kind) → Brings f server bytes m
    → m.kind ≡ kind → arrival_of f server bytes ≡ message_arrival f server m kind
typed f server bytes m kind h k = brought f server bytes m h ∙ ap (message_arrival f server m) k

pub requested : (f : Machine) (server : ℕ) (bytes : List ℕ) (m : Message) (o : Option Recorded)
    → BringsRequest f server bytes m → repeat_of f server m ≡ o
    → arrival_of f server bytes ≡ request_arrival m o
requested f server bytes m o h e = by h.carries
  where
    by : (m.kind ≡ Con) ⊎ (m.kind ≡ Non) → arrival_of f server bytes ≡ request_arrival m o
    by (inl k) =
        typed f server bytes m Con h.brings k
        ∙ ap (λ b. if b then request_arrival m (repeat_of f server m) else rejected m.mid)
        (method_tested m.code h.method)
        ∙ ap (request_arrival m) e
    by (inr k) =
        typed f server bytes m Non h.brings k
        ∙ ap (λ b. if b then request_arrival m (repeat_of f server m) else ignored) (method_tested m.code h.method)
        ∙ ap (request_arrival m) e

pub noise_by : (f : Machine) (server : ℕ) (bytes : List ℕ) (r : Result Message CoapFault) → AreBytes bytes
    → ((m : Message) → Spells bytes m → ⊥) → reading_of bytes ≡ r
    → datagram_arrival f server bytes r ≡ noise_arrival bytes (claims_confirmable bytes)
noise_by f server bytes (Ok m) all h e = absurd (h m (spelled_from_reading bytes m all e))
noise_by f server bytes (Err fault) all h e = refl

pub noise : (f : Machine) (server : ℕ) (bytes : List ℕ) → AreBytes bytes → BringsNoMessage f server bytes
    → arrival_of f server bytes ≡ noise_arrival bytes (claims_confirmable bytes)
noise f server bytes all h =
    ap (λ b. if b then datagram_arrival f server bytes (reading_of bytes) else ignored) h.account
    ∙ noise_by f server bytes (reading_of bytes) all h.spelled refl

pub unclaimed : (bytes : List ℕ) → ((mid : ℕ) → BeginsConfirmable bytes mid → ⊥) → claims_confirmable bytes ≡ false
unclaimed bytes h = by (claims_confirmable bytes) refl
  where
    by : (b : Bool) → claims_confirmable bytes ≡ b → b ≡ false
    by true e = absurd (h (claimed_mid bytes) (begins bytes e))
    by false e = refl

pub arrives_so : (f : Machine) (server : ℕ) (bytes : List ℕ) (arrival : Arrival) → AreBytes bytes
    → IsArrival f server bytes arrival → arrival_of f server bytes ≡ arrival
arrives_so f server bytes arrival all (of_stranger a) =
    ap (λ b. if b then datagram_arrival f server bytes (reading_of bytes) else ignored) a
arrives_so f server bytes arrival all (malformed mid n b) =
    noise f server bytes all n ∙ ap (noise_arrival bytes) (claims bytes mid b)
    ∙ ap (λ i. rejected i) (sym (mid_begun bytes mid b))
arrives_so f server bytes arrival all (malformed_otherwise n b) =
    noise f server bytes all n ∙ ap (noise_arrival bytes) (unclaimed bytes b)
arrives_so f server bytes arrival all (confirmable_otherwise m h k r) =
    typed f server bytes m Con h k
    ∙ ap (λ b. if b then request_arrival m (repeat_of f server m) else rejected m.mid) (no_method_tested m.code r)
arrives_so f server bytes arrival all (non_confirmable_otherwise m h k r) =
    typed f server bytes m Non h k
    ∙ ap (λ b. if b then request_arrival m (repeat_of f server m) else ignored) (no_method_tested m.code r)
arrives_so f server bytes arrival all (acknowledges m h k z) =
    typed f server bytes m Ack h k ∙ ap (λ b. if b then empty_ack m.mid else ignored) (eq-eqb m.code 0 z)
arrives_so f server bytes arrival all (acknowledges_otherwise m h k z) =
    typed f server bytes m Ack h k ∙ ap (λ b. if b then empty_ack m.mid else ignored) (ne_eqb m.code 0 z)
arrives_so f server bytes arrival all (resets m h k z) =
    typed f server bytes m Rst h k ∙ ap (λ b. if b then empty_reset m.mid else ignored) (eq-eqb m.code 0 z)
arrives_so f server bytes arrival all (resets_otherwise m h k z) =
    typed f server bytes m Rst h k ∙ ap (λ b. if b then empty_reset m.mid else ignored) (ne_eqb m.code 0 z)
arrives_so f server bytes arrival all (asks_again m r h o) =
    requested f server bytes m (Some r) h (oldest_found f server m r o)
arrives_so f server bytes arrival all (asks m h n) =
    requested f server bytes m None h (no_repeat_found f server m n)
