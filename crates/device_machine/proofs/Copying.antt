-- Which bytes are copied when they are read, and which are ignored for their header.
use Rattle.std.proofs.Common.{◌≡◌, ℕ, ◌+◌, ◌*◌, ◌/◌, ◌%◌, ◌<◌, ◌≤◌, ◌==◌, nat_le, nat_lt, Bool, true, false, not}
use Rattle.std.proofs.Common.{◌&&◌, ◌||◌, List, [], ◌∷◌, ◌++◌, length, drop, Option, None, Some, is_none, MatchOption}
use Rattle.std.proofs.Common.{Result, Ok, Err, IsOk, MatchResult, length-append, refl, sym, ap, subst, ◌∙◌, arith}
use Rattle.std.proofs.Common.{eq-eqb}
use Rattle.std.specs.Bool.{if◌then◌else◌}
use Rattle.std.specs.List.{slice_index}
use Rattle.std.specs.Cmp.Derive.{both_true}
use Rattle.std.specs.Option.{option_or}
use Rattle.std.proofs.lemmas.Bool.{eqb-true}
use Rattle.std.proofs.lemmas.Bool.Decides.{nat_tests}
use Rattle.lemmas.proofs.Tests.{and_first}
use Rattle.coap_codec.specs.Fault.{HasEarlyFault, HasFault, amount, header_fault, option_fault, place_fault}
use Rattle.coap_codec.specs.Fault.{is_empty_message, token_length, width}
use Rattle.coap_codec.specs.Message.{Message, Spells, kind_number, options_bytes, payload_bytes, spelling}
use Rattle.coap_codec.specs.declared.fault.CoapFault.{CoapFault}
use Rattle.coap_codec.specs.declared.fault.CoapFault.TheVariants.{Short, Version, TokenLength, EmptyWithData}
use Rattle.coap_codec.specs.declared.fault.CoapFault.TheVariants.{OptionCut, OptionReserved, OptionNumber}
use Rattle.coap_codec.specs.declared.fault.CoapFault.TheVariants.{PayloadEmpty, Memory}
use Rattle.coap_codec.specs.declared.kind.Kind.{Kind}
use Rattle.coap_codec.specs.declared.kind.Kind.TheVariants.{Con, Non, Ack, Rst}
use Rattle.coap_codec.specs.Reading.{reading_of}
use Rattle.coap_codec.proofs.Soundness.{AreBytes, reading_of_there}
use Rattle.coap_codec.proofs.OneReading.{kind_number_below, empty_tail}
use Rattle.device_requests.specs.Client.{has_account}
use Rattle.device_machine.specs.Memory.{claims_non_confirmable, datagram_takes_memory, early_fault, is_copied}
use Rattle.device_machine.specs.Memory.{is_ignored}
use Rattle.device_machine.specs.Memory.{message_takes_memory}
use Rattle.device_machine.specs.Reactions.{claims_confirmable, is_request, on_acknowledgement, on_datagram, on_message}
use Rattle.device_machine.specs.Reactions.{claimed_mid, on_reset, reaction_to, reset, sends, silence}
use Rattle.device_machine.specs.declared.event.Event.TheVariants.{Recv}
use Rattle.device_machine.specs.State.{Machine}

-- ---- where a fault is early, memory did not run out

otherwise : (b : Bool) (x y : Option CoapFault) → (x ≡ Some Memory → ⊥) → (y ≡ Some Memory → ⊥)
    → (if b then x else y) ≡ Some Memory → ⊥
otherwise true x y hx hy = hx
otherwise false x y hx hy = hy

abbrev is_memory : CoapFault → Bool
is_memory Memory = true
is_memory _ = false

other : (f : CoapFault) → is_memory f ≡ false → Some f ≡ Some Memory → ⊥
other f h e =
    let same : f ≡ Memory = cc in
    let no : true ≡ false = sym (ap is_memory same) ∙ h in
    cc

nothing : None ≡ Some Memory → ⊥
nothing e = cc

header_is_other : (bytes : List ℕ) → header_fault bytes ≡ Some Memory → ⊥
header_is_other bytes =
    otherwise _ _ _ (other Short refl) (otherwise _ _ _ (other Version refl) (otherwise _ _ _ (other TokenLength refl)
    (otherwise _ _ _ (other EmptyWithData refl) (otherwise _ _ _ (other OptionCut refl) nothing))))

option_is_other : (number first : ℕ) (rest : List ℕ) → option_fault number first rest ≡ Some Memory → ⊥
option_is_other number first rest =
    let behind : List ℕ = drop (width (first / 16)) rest in
    let after : List ℕ = drop (width (first % 16)) behind in
    otherwise (first / 16 == 15 || first % 16 == 15) _ _ (other OptionReserved refl)
    (otherwise (nat_lt (length rest) (width (first / 16))) _ _ (other OptionCut refl)
    (otherwise (nat_lt 65535 (number + amount (first / 16) rest)) _ _ (other OptionNumber refl)
    (otherwise (nat_lt (length behind) (width (first % 16))) _ _ (other OptionCut refl)
    (otherwise (nat_lt (length after) (amount (first % 16) behind)) _ _ (other OptionCut refl) nothing))))

place_is_other : (number : ℕ) (bytes : List ℕ) → place_fault number bytes ≡ Some Memory → ⊥
place_is_other number [] = nothing
place_is_other number (first ∷ rest) =
    otherwise _ _ _ (otherwise _ _ _ (other PayloadEmpty refl) nothing) (option_is_other number first rest)

either : (o p : Option CoapFault) → (o ≡ Some Memory → ⊥) → (p ≡ Some Memory → ⊥) → option_or o p ≡ Some Memory → ⊥
either None p ho hp = hp
either (Some f) p ho hp = ho

early_is_other : (bytes : List ℕ) → early_fault bytes ≡ Some Memory → ⊥
early_is_other bytes =
    either (header_fault bytes) (place_fault 0 (drop (4 + token_length bytes) bytes)) (header_is_other bytes)
    (place_is_other 0 (drop (4 + token_length bytes) bytes))

first_is : (o p : Option CoapFault) (f : CoapFault) → option_or o p ≡ Some f
    → MatchOption o (p ≡ Some f) (λ g. g ≡ f)
first_is None p f e = e
first_is (Some g) p f e = cc

is_early : (bytes : List ℕ) (f : CoapFault) → early_fault bytes ≡ Some f → HasEarlyFault bytes f
is_early bytes f e =
    first_is (header_fault bytes) (place_fault 0 (drop (4 + token_length bytes) bytes)) f e

-- where reading does not give the early fault, there is none
no_early : (bytes : List ℕ) (r : Result Message CoapFault) → ((f : CoapFault) → HasEarlyFault bytes f → r ≡ Err f)
    → ((f : CoapFault) → early_fault bytes ≡ Some f → r ≡ Err f → ⊥) → early_fault bytes ≡ None
no_early bytes r early other =
    elim (early_fault bytes) as (λ o. early_fault bytes ≡ o → o ≡ None) [
      | None ↦ λ e. refl
      | Some f ↦ λ e. absurd (other f e (early f (is_early bytes f e)))
    ] refl

-- ---- only what is copied takes memory

not_empty : (bytes : List ℕ) → (is_empty_message bytes ≡ true → ⊥) → is_empty_message bytes ≡ false
not_empty bytes none =
    elim (is_empty_message bytes) as (λ b. is_empty_message bytes ≡ b → b ≡ false) [
      | true ↦ λ e. absurd (none e)
      | false ↦ λ e. refl
    ] refl

copies : (bytes : List ℕ) → early_fault bytes ≡ None → is_empty_message bytes ≡ false → is_copied bytes ≡ true
copies bytes whole more = both_true (ap is_none whole) (ap not more)

copied : (bytes : List ℕ) (r : Result Message CoapFault) → ((f : CoapFault) → HasEarlyFault bytes f → r ≡ Err f)
    → (is_empty_message bytes ≡ true → IsOk r) → r ≡ Err Memory → is_copied bytes ≡ true
copied bytes r early empty wanting =
    copies bytes
    (no_early bytes r early (λ f there is.
    let same : Err f ≡ Err Memory = sym is ∙ wanting in
    let memory : f ≡ Memory = cc in
    early_is_other bytes (there ∙ ap Some memory)))
    (not_empty bytes (λ e.
    let no : false ≡ true = subst IsOk wanting (empty e) in
    cc))

heeded : (c n e h : Bool) → not (c || (n || e)) ≡ false → (h && not e) ≡ true → (c || (n && (h && not e))) ≡ true
heeded true n e h i k = refl
heeded false true e h i k = k
heeded false false true true i k = k
heeded false false true false i k = k
heeded false false false h i k = absurd cc

-- bytes that are read, and whose header does not say that they are ignored, take memory only where they are copied
pub grows_wanting : (bytes : List ℕ) (r : Result Message CoapFault)
    → ((f : CoapFault) → HasEarlyFault bytes f → r ≡ Err f) → (is_empty_message bytes ≡ true → IsOk r)
    → is_ignored bytes ≡ false → r ≡ Err Memory → datagram_takes_memory bytes ≡ true
grows_wanting bytes r early empty heed wanting =
    heeded (claims_confirmable bytes) (claims_non_confirmable bytes) (is_empty_message bytes)
    (is_none (early_fault bytes)) heed (copied bytes r early empty wanting)

-- ---- what a header says

claimed : (a b c d : ℕ) (rest : List ℕ) (k : ℕ) → a / 64 ≡ 1 → a / 16 % 4 ≡ k
    → (nat_le 4 (length (a ∷ b ∷ c ∷ d ∷ rest)) && (a / 64 == 1 && a / 16 % 4 == k)) ≡ true
claimed a b c d rest k h e =
    let long : nat_le 4 (length (a ∷ b ∷ c ∷ d ∷ rest)) ≡ true = grind (arith, nat_tests) in
    let version : (a / 64 == 1) ≡ true = eq-eqb (a / 64) 1 h in
    let kind : (a / 16 % 4 == k) ≡ true = eq-eqb (a / 16 % 4) k e in
    rw (long, version, kind) refl

alone : (a b c d : ℕ) (rest : List ℕ) → length rest ≡ 0 → a / 64 ≡ 1 → a % 16 ≡ 0 → b ≡ 0
    → is_empty_message (a ∷ b ∷ c ∷ d ∷ rest) ≡ true
alone a b c d rest none h t zero =
    let four : (length (a ∷ b ∷ c ∷ d ∷ rest) == 4) ≡ true = eq-eqb (length (a ∷ b ∷ c ∷ d ∷ rest)) 4 (omega arith) in
    let version : (a / 64 == 1) ≡ true = eq-eqb (a / 64) 1 h in
    let token : (a % 16 == 0) ≡ true = eq-eqb (a % 16) 0 t in
    let code : (b == 0) ≡ true = eq-eqb b 0 zero in
    rw (four, version, token, code) refl

abbrev claims_type : Kind → List ℕ → Bool
claims_type kind bytes =
    nat_le 4 (length bytes) && (slice_index bytes 0 / 64 == 1 && slice_index bytes 0 / 16 % 4 == kind_number kind)

type_claimed : (bytes : List ℕ) (m : Message) (kind : Kind) → Spells bytes m → m.kind ≡ kind
    → claims_type kind bytes ≡ true
type_claimed bytes m kind spells is =
    let k : ℕ = kind_number m.kind in
    let t : ℕ = length m.token in
    let below : k < 4 = kind_number_below m.kind in
    let short : t ≤ 8 = spells.well_formed.token in
    subst (λ b. claims_type kind b ≡ true) (sym spells.parts)
    (subst (λ x. claims_type x (spelling m) ≡ true) is
    (claimed (64 + 16 * k + t) m.code (m.mid / 256) (m.mid % 256)
    (m.token ++ (options_bytes 0 m.options ++ payload_bytes m.payload)) k (omega arith) (omega arith)))

-- a message of code 0.00 is Empty
bare : (bytes : List ℕ) (m : Message) → Spells bytes m → m.code ≡ 0 → is_empty_message bytes ≡ true
bare bytes m spells zero =
    let k : ℕ = kind_number m.kind in
    let t : ℕ = length m.token in
    let below : k < 4 = kind_number_below m.kind in
    let e : (length m.token ≡ 0) × (length m.options ≡ 0) × (length m.payload ≡ 0) = spells.well_formed.empty zero in
    let tail : List ℕ = options_bytes 0 m.options ++ payload_bytes m.payload in
    let no_tail : length tail ≡ 0 = empty_tail m.options m.payload e.1 e.2 in
    let no_token : t ≡ 0 = e.0 in
    subst (λ b. is_empty_message b ≡ true) (sym spells.parts)
    (alone (64 + 16 * k + t) m.code (m.mid / 256) (m.mid % 256) (m.token ++ tail)
    (omega (arith, length-append m.token tail)) (omega arith) (omega arith) zero)

all_four : (a b c d : Bool) → (a && (b && (c && d))) ≡ true → (a ≡ true) × (b ≡ true) × (c ≡ true) × (d ≡ true)
all_four true true true d h = (refl, refl, refl, h)
all_four true true false d h = absurd cc
all_four true false c d h = absurd cc
all_four false b c d h = absurd cc

-- and one of another code isn't
not_bare : (bytes : List ℕ) (m : Message) → Spells bytes m → is_request m.code ≡ true
    → is_empty_message bytes ≡ false
not_bare bytes m spells asks =
    not_empty bytes (λ e.
    let there : is_empty_message (spelling m) ≡ true = subst (λ b. is_empty_message b ≡ true) spells.parts e in
    let code : (m.code == 0) ≡ true =
    (all_four (length (spelling m) == 4) (slice_index (spelling m) 0 / 64 == 1) (token_length (spelling m) == 0)
    (m.code == 0) there).3 in
    let no : true ≡ false = sym asks ∙ ap is_request (eqb-true m.code 0 code) in
    cc)

-- ---- what is ignored for its header gets nothing

none_of : (c n e : Bool) → not (c || (n || e)) ≡ true → (c ≡ false) × (n ≡ false) × (e ≡ false)
none_of true n e h = absurd cc
none_of false true e h = absurd cc
none_of false false true h = absurd cc
none_of false false false h = (refl, refl, refl)

neither : (bytes : List ℕ) → is_ignored bytes ≡ true
    → (claims_confirmable bytes ≡ false) × (claims_non_confirmable bytes ≡ false) × (is_empty_message bytes ≡ false)
neither bytes = none_of (claims_confirmable bytes) (claims_non_confirmable bytes) (is_empty_message bytes)

coded : {X : Type 0} (bytes : List ℕ) (m : Message) (x y : X) → Spells bytes m → is_ignored bytes ≡ true
    → (if m.code == 0 then x else y) ≡ y
coded bytes m x y spells e =
    elim (m.code == 0) as (λ b. (m.code == 0) ≡ b → (if b then x else y) ≡ y) [
      | true ↦ λ z.
          let no : true ≡ false = sym (bare bytes m spells (eqb-true m.code 0 z)) ∙ (neither bytes e).2 in
          absurd cc
      | false ↦ λ z. refl
    ] refl

ignored_message : (f : Machine) (server : ℕ) (bytes : List ℕ) (m : Message) (kind : Kind) → Spells bytes m
    → m.kind ≡ kind → is_ignored bytes ≡ true → on_message f server m kind ≡ silence f
ignored_message f server bytes m Con spells k e =
    let no : true ≡ false = sym (type_claimed bytes m Con spells k) ∙ (neither bytes e).0 in
    absurd cc
ignored_message f server bytes m Non spells k e =
    let no : true ≡ false = sym (type_claimed bytes m Non spells k) ∙ (neither bytes e).1 in
    absurd cc
ignored_message f server bytes m Ack spells k e =
    coded bytes m (on_acknowledgement f server m.mid) (silence f) spells e
ignored_message f server bytes m Rst spells k e = coded bytes m (on_reset f server m.mid) (silence f) spells e

ignored_so : (f : Machine) (server : ℕ) (bytes : List ℕ) (r : Result Message CoapFault)
    → MatchResult r (λ m. Spells bytes m) (λ fault. HasFault bytes fault) → is_ignored bytes ≡ true
    → on_datagram f server bytes r ≡ silence f
ignored_so f server bytes (Ok m) spells e = ignored_message f server bytes m m.kind spells refl e
ignored_so f server bytes (Err fault) h e =
    ap (λ b. if b then sends f server (reset (claimed_mid bytes)) else silence f) (neither bytes e).0

same_both : {X : Type 0} (a : Bool) (x y : X) → x ≡ y → (if a then x else y) ≡ y
same_both true x y e = e
same_both false x y e = refl

pub ignored : (f : Machine) (server : ℕ) (bytes : List ℕ) → AreBytes bytes → is_ignored bytes ≡ true
    → reaction_to f (Recv server bytes) ≡ silence f
ignored f server bytes all e =
    same_both (has_account f.kept.client server) (on_datagram f server bytes (reading_of bytes)) (silence f)
    (ignored_so f server bytes (reading_of bytes) (reading_of_there bytes all) e)

-- ---- a message that takes memory is a CON, or a NON that is copied

or_last : (c n k : Bool) → n ≡ true → k ≡ true → (c || (n && k)) ≡ true
or_last true n k h e = refl
or_last false n k h e = rw (h, e) refl

grows_of : (f : Machine) (server : ℕ) (bytes : List ℕ) (m : Message) (kind : Kind) → Spells bytes m
    → early_fault bytes ≡ None → m.kind ≡ kind → message_takes_memory f server m kind ≡ true
    → datagram_takes_memory bytes ≡ true
grows_of f server bytes m Con spells whole k g =
    ap (λ b. b || (claims_non_confirmable bytes && is_copied bytes)) (type_claimed bytes m Con spells k)
grows_of f server bytes m Non spells whole k g =
    or_last (claims_confirmable bytes) (claims_non_confirmable bytes) (is_copied bytes)
    (type_claimed bytes m Non spells k)
    (copies bytes whole (not_bare bytes m spells (and_first (is_request m.code) _ g)))
grows_of f server bytes m Ack spells whole k g = absurd cc
grows_of f server bytes m Rst spells whole k g = absurd cc

pub grows_taken : (f : Machine) (server : ℕ) (bytes : List ℕ) (m : Message) → Spells bytes m
    → ((f : CoapFault) → HasEarlyFault bytes f → Ok m ≡ Err f) → message_takes_memory f server m m.kind ≡ true
    → datagram_takes_memory bytes ≡ true
grows_taken f server bytes m spells early =
    grows_of f server bytes m m.kind spells (no_early bytes (Ok m) early (λ fault there is. cc)) refl
