-- what reading bytes finds is what they spell, or where they break off
use Rattle.std.proofs.Common.{◌≡◌, ◌≢◌, ℕ, ◌+◌, ◌-◌, ◌*◌, ◌/◌, ◌%◌, ◌<◌, ◌≤◌, inl, inr, zero, suc, List, [], ◌∷◌, ◌++◌}
use Rattle.std.proofs.Common.{length, take, drop, refl, ap, sym, ◌∙◌, append_assoc, arith, Option, Some, None, Result}
use Rattle.std.proofs.Common.{Ok, Err, MatchResult, MatchOption, Bool, true, false, cond, not, ◌&&◌, ◌||◌, ltb, eqb}
use Rattle.std.proofs.Common.{length-drop, All}
use Rattle.std.proofs.lemmas.Result.{MatchResult-at_ok, MatchResult-at_err}
use Rattle.std.proofs.lemmas.List.{take-append-drop, length-take-le}
use Rattle.std.proofs.lemmas.List.Elements.{All-head, All-tail, All-drop}
use Rattle.std.proofs.lemmas.Bool.{cases_Bool, cases_lt, lt-ltb, ltb-false, eqb-true, eqb-false, or_parts, not-false}
use Rattle.coap_codec.specs.declared.option.Opt.{Opt}
use Rattle.coap_codec.specs.declared.fault.CoapFault.{CoapFault}
use Rattle.coap_codec.specs.declared.fault.CoapFault.TheVariants.{PayloadEmpty}
use Rattle.coap_codec.specs.Message.{Message, MayFollow, IsOptionList, Spells, kind_number, nibble_of, extension_of}
use Rattle.coap_codec.specs.Message.{option_bytes, options_bytes, payload_bytes}
use Rattle.coap_codec.specs.Fault.{width, amount, option_fault, place_fault, token_length, header_fault, BreaksOff}
use Rattle.coap_codec.specs.Fault.{HasFault}
use Rattle.coap_codec.specs.Reading.{OptionsAndPayload, kind_of, option_here, behind_option, with_option, read_place}
use Rattle.coap_codec.specs.Reading.{read_options, message_of, read_behind, reading_of}
use Rattle.coap_codec.proofs.Amounts.{by_size}
use Rattle.coap_codec.proofs.Completeness.{Stands}
use Rattle.coap_codec.proofs.OneReading.{drop_four}

-- numbers below 256
abbrev pub AreBytes : List ℕ → Type 0
AreBytes bytes = All (λ b. b < 256) bytes

head_below : (b : ℕ) (bs : List ℕ) → AreBytes (b ∷ bs) → b < 256
head_below b bs all = All-head (λ x. x < 256) b bs all

tail_below : (b : ℕ) (bs : List ℕ) → AreBytes (b ∷ bs) → AreBytes bs
tail_below b bs all = All-tail (λ x. x < 256) b bs all

at_thirteen : (b : ℕ) → b < 256 → (nibble_of (13 + b) ≡ 13) × (extension_of (13 + b) ≡ b ∷ [])
at_thirteen b h =
    by_size (13 + b) (λ k e. (k ≡ 13) × (e ≡ b ∷ [])) (λ s. absurd (omega arith))
    (λ s t. (refl, ap (λ (x : ℕ). x ∷ []) (omega arith))) (λ s. absurd (omega arith))

at_fourteen : (a b : ℕ) → b < 256 → (nibble_of (269 + 256 * a + b) ≡ 14)
    × (extension_of (269 + 256 * a + b) ≡ a ∷ b ∷ [])
at_fourteen a b h =
    let n : ℕ = 269 + 256 * a + b in
    let high : (n - 269) / 256 ≡ a = omega arith in
    let low : (n - 269) % 256 ≡ b = omega arith in
    by_size n (λ k e. (k ≡ 14) × (e ≡ a ∷ b ∷ [])) (λ s. absurd (omega arith)) (λ s t. absurd (omega arith))
    (λ s. (refl, ap (λ (x : ℕ). x ∷ (n - 269) % 256 ∷ []) high ∙ ap (λ (x : ℕ). a ∷ x ∷ []) low))

-- a nibble and the bytes after it spell the number that they stand for
record Amount (nibble : ℕ) (bytes : List ℕ) : Type 0 where
  parts : bytes ≡ extension_of (amount nibble bytes) ++ drop (width nibble) bytes
  nibble_is : nibble_of (amount nibble bytes) ≡ nibble
  small : amount nibble bytes ≤ 65804

amount_thirteen : (bytes : List ℕ) → AreBytes bytes → 1 ≤ length bytes → Amount 13 bytes
amount_thirteen [] all there = absurd (omega arith)
amount_thirteen (b ∷ bs) all there =
    let h : b < 256 = head_below b bs all in
    let p : (nibble_of (13 + b) ≡ 13) × (extension_of (13 + b) ≡ b ∷ []) = at_thirteen b h in
    record { parts = ap (λ x. x ++ bs) (sym p.1); nibble_is = p.0; small = omega arith }

amount_fourteen : (bytes : List ℕ) → AreBytes bytes → 2 ≤ length bytes → Amount 14 bytes
amount_fourteen [] all there = absurd (omega arith)
amount_fourteen (a ∷ []) all there = absurd (omega arith)
amount_fourteen (a ∷ b ∷ bs) all there =
    let k : a < 256 = head_below a (b ∷ bs) all in
    let h : b < 256 = head_below b bs (tail_below a (b ∷ bs) all) in
    let p : (nibble_of (269 + 256 * a + b) ≡ 14) × (extension_of (269 + 256 * a + b) ≡ a ∷ b ∷ []) =
    at_fourteen a b h in
    record { parts = ap (λ x. x ++ bs) (sym p.1); nibble_is = p.0; small = omega arith }

amount_small : (nibble : ℕ) (bytes : List ℕ) → nibble < 13 → Amount nibble bytes
amount_small nibble bytes h =
    let w : width nibble ≡ 0 = rw (lt-ltb nibble 13 h) refl in
    let a : amount nibble bytes ≡ nibble = rw (lt-ltb nibble 13 h) refl in
    let n : nibble_of nibble ≡ nibble = rw (lt-ltb nibble 13 h) refl in
    let e : extension_of nibble ≡ [] = rw (lt-ltb nibble 13 h) refl in
    record {
      parts = sym (ap (λ x. extension_of x ++ drop (width nibble) bytes) a
          ∙ (ap (λ x. x ++ drop (width nibble) bytes) e ∙ ap (λ x. drop x bytes) w));
      nibble_is = ap nibble_of a ∙ n;
      small = omega arith;
    }

amount_spelled : (nibble : ℕ) (bytes : List ℕ) → AreBytes bytes → nibble < 15 → width nibble ≤ length bytes
    → Amount nibble bytes
amount_spelled nibble bytes all below wide =
    elim (cases_lt nibble 13) [
      | inl h ↦ amount_small nibble bytes h
      | inr h ↦ elim (cases_lt nibble 14) [
        | inl k ↦ (let e : nibble ≡ 13 = omega arith in
            let wide2 : width 13 ≤ length bytes = rw e at wide in
            rw (e) (amount_thirteen bytes all wide2))
        | inr k ↦ (let e : nibble ≡ 14 = omega arith in
            let wide2 : width 14 ≤ length bytes = rw e at wide in
            rw (e) (amount_fourteen bytes all wide2))
      ]
    ]

-- a test that didn't give a fault
past : (b : Bool) (f : CoapFault) (o : Option CoapFault) → cond b (Some f) o ≡ None → (b ≡ false) × (o ≡ None)
past true f o e = absurd (cc)
past false f o e = (refl, e)

-- an option with no fault fits each case
no_fault_stands : (number first : ℕ) (rest : List ℕ) → option_fault number first rest ≡ None → Stands number first rest
no_fault_stands number first rest e =
    let behind : List ℕ = drop (width (first / 16)) rest in
    let a = past _ _ _ e in
    let n = or_parts _ _ a.0 in
    let b = past _ _ _ a.1 in
    let c = past _ _ _ b.1 in
    let d = past _ _ _ c.1 in
    let f = past _ _ _ d.1 in
    record {
      delta = eqb-false (first / 16) 15 n.0;
      size = eqb-false (first % 16) 15 n.1;
      wide = ltb-false (length rest) (width (first / 16)) b.0;
      in_range = ltb-false 65535 (number + amount (first / 16) rest) c.0;
      long = ltb-false (length behind) (width (first % 16)) d.0;
      whole = ltb-false (length (drop (width (first % 16)) behind)) (amount (first % 16) behind) f.0;
    }

-- the bytes of an option, over plain variables: d and l are the delta and the length
option_spelled : (number first d l : ℕ) (rest behind value left : List ℕ) (o : Opt)
    → first ≡ 16 * nibble_of d + nibble_of l → rest ≡ extension_of d ++ behind
    → behind ≡ extension_of l ++ (value ++ left) → o.number - number ≡ d → length o.value ≡ l → o.value ≡ value
    → first ∷ rest ≡ option_bytes number o ++ left
option_spelled number first d l rest behind value left o begins rest_is behind_is delta size value_is =
    let apart : extension_of d ++ (extension_of l ++ (value ++ left)) ≡ (extension_of d ++ (extension_of l ++ value))
    ++ left = simp append_assoc in
    let tail : rest ≡ (extension_of d ++ (extension_of l ++ value)) ++ left =
    rest_is ∙ (ap (λ x. extension_of d ++ x) behind_is ∙ apart) in
    let whole : ℕ → ℕ → List ℕ → List ℕ =
    λ x y v. (16 * nibble_of x + nibble_of y) ∷ ((extension_of x ++ (extension_of y ++ v)) ++ left) in
    ap (λ x. x ∷ rest) begins
    ∙ (ap (λ r. (16 * nibble_of d + nibble_of l) ∷ r) tail
    ∙ (ap (λ x. whole x l value) (sym delta)
    ∙ (ap (λ y. whole (o.number - number) y value) (sym size)
    ∙ ap (whole (o.number - number) (length o.value)) (sym value_is))))

-- an option that stands may follow, and its bytes are spelled
pub record OptionSound (number first : ℕ) (rest : List ℕ) : Type 0 where
  pub follows : MayFollow number (option_here number first rest)
  pub parts : first ∷ rest ≡ option_bytes number (option_here number first rest) ++ behind_option first rest

option_sound : (number first : ℕ) (rest : List ℕ) → first < 256 → AreBytes rest → Stands number first rest
    → OptionSound number first rest
option_sound number first rest below all s =
    let high : ℕ = first / 16 in
    let low : ℕ = first % 16 in
    let behind : List ℕ = drop (width high) rest in
    let after : List ℕ = drop (width low) behind in
    let d : ℕ = amount high rest in
    let l : ℕ = amount low behind in
    let high_below : high < 15 = (let ne : high ≢ 15 = s.delta in omega arith) in
    let low_below : low < 15 = (let ne : low ≢ 15 = s.size in omega arith) in
    let all_behind : AreBytes behind = All-drop (λ x. x < 256) (width high) rest all in
    let a : Amount high rest = amount_spelled high rest all high_below s.wide in
    let b : Amount low behind = amount_spelled low behind all_behind low_below s.long in
    let size : length (take l after) ≡ l = length-take-le l after s.whole in
    let begins : first ≡ 16 * nibble_of d + nibble_of l =
    (let x : nibble_of d ≡ high = a.nibble_is in let y : nibble_of l ≡ low = b.nibble_is in omega arith) in
    let delta : number + d - number ≡ d = omega arith in
    record {
      follows = record {
        ascends = omega arith;
        in_range =
            (let r : number + d ≤ 65535 = s.in_range in omega arith);
        fits =
            (let m : l ≤ 65804 = b.small in omega arith);
      };
      parts = option_spelled number first d l rest behind (take l after) (drop l after)
          (option_here number first rest) begins a.parts
          (b.parts ∙ ap (λ x. extension_of l ++ x) (sym (take-append-drop l after))) delta size refl;
    }

-- what was found after an option of this number is there, or else that is where the bytes break off
abbrev pub IsThere : ℕ → List ℕ → Result OptionsAndPayload CoapFault → Type 0
IsThere number bytes r =
    MatchResult r (λ x. IsOptionList number x.options
    × (bytes ≡ options_bytes number x.options ++ payload_bytes x.payload)) (λ f. BreaksOff number bytes f)

with_option_there : (number : ℕ) (o : Opt) (bytes behind : List ℕ) (r : Result OptionsAndPayload CoapFault)
    → MayFollow number o
    → bytes ≡ option_bytes number o ++ behind → IsThere o.number behind r → IsThere number bytes (with_option o r)
with_option_there number o bytes behind (Ok x) follows parts there = (
  (follows, there.0),
  parts ∙ (ap (λ t. option_bytes number o ++ t) there.1
      ∙ sym (append_assoc (option_bytes number o) (options_bytes o.number x.options) (payload_bytes x.payload))),
)
with_option_there number o bytes behind (Err f) follows parts there =
    record {
      whole = o ∷ there.whole;
      rest = there.rest;
      is_list = (follows, there.is_list);
      parts = parts ∙ (ap (λ t. option_bytes number o ++ t) there.parts
          ∙ sym (append_assoc (option_bytes number o) (options_bytes o.number there.whole) there.rest));
      place = there.place;
    }

marker_there : (number : ℕ) (rest : List ℕ) → cond (eqb (length rest) 0) (Some PayloadEmpty) None ≡ None
    → IsThere number (255 ∷ rest) (Ok (record { options = []; payload = rest }))
marker_there number [] e = absurd (cc)
marker_there number (b ∷ bs) e = (tt, refl)

at_marker : (number first : ℕ) (rest : List ℕ) → first ≡ 255 → place_fault number (first ∷ rest) ≡ None
    → IsThere number (first ∷ rest) (Ok (record { options = []; payload = rest }))
at_marker number first rest is_marker e =
    let e2 : place_fault number (255 ∷ rest) ≡ None = rw is_marker at e in
    rw (is_marker) (marker_there number rest e2)

at_option : (behind : ℕ → List ℕ → Result OptionsAndPayload CoapFault) (number first : ℕ) (rest : List ℕ)
    → option_fault number first rest ≡ None → AreBytes (first ∷ rest)
    → ((n : ℕ) (r : List ℕ) → AreBytes r → length r < length (first ∷ rest) → IsThere n r (behind n r))
    → IsThere number (first ∷ rest) (with_option (option_here number first rest)
    (behind (option_here number first rest).number (behind_option first rest)))
at_option behind number first rest e all later =
    let o : Opt = option_here number first rest in
    let after : List ℕ = drop (width (first / 16)) rest in
    let value : List ℕ = drop (width (first % 16)) after in
    let left : List ℕ = behind_option first rest in
    let s : OptionSound number first rest =
    option_sound number first rest (head_below first rest all) (tail_below first rest all)
    (no_fault_stands number first rest e) in
    let below : AreBytes left =
    All-drop (λ x. x < 256) (amount (first % 16) after) value
    (All-drop (λ x. x < 256) (width (first % 16)) after
    (All-drop (λ x. x < 256) (width (first / 16)) rest (tail_below first rest all))) in
    let shorter : length left < length (first ∷ rest) =
    omega (
      arith,
      length-drop (amount (first % 16) after) value,
      length-drop (width (first % 16)) after,
      length-drop (width (first / 16)) rest,
    ) in
    with_option_there number o (first ∷ rest) left (behind o.number left) s.follows s.parts
    (later o.number left below shorter)

read_place_there : (behind : ℕ → List ℕ → Result OptionsAndPayload CoapFault) (number : ℕ) (bytes : List ℕ)
    (o : Option CoapFault)
    → place_fault number bytes ≡ o → AreBytes bytes
    → ((n : ℕ) (r : List ℕ) → AreBytes r → length r < length bytes → IsThere n r (behind n r))
    → IsThere number bytes (read_place behind number bytes o)
read_place_there behind number bytes (Some f) e all later =
    record { whole = []; rest = bytes; is_list = tt; parts = refl; place = e }
read_place_there behind number [] None e all later = (tt, refl)
read_place_there behind number (first ∷ rest) None e all later =
    elim (cases_Bool (eqb first 255)) [
      | inl t ↦ rw (t) (at_marker number first rest (eqb-true first 255 t) e)
      | inr t ↦ (let e2 : option_fault number first rest ≡ None =
          rw t at e in rw (t) (at_option behind number first rest e2 all later))
    ]

pub read_options_there : (steps number : ℕ) (bytes : List ℕ) → AreBytes bytes → length bytes ≤ steps
    → IsThere number bytes (read_options steps number bytes)
unfolding read_options
read_options_there zero number [] all enough = (tt, refl)
read_options_there zero number (b ∷ bs) all enough = absurd (omega arith)
read_options_there (suc steps) number bytes all enough =
    read_place_there (read_options steps) number bytes (place_fault number bytes) refl all
    (λ n r a h. read_options_there steps n r a (omega arith))

kind_number_again : (n : ℕ) → n < 4 → kind_number (kind_of n) ≡ n
kind_number_again zero h = refl
kind_number_again (suc zero) h = refl
kind_number_again (suc (suc zero)) h = refl
kind_number_again (suc (suc (suc zero))) h = refl
kind_number_again (suc (suc (suc (suc n)))) h = absurd (omega arith)

-- a header with no fault before the options
record HeaderStands (first code : ℕ) (rest : List ℕ) : Type 0 where
  version : first / 64 ≡ 1
  token : first % 16 ≤ 8
  there : first % 16 ≤ length rest
  bare : code ≡ 0 → (first % 16 ≡ 0) × (length rest ≡ 0)

no_data : (code size more : ℕ) → (eqb code 0 && (not (eqb size 0) || ltb 4 more)) ≡ false → code ≡ 0 → (size ≡ 0)
    × (more ≤ 4)
no_data code size more e z =
    let e2 : (eqb 0 0 && (not (eqb size 0) || ltb 4 more)) ≡ false = rw z at e in
    let n = or_parts (not (eqb size 0)) (ltb 4 more) e2 in
    (eqb-true size 0 (not-false (eqb size 0) n.0), ltb-false 4 more n.1)

four_less : (n first code high low : ℕ) (rest : List ℕ) → 4 + n ≤ length (first ∷ code ∷ high ∷ low ∷ rest)
    → n ≤ length rest
four_less n first code high low rest h = omega arith

four_all : (first code high low : ℕ) (rest : List ℕ) → length (first ∷ code ∷ high ∷ low ∷ rest) ≤ 4 → length rest ≡ 0
four_all first code high low rest h = omega arith

header_stands : (first code high low : ℕ) (rest : List ℕ) → header_fault (first ∷ code ∷ high ∷ low ∷ rest) ≡ None
    → HeaderStands first code rest
header_stands first code high low rest e =
    let bytes : List ℕ = first ∷ code ∷ high ∷ low ∷ rest in
    let a = past _ _ _ e in
    let b = past _ _ _ a.1 in
    let c = past _ _ _ b.1 in
    let d = past _ _ _ c.1 in
    let f = past _ _ _ d.1 in
    record {
      version = eqb-true (first / 64) 1 (not-false (eqb (first / 64) 1) b.0);
      token = ltb-false 8 (first % 16) c.0;
      there = four_less (first % 16) first code high low rest (ltb-false (length bytes) (4 + first % 16) f.0);
      bare = λ z. (let n : (first % 16 ≡ 0) × (length bytes ≤ 4) =
          no_data code (first % 16) (length bytes) d.0 z in (n.0, four_all first code high low rest n.1));
    }

nothing_long : (os : List Opt) (p : List ℕ) → length (options_bytes 0 os ++ payload_bytes p) ≡ 0 → (length os ≡ 0)
    × (length p ≡ 0)
nothing_long [] [] e = (refl, refl)
nothing_long [] (b ∷ p) e = absurd (omega arith)
nothing_long (o ∷ os) p e = absurd (omega arith)

same_bytes : (a b c d x y z : ℕ) (r s : List ℕ) → a ≡ x → c ≡ y → d ≡ z → r ≡ s → a ∷ b ∷ c ∷ d ∷ r ≡ x ∷ b ∷ y ∷ z ∷ s
same_bytes a b c d x y z r s p q u v = cc

message_spelled : (first code high low : ℕ) (rest : List ℕ) (x : OptionsAndPayload) → HeaderStands first code rest
    → AreBytes (first ∷ code ∷ high ∷ low ∷ rest) → IsOptionList 0 x.options
    → drop (first % 16) rest ≡ options_bytes 0 x.options ++ payload_bytes x.payload
    → Spells (first ∷ code ∷ high ∷ low ∷ rest)
    (record {
      kind = kind_of (first / 16 % 4);
      code = code;
      mid = 256 * high + low;
      token =
          take (first % 16) rest;
      options = x.options;
      payload = x.payload;
    })
message_spelled first code high low rest x h all list tail =
    let t : ℕ = first % 16 in
    let behind : List ℕ = options_bytes 0 x.options ++ payload_bytes x.payload in
    let two : AreBytes (high ∷ low ∷ rest) =
    tail_below code (high ∷ low ∷ rest) (tail_below first (code ∷ high ∷ low ∷ rest) all) in
    let code_below : code < 256 =
    head_below code (high ∷ low ∷ rest) (tail_below first (code ∷ high ∷ low ∷ rest) all) in
    let high_below : high < 256 = head_below high (low ∷ rest) two in
    let low_below : low < 256 = head_below low rest (tail_below high (low ∷ rest) two) in
    let version : first / 64 ≡ 1 = h.version in
    let short : t ≤ 8 = h.token in
    let size : length (take t rest) ≡ t = length-take-le t rest h.there in
    let kind_is : kind_number (kind_of (first / 16 % 4)) ≡ first / 16 % 4 =
    kind_number_again (first / 16 % 4) (omega arith) in
    record {
      well_formed = record {
        code = code_below;
        mid = omega arith;
        token = omega arith;
        options = list;
        empty = λ z.
            let b : (t ≡ 0) × (length rest ≡ 0) = h.bare z in
            let n : (length x.options ≡ 0) × (length x.payload ≡ 0) =
            nothing_long x.options x.payload (omega (arith, ap length tail, length-drop t rest)) in
            (size ∙ b.0, n.0, n.1);
      };
      parts = same_bytes first code high low (64 + 16 * kind_number (kind_of (first / 16 % 4)) + length (take t rest))
          ((256 * high + low) / 256) ((256 * high + low) % 256) rest (take t rest ++ behind) (omega arith) (omega arith)
          (omega arith) (sym (take-append-drop t rest) ∙ ap (λ r. take t rest ++ r) tail);
    }

read_spelled : (bytes : List ℕ) (x : OptionsAndPayload) → header_fault bytes ≡ None → AreBytes bytes
    → IsThere 0 (drop (4 + token_length bytes) bytes) (Ok x)
    → MatchResult (message_of bytes (Ok x)) (λ m. Spells bytes m) (λ f. ⊥)
read_spelled [] x e all there = absurd (cc)
read_spelled (a ∷ []) x e all there = absurd (cc)
read_spelled (a ∷ b ∷ []) x e all there = absurd (cc)
read_spelled (a ∷ b ∷ c ∷ []) x e all there = absurd (cc)
read_spelled (first ∷ code ∷ high ∷ low ∷ rest) x e all there =
    message_spelled first code high low rest x (header_stands first code high low rest e) all there.0
    (sym (drop_four first code high low (first % 16) rest) ∙ there.1)

read_message : (bytes : List ℕ) (r : Result OptionsAndPayload CoapFault) → header_fault bytes ≡ None → AreBytes bytes
    → IsThere 0 (drop (4 + token_length bytes) bytes) r
    → MatchResult (message_of bytes r) (λ m. Spells bytes m)
    (λ f. BreaksOff 0 (drop (4 + token_length bytes) bytes) f)
read_message bytes (Ok x) e all there = read_spelled bytes x e all there
read_message bytes (Err f) e all there = there

read_behind_there : (bytes : List ℕ) (o : Option CoapFault) → header_fault bytes ≡ o → AreBytes bytes
    → MatchResult (read_behind bytes o) (λ m. Spells bytes m)
    (λ f. MatchOption o (BreaksOff 0 (drop (4 + token_length bytes) bytes) f) (λ g. g ≡ f))
read_behind_there bytes (Some f) e all = refl
read_behind_there bytes None e all =
    let behind : List ℕ = drop (4 + token_length bytes) bytes in
    read_message bytes (read_options (length bytes) 0 behind) e all
    (read_options_there (length bytes) 0 behind (All-drop (λ x. x < 256) (4 + token_length bytes) bytes all)
    (omega (arith, length-drop (4 + token_length bytes) bytes)))

-- bytes say a message that they spell, or a fault that they have
pub reading_of_there : (bytes : List ℕ) → AreBytes bytes
    → MatchResult (reading_of bytes) (λ m. Spells bytes m) (λ f. HasFault bytes f)
unfolding reading_of
reading_of_there bytes all = read_behind_there bytes (header_fault bytes) refl all

pub spelled_from_reading : (bytes : List ℕ) (m : Message) → AreBytes bytes → reading_of bytes ≡ Ok m → Spells bytes m
spelled_from_reading bytes m all e =
    MatchResult-at_ok (λ k. Spells bytes k) (λ f. HasFault bytes f) m e (reading_of_there bytes all)

pub fault_from_reading : (bytes : List ℕ) (f : CoapFault) → AreBytes bytes → reading_of bytes ≡ Err f → HasFault bytes f
fault_from_reading bytes f all e =
    MatchResult-at_err (λ k. Spells bytes k) (λ g. HasFault bytes g) f e (reading_of_there bytes all)
