-- The mnemonic of a datagram is good, and the datagram is its own.
use Rattle.std.proofs.Common.{◌≡◌, ℕ, ◌<◌, ◌≤◌, ◌↔◌, Bool, true, false, cond, eqb, leb, List, [], ◌∷◌, length}
use Rattle.std.proofs.Common.{Option, None, Some, Result, Ok, Err, refl, ap, sym, subst, ◌∙◌, All}
use Rattle.std.specs.Prelude.{IfSome, option_map, option_and_then}
use Rattle.std.specs.Int.Digits.{AllBelowBase}
use Rattle.std.specs.Str.{bytes_eq}
use Rattle.std.proofs.lemmas.Bool.{leb-true}
use Rattle.std.proofs.lemmas.List.Elements.{All-head, All-tail}
use Rattle.std.proofs.lemmas.Slice.Eq.{bytes_eq-Decides}
use Rattle.lemmas.proofs.Lists.{below_front, below_back}
use Rattle.coap_codec.specs.declared.fault.CoapFault.{CoapFault}
use Rattle.coap_codec.specs.Message.{Message, header_bytes, options_bytes, payload_bytes, spelling}
use Rattle.coap_codec.specs.Reading.{reading_of}
use Rattle.coap_codec.proofs.Soundness.{spelled_from_reading}
use Rattle.object_defs.proofs.Digits.{decimal_number-law}
use Rattle.object_defs.specs.declared.path.Path.{Path}
use Rattle.object_defs.specs.declared.path.Path.TheVariants.{Object, Instance, Resource, Part}
use Rattle.object_defs.specs.Decimal.{decimal_number}
use Rattle.scenario_words.specs.PathWord.{IsPath}
use Rattle.scenario_mnemonics.specs.declared.action.Action.{Action}
use Rattle.scenario_mnemonics.specs.declared.action.Action.TheVariants as act
use Rattle.scenario_mnemonics.specs.declared.mnemonic.Mnemonic.{Mnemonic}
use Rattle.scenario_mnemonics.specs.declared.mnemonic.Mnemonic.TheVariants as mnemonic
use Rattle.scenario_mnemonics.specs.Queries.{are_queries}
use Rattle.scenario_mnemonics.specs.Messages.{fields_of, fits, datagram_of, has_words, IsGood}
use Rattle.scenario_mnemonics.specs.Denoting.{values}
use Rattle.scenario_mnemonics.specs.Inside.{type_from, format_from, path_from, is_discover, get_from, post_from}
use Rattle.scenario_mnemonics.specs.Inside.{put_from, action_from, token_from, request_from, mnemonic_from}
use Rattle.scenario_mnemonics.specs.Inside.{mnemonic_read, own, mnemonic_found}
use Rattle.scenario_mnemonics.proofs.Denoted.{datagram_again}

mapped : {A B : Type 0} (P : B → Type 0) (f : A → B) (o : Option A) → ((x : A) → P (f x)) → IfSome (option_map f o) P
mapped P f None h = tt
mapped P f (Some x) h = h x

-- the same, of a value that is known to be there
known : {A B : Type 0} (P : B → Type 0) (f : A → B) (o : Option A) → ((x : A) → o ≡ Some x → P (f x))
    → IfSome (option_map f o) P
known P f None h = tt
known P f (Some x) h = h x refl

behind : {A B : Type 0} (P : B → Type 0) (f : A → Option B) (o : Option A) → ((x : A) → o ≡ Some x → IfSome (f x) P)
    → IfSome (option_and_then f o) P
behind P f None h = tt
behind P f (Some x) h = h x refl

chosen : {A : Type 0} (P : A → Type 0) (b : Bool) (x y : Option A) → (b ≡ true → IfSome x P) → IfSome y P
    → IfSome (cond b x y) P
chosen P true x y h k = h refl
chosen P false x y h k = k

there : {A : Type 0} (P : A → Type 0) (o : Option A) (x : A) → IfSome o P → o ≡ Some x → P x
there P o x h e = subst (λ t. IfSome t P) e h

number_small : (s : List ℕ) (n : ℕ) → decimal_number s ≡ Some n → n < 65536
number_small s n e = ((decimal_number-law s n).0 e).0

path_small : (vs : List (List ℕ)) → IfSome (path_from vs) IsPath
path_small [] = tt
path_small (a ∷ []) = known IsPath (λ o. Object o) (decimal_number a) (λ o h. number_small a o h)
path_small (a ∷ b ∷ []) =
    behind IsPath _ (decimal_number a) (λ o h. known IsPath (λ i. Instance o i) (decimal_number b)
    (λ i k. (number_small a o h, number_small b i k)))
path_small (a ∷ b ∷ c ∷ []) =
    behind IsPath _ (decimal_number a) (λ o h. behind IsPath _ (decimal_number b)
    (λ i k. known IsPath (λ r. Resource o i r) (decimal_number c) (λ r l.
    (number_small a o h, number_small b i k, number_small c r l))))
path_small (a ∷ b ∷ c ∷ d ∷ []) =
    behind IsPath _ (decimal_number a) (λ o h. behind IsPath _ (decimal_number b)
    (λ i k. behind IsPath _ (decimal_number c) (λ r l. known IsPath (λ n. Part o i r n) (decimal_number d) (λ n q.
    (number_small a o h, number_small b i k, number_small c r l, number_small d n q)))))
path_small (a ∷ b ∷ c ∷ d ∷ e ∷ more) = tt

-- an action that is good for a path, with a payload of this one's bytes
record Fits (p : Path) (payload : List ℕ) (a : Action) : Type 0 where
  pub fit : fits a p ≡ true
  pub words : has_words a ≡ true
  pub bytes : AllBelowBase 256 payload → AllBelowBase 256 (fields_of a).payload

get_fits : (os vs : List (List ℕ)) (p : Path) (b : List ℕ) → IfSome (get_from os vs) (Fits p b)
get_fits [] vs p b =
    chosen (Fits p b) (is_discover vs) _ _ (λ h. record { fit = refl; words = refl; bytes = λ k. tt })
    (mapped (Fits p b) (λ f. act.Read f) (format_from vs) (λ f. record { fit = refl; words = refl; bytes = λ k. tt }))
get_fits (o ∷ os) vs p b =
    chosen (Fits p b) (bytes_eq o []) _ _ (λ h. mapped (Fits p b) (λ f. act.Observe f) (format_from vs)
    (λ f. record { fit = refl; words = refl; bytes = λ k. tt }))
    (mapped (Fits p b) (λ f. act.Cancel f) (format_from vs) (λ f. record { fit = refl; words = refl; bytes = λ k. tt }))

post_fits : (p : Path) (vs : List (List ℕ)) (b : List ℕ) → IfSome (post_from p vs b) (Fits p b)
post_fits (Object o) vs b =
    mapped (Fits (Object o) b) (λ f. act.Create f b) (format_from vs)
    (λ f. record { fit = refl; words = refl; bytes = λ k. k })
post_fits (Instance o i) vs b =
    mapped (Fits (Instance o i) b) (λ f. act.Update f b) (format_from vs)
    (λ f. record { fit = refl; words = refl; bytes = λ k. k })
post_fits (Resource o i r) vs b = record { fit = refl; words = refl; bytes = λ k. k }
post_fits (Part o i r n) vs b = tt

put_fits : (qs vs : List (List ℕ)) (p : Path) (b : List ℕ) → IfSome (put_from qs vs b) (Fits p b)
put_fits [] vs p b =
    mapped (Fits p b) (λ f. act.Write f b) (format_from vs) (λ f. record { fit = refl; words = refl; bytes = λ k. k })
put_fits (q ∷ qs) vs p b =
    chosen (Fits p b) (are_queries (q ∷ qs)) _ _ (λ h. record { fit = refl; words = h; bytes = λ k. tt }) tt

action_fits : (m : Message) (p : Path) → IfSome (action_from m p) (Fits p m.payload)
action_fits m p =
    chosen (Fits p m.payload) (eqb m.code 1) _ _ (λ h. get_fits (values 6 m.options) (values 17 m.options) p m.payload)
    (chosen (Fits p m.payload) (eqb m.code 2) _ _ (λ h. post_fits p (values 12 m.options) m.payload)
    (chosen (Fits p m.payload) (eqb m.code 3) _ _
    (λ h. put_fits (values 15 m.options) (values 12 m.options) p m.payload)
    (chosen (Fits p m.payload) (eqb m.code 4) _ _ (λ h. record { fit = refl; words = refl; bytes = λ k. tt }) tt)))

token_same : (t u : List ℕ) → token_from t ≡ Some u → (u ≡ t) × (length t ≤ 8)
token_same t u h =
    there (λ x. (x ≡ t) × (length t ≤ 8)) (token_from t) u
    (chosen (λ x. (x ≡ t) × (length t ≤ 8)) (leb (length t) 8) (Some t) None
    (λ e. (refl, leb-true (length t) 8 e)) tt) h

request_good : (m : Message) → m.mid < 65536 → AllBelowBase 256 m.token → AllBelowBase 256 m.payload
    → IfSome (request_from m) IsGood
request_good m mid token payload =
    behind IsGood _ (path_from (values 11 m.options))
    (λ p path. behind IsGood _ (action_from m p)
    (λ a action. known IsGood (λ t. mnemonic.Request
    (record { kind = type_from m.kind; mid = m.mid; token = t; path = p; action = a })) (token_from m.token)
    (λ t taken.
    let fit = there (Fits p m.payload) (action_from m p) a (action_fits m p) action in
    let same = token_same m.token t taken in
    record {
      mid = mid;
      token = subst (λ x. length x ≤ 8) (sym same.0) same.1;
      token_bytes = subst (AllBelowBase 256) (sym same.0) token;
      path = there IsPath (path_from (values 11 m.options)) p (path_small (values 11 m.options)) path;
      fits = fit.fit;
      payload = fit.bytes payload;
      queries = fit.words;
    })))

message_good : (m : Message) → m.mid < 65536 → AllBelowBase 256 m.token → AllBelowBase 256 m.payload
    → IfSome (mnemonic_from m) IsGood
message_good m mid token payload = chosen IsGood (eqb m.code 0) _ _ (λ h. mid) (request_good m mid token payload)

pub below : (bs : List ℕ) → All (λ b. b < 256) bs → AllBelowBase 256 bs
below [] h = tt
below (b ∷ bs) h = (All-head (λ x. x < 256) b bs h, below bs (All-tail (λ x. x < 256) b bs h))

pub payload_below : (b : List ℕ) → AllBelowBase 256 (payload_bytes b) → AllBelowBase 256 b
payload_below [] h = tt
payload_below (b ∷ bs) h = h.1

read_good : (bytes : List ℕ) (r : Result Message CoapFault) → All (λ b. b < 256) bytes → reading_of bytes ≡ r
    → IfSome (mnemonic_read r) IsGood
read_good bytes (Err fault) h e = tt
read_good bytes (Ok m) h e =
    let spells = spelled_from_reading bytes m h e in
    let all : AllBelowBase 256 (spelling m) = subst (AllBelowBase 256) spells.parts (below bytes h) in
    let behind_header = below_back (header_bytes m) _ all in
    message_good m spells.well_formed.mid (below_front m.token _ behind_header)
    (payload_below m.payload (below_back (options_bytes 0 m.options) _ (below_back m.token _ behind_header)))

own_good : (bytes : List ℕ) (k : Mnemonic) → IsGood k → IfSome (own bytes k) (λ m. IsGood m × (datagram_of m ≡ bytes))
own_good bytes k good =
    chosen (λ m. IsGood m × (datagram_of m ≡ bytes)) (bytes_eq (datagram_of k) bytes) (Some k) None
    (λ e. (good, (bytes_eq-Decides (datagram_of k) bytes).0 e)) tt

-- a datagram has this mnemonic exactly where it is the good mnemonic's own
pub found_denotes : (bytes : List ℕ) (m : Mnemonic) → All (λ b. b < 256) bytes → (mnemonic_found bytes ≡ Some m)
    ↔ (IsGood m × (datagram_of m ≡ bytes))
found_denotes bytes m h = (
  (λ e.
      there (λ k. IsGood k × (datagram_of k ≡ bytes)) (mnemonic_found bytes) m
      (behind (λ k. IsGood k × (datagram_of k ≡ bytes)) (own bytes) (mnemonic_read (reading_of bytes))
      (λ k found. own_good bytes k (there IsGood (mnemonic_read (reading_of bytes)) k
      (read_good bytes (reading_of bytes) h refl) found)))
      e),
  (λ g. sym (ap mnemonic_found g.1) ∙ datagram_again m g.0),
)
