-- The mnemonic of a datagram is one of the candidates of its message, and the only one that the datagram is of.
use Rattle.std.proofs.Common.{◌≡◌, ◌⊎◌, inl, inr, ◌↔◌, ℕ, ◌<◌, ◌≤◌, Bool, true, false, cond, List, [], ◌∷◌, ◌++◌}
use Rattle.std.proofs.Common.{length, All, Option, None, Some, Result, Ok, Err, refl, ap, sym, subst, ◌∙◌, append-nil}
use Rattle.std.proofs.Common.{map, arith}
use Rattle.std.specs.Prelude.{filter, find, option_and_then, option_to_list}
use Rattle.std.specs.List.{AllByRecursion, flat_map}
use Rattle.std.specs.Result.{result_ok}
use Rattle.std.specs.Int.Digits.{AllBelowBase}
use Rattle.std.specs.Str.{bytes_eq}
use Rattle.std.specs.Fmt.{decimal}
use Rattle.std.proofs.lemmas.Bool.{and_from, and_parts, cases_Bool}
use Rattle.std.proofs.lemmas.Slice.Eq.{bytes_eq-Decides}
use Rattle.lemmas.proofs.Lists.{each_appended, each_flat, below_front, below_back}
use Rattle.coap_codec.specs.declared.fault.CoapFault.{CoapFault}
use Rattle.coap_codec.specs.Message.{Message, header_bytes, options_bytes, spelling}
use Rattle.coap_codec.specs.Reading.{reading_of}
use Rattle.coap_codec.proofs.OneReading.{read_spelling}
use Rattle.coap_codec.proofs.Soundness.{spelled_from_reading}
use Rattle.object_defs.specs.declared.path.Path.{Path}
use Rattle.object_defs.specs.declared.path.Path.TheVariants.{Object, Instance, Resource, Part}
use Rattle.object_defs.specs.Path.{path_text}
use Rattle.scenario_words.specs.declared.cause.Cause.{Cause}
use Rattle.scenario_words.specs.PathWord.{IsPath, path_of}
use Rattle.scenario_words.proofs.PathLaws.{path_law}
use Rattle.scenario_mnemonics.specs.declared.request_type.RequestType.{RequestType}
use Rattle.scenario_mnemonics.specs.declared.request_type.RequestType.TheVariants.{Con, Non}
use Rattle.scenario_mnemonics.specs.declared.format.Format.{Format}
use Rattle.scenario_mnemonics.specs.declared.format.Format.TheVariants as format
use Rattle.scenario_mnemonics.specs.declared.action.Action.{Action}
use Rattle.scenario_mnemonics.specs.declared.action.Action.TheVariants as act
use Rattle.scenario_mnemonics.specs.declared.mnemonic.Request.{Request}
use Rattle.scenario_mnemonics.specs.declared.mnemonic.Mnemonic.{Mnemonic}
use Rattle.scenario_mnemonics.specs.declared.mnemonic.Mnemonic.TheVariants as mnemonic
use Rattle.scenario_mnemonics.specs.Queries.{are_queries}
use Rattle.scenario_mnemonics.specs.Messages.{fields_of, segments, fits_mnemonic, message_of, datagram_of, has_words}
use Rattle.scenario_mnemonics.specs.Messages.{IsGood}
use Rattle.scenario_mnemonics.specs.MnemonicWords.{formats}
use Rattle.scenario_mnemonics.specs.Denoting.{values, actions, requests, candidates, is_own, mnemonic_of}
use Rattle.scenario_mnemonics.specs.Inside.{mnemonic_found}
use Rattle.scenario_mnemonics.proofs.OptionOrder.{well_formed}
use Rattle.scenario_mnemonics.proofs.Values.{path_found, queries_found}
use Rattle.scenario_mnemonics.proofs.Denoted.{one_mnemonic}
use Rattle.scenario_mnemonics.proofs.Fitting.{below, payload_below, found_denotes}

-- the actions of one format, and those of these queries and this payload
abbrev with_format : List ℕ → Format → List Action
with_format b f =
    act.Read f ∷ act.Observe f ∷ act.Cancel f ∷ act.Write f b ∷ act.Update f b ∷ act.Create f b ∷ []

abbrev with_queries : List (List ℕ) → List Action
with_queries qs = map (λ q. act.Attr q) (filter are_queries (qs ∷ []))

abbrev actions_by : List (List ℕ) → List ℕ → List Action
actions_by qs b = act.Discover ∷ act.Delete ∷ act.Exec b ∷ (with_queries qs ++ flat_map (with_format b) formats)

abbrev request_of : Message → Path → Action → RequestType → Mnemonic
request_of m p a k =
    mnemonic.Request (record { kind = k; mid = m.mid; token = m.token; path = p; action = a })

abbrev of_action : Message → Path → Action → List Mnemonic
of_action m p a = map (request_of m p a) (Con ∷ Non ∷ [])

abbrev paths_in : List (List ℕ) → List Path
paths_in segments = option_to_list (result_ok (path_of (flat_map (λ s. 47 ∷ s) segments)))

-- ---- what holds of each candidate

-- words can say it, and its payload is bytes
abbrev IsSound : Action → Type 0
IsSound a = (has_words a ≡ true) × AllBelowBase 256 (fields_of a).payload

format_sound : (b : List ℕ) → AllBelowBase 256 b → (f : Format) → Unit {0} → AllByRecursion IsSound (with_format b f)
format_sound b h f u =
    ((refl, tt), ((refl, tt), ((refl, tt), ((refl, h), ((refl, h), ((refl, h), tt))))))

queries_sound : (qs : List (List ℕ)) → AllByRecursion IsSound (with_queries qs)
queries_sound qs = by (are_queries qs) refl
  where
    by : (b : Bool) → are_queries qs ≡ b
        → AllByRecursion IsSound (map (λ q. act.Attr q) (cond b (qs ∷ []) []))
    by true h = ((h, tt), tt)
    by false h = tt

actions_sound : (qs : List (List ℕ)) (b : List ℕ) → AllBelowBase 256 b → AllByRecursion IsSound (actions_by qs b)
actions_sound qs b h = (
  (refl, tt),
  (
    (refl, tt),
    (
      (refl, h),
      each_appended IsSound (with_queries qs) (flat_map (with_format b) formats) (queries_sound qs)
          (each_flat (λ f. Unit {0}) IsSound (with_format b) (format_sound b h) formats (tt, (tt, (tt, (tt, tt))))),
    ),
  ),
)

paths_sound : (ss : List (List ℕ)) → AllByRecursion IsPath (paths_in ss)
paths_sound ss = by (path_of (flat_map (λ s. 47 ∷ s) ss)) refl
  where
    by : (r : Result Path Cause) → path_of (flat_map (λ s. 47 ∷ s) ss) ≡ r
        → AllByRecursion IsPath (option_to_list (result_ok r))
    by (Ok p) e = (((path_law (flat_map (λ s. 47 ∷ s) ss) p).0 e).1, tt)
    by (Err c) e = tt

-- the numbers and bytes of a message that was read
record IsRead (m : Message) : Type 0 where
  mid : m.mid < 65536
  short : length m.token ≤ 8
  token : AllBelowBase 256 m.token
  payload : AllBelowBase 256 m.payload

-- a candidate that fits is good
abbrev IsGoodIfFit : Mnemonic → Type 0
IsGoodIfFit k = fits_mnemonic k ≡ true → IsGood k

request_sound : (m : Message) → IsRead m → (p : Path) → IsPath p → (a : Action) → IsSound a → (k : RequestType)
    → IsGoodIfFit (request_of m p a k)
request_sound m read p path a sound k fit =
    record {
      mid = read.mid;
      token = read.short;
      token_bytes = read.token;
      path = path;
      fits = fit;
      payload = sound.1;
      queries = sound.0;
    }

candidates_sound : (m : Message) → IsRead m → AllByRecursion IsGoodIfFit (candidates m)
candidates_sound m read = (
  (λ fit. read.mid),
  each_flat IsPath IsGoodIfFit (requests m)
      (λ p path. each_flat IsSound IsGoodIfFit (of_action m p)
      (λ a sound. (request_sound m read p path a sound Con, (request_sound m read p path a sound Non, tt)))
      (actions m) (actions_sound (values 15 m.options) m.payload read.payload))
      (paths_in (values 11 m.options)) (paths_sound (values 11 m.options)),
)

-- ---- the one that is found

picked : {A : Type 0} (P : Type 0) (b : Bool) (x k : A) (other : Option A) → (b ≡ true → x ≡ k → P)
    → (other ≡ Some k → P) → cond b (Some x) other ≡ Some k → P
picked P true x k other f g e = f refl cc
picked P false x k other f g e = g e

own_good : (bytes : List ℕ) (k : Mnemonic) (xs : List Mnemonic) → AllByRecursion IsGoodIfFit xs
    → find (is_own bytes) xs ≡ Some k → IsGood k × (datagram_of k ≡ bytes)
own_good bytes k [] h e = cc
own_good bytes k (x ∷ xs) h e =
    picked (IsGood k × (datagram_of k ≡ bytes)) (is_own bytes x) x k (find (is_own bytes) xs)
    (λ own same.
    let both = and_parts (fits_mnemonic x) (bytes_eq (datagram_of x) bytes) own in
    subst (λ y. IsGood y × (datagram_of y ≡ bytes)) same
    (h.0 both.0, (bytes_eq-Decides (datagram_of x) bytes).0 both.1))
    (λ rest. own_good bytes k xs h.1 rest) e

-- an element of a list
abbrev Has : {A : Type 0} → List A → A → Type 0
Has [] k = ⊥
Has (x ∷ xs) k = (x ≡ k) ⊎ Has xs k

pub good_fits : (k : Mnemonic) → IsGood k → fits_mnemonic k ≡ true
good_fits (mnemonic.Request r) h = h.fits
good_fits (mnemonic.Reset mid) h = refl

is_its_own : (k : Mnemonic) → IsGood k → is_own (datagram_of k) k ≡ true
is_its_own k good =
    and_from (fits_mnemonic k) (bytes_eq (datagram_of k) (datagram_of k)) (good_fits k good)
    ((bytes_eq-Decides (datagram_of k) (datagram_of k)).1 refl)

later : (k x : Mnemonic) (xs : List Mnemonic) → IsGood k → is_own (datagram_of k) x ≡ false → Has (x ∷ xs) k → Has xs k
later k x xs good other (inl same) =
    let no : true ≡ false = sym (is_its_own k good) ∙ sym (ap (is_own (datagram_of k)) same) ∙ other in cc
later k x xs good other (inr more) = more

found_again : (k : Mnemonic) (xs : List Mnemonic) → IsGood k → AllByRecursion IsGoodIfFit xs → Has xs k
    → find (is_own (datagram_of k)) xs ≡ Some k
found_again k [] good h among = absurd among
found_again k (x ∷ xs) good h among = elim (cases_Bool (is_own (datagram_of k) x)) [
  | inl own ↦ (
      let both = and_parts (fits_mnemonic x) (bytes_eq (datagram_of x) (datagram_of k)) own in
      let same = one_mnemonic x k (h.0 both.0) good ((bytes_eq-Decides (datagram_of x) (datagram_of k)).0 both.1) in
      ap (λ b. cond b (Some x) (find (is_own (datagram_of k)) xs)) own ∙ ap (λ y. Some y) same)
  | inr other ↦ ap (λ b. cond b (Some x) (find (is_own (datagram_of k)) xs)) other
      ∙ found_again k xs good h.1 (later k x xs good other among)
]

-- ---- a mnemonic is among the candidates of its message

has_right : {A : Type 0} (xs ys : List A) (k : A) → Has ys k → Has (xs ++ ys) k
has_right [] ys k h = h
has_right (x ∷ xs) ys k h = inr (has_right xs ys k h)

has_left : {A : Type 0} (xs ys : List A) (k : A) → Has xs k → Has (xs ++ ys) k
has_left [] ys k h = absurd h
has_left (x ∷ xs) ys k (inl e) = inl e
has_left (x ∷ xs) ys k (inr h) = inr (has_left xs ys k h)

has_flat : {A B : Type 0} (f : A → List B) (xs : List A) (x : A) (k : B) → Has xs x → Has (f x) k
    → Has (flat_map f xs) k
has_flat f [] x k h g = absurd h
has_flat f (y ∷ xs) x k (inl e) g = has_left (f y) (flat_map f xs) k (subst (λ z. Has (f z) k) (sym e) g)
has_flat f (y ∷ xs) x k (inr h) g = has_right (f y) (flat_map f xs) k (has_flat f xs x k h g)

each_format : (f : Format) → Has formats f
each_format format.Any = inl refl
each_format format.Text = inr (inl refl)
each_format format.Opaque = inr (inr (inl refl))
each_format format.Tlv = inr (inr (inr (inl refl)))

of_format : (qs : List (List ℕ)) (b : List ℕ) (f : Format) (a : Action) → Has (with_format b f) a
    → Has (actions_by qs b) a
of_format qs b f a h =
    inr (inr (inr (has_right (with_queries qs) (flat_map (with_format b) formats) a
    (has_flat (with_format b) formats f a (each_format f) h))))

of_queries : (qs : List (List ℕ)) (b : List ℕ) → are_queries qs ≡ true → Has (actions_by qs b) (act.Attr qs)
of_queries qs b h =
    inr (inr (inr (has_left (with_queries qs) (flat_map (with_format b) formats) (act.Attr qs)
    (subst (λ t. Has (map (λ q. act.Attr q) (cond t (qs ∷ []) [])) (act.Attr qs)) (sym h) (inl refl)))))

action_among : (a : Action) → has_words a ≡ true → Has (actions_by (fields_of a).queries (fields_of a).payload) a
action_among (act.Read f) h = of_format [] [] f (act.Read f) (inl refl)
action_among (act.Observe f) h = of_format [] [] f (act.Observe f) (inr (inl refl))
action_among (act.Cancel f) h = of_format [] [] f (act.Cancel f) (inr (inr (inl refl)))
action_among act.Discover h = inl refl
action_among act.Delete h = inr (inl refl)
action_among (act.Write f b) h = of_format [] b f (act.Write f b) (inr (inr (inr (inl refl))))
action_among (act.Update f b) h = of_format [] b f (act.Update f b) (inr (inr (inr (inr (inl refl)))))
action_among (act.Create f b) h = of_format [] b f (act.Create f b) (inr (inr (inr (inr (inr (inl refl))))))
action_among (act.Attr qs) h = of_queries qs [] h
action_among (act.Exec b) h = inr (inr (inl refl))

slashed : (p : Path) → flat_map (λ s. 47 ∷ s) (segments p) ≡ path_text p
slashed (Object o) = ap (λ t. 47 ∷ t) (append-nil (decimal o))
slashed (Instance o i) = ap (λ t. 47 ∷ (decimal o ++ 47 ∷ t)) (append-nil (decimal i))
slashed (Resource o i r) = ap (λ t. 47 ∷ (decimal o ++ 47 ∷ (decimal i ++ 47 ∷ t))) (append-nil (decimal r))
slashed (Part o i r n) =
    ap (λ t. 47 ∷ (decimal o ++ 47 ∷ (decimal i ++ 47 ∷ (decimal r ++ 47 ∷ t)))) (append-nil (decimal n))

path_among : (p : Path) → IsPath p → Has (paths_in (segments p)) p
path_among p path =
    let read : path_of (flat_map (λ s. 47 ∷ s) (segments p)) ≡ Ok p =
    ap path_of (slashed p) ∙ (path_law (path_text p) p).1 (refl, path) in
    subst (λ r. Has (option_to_list (result_ok r)) p) (sym read) (inl refl)

type_among : (m : Message) (p : Path) (a : Action) (k : RequestType) → Has (of_action m p a) (request_of m p a k)
type_among m p a Con = inl refl
type_among m p a Non = inr (inl refl)

request_among : (r : Request) → IsPath r.path → has_words r.action ≡ true
    → Has (candidates (message_of (mnemonic.Request r))) (mnemonic.Request r)
request_among r path words =
    let m : Message = message_of (mnemonic.Request r) in
    inr (has_flat (requests m) (paths_in (values 11 m.options)) r.path (mnemonic.Request r)
    (subst (λ ss. Has (paths_in ss) r.path) (sym (path_found r.path r.action)) (path_among r.path path))
    (has_flat (of_action m r.path) (actions m) r.action (mnemonic.Request r)
    (subst (λ qs. Has (actions_by qs m.payload) r.action) (sym (queries_found r.path r.action))
    (action_among r.action words)) (type_among m r.path r.action r.kind)))

among : (k : Mnemonic) → IsGood k → Has (candidates (message_of k)) k
among (mnemonic.Request r) h = request_among r h.path h.queries
among (mnemonic.Reset mid) h = inl refl

good_read : (k : Mnemonic) → IsGood k → IsRead (message_of k)
good_read (mnemonic.Request r) h =
    record { mid = h.mid; short = h.token; token = h.token_bytes; payload = h.payload }
good_read (mnemonic.Reset mid) h = record { mid = h; short = omega arith; token = tt; payload = tt }

-- ---- datagrams

abbrev chosen_from : List ℕ → Result Message CoapFault → Option Mnemonic
chosen_from bytes r = option_and_then (λ m. find (is_own bytes) (candidates m)) (result_ok r)

bytes_read : (bytes : List ℕ) (m : Message) → All (λ b. b < 256) bytes → reading_of bytes ≡ Ok m → IsRead m
bytes_read bytes m h e =
    let spells = spelled_from_reading bytes m h e in
    let all : AllBelowBase 256 (spelling m) = subst (AllBelowBase 256) spells.parts (below bytes h) in
    let behind_header = below_back (header_bytes m) _ all in
    record {
      mid = spells.well_formed.mid;
      short = spells.well_formed.token;
      token = below_front m.token _ behind_header;
      payload = payload_below m.payload
          (below_back (options_bytes 0 m.options) _ (below_back m.token _ behind_header));
    }

mnemonic_good : (bytes : List ℕ) (k : Mnemonic) (r : Result Message CoapFault) → All (λ b. b < 256) bytes
    → reading_of bytes ≡ r → chosen_from bytes r ≡ Some k → IsGood k × (datagram_of k ≡ bytes)
mnemonic_good bytes k (Ok m) h e is = own_good bytes k (candidates m) (candidates_sound m (bytes_read bytes m h e)) is
mnemonic_good bytes k (Err f) h e is = cc

mnemonic_again : (k : Mnemonic) → IsGood k → mnemonic_of (datagram_of k) ≡ Some k
mnemonic_again k good =
    ap (chosen_from (datagram_of k)) (read_spelling (message_of k) (well_formed k good))
    ∙ found_again k (candidates (message_of k)) good (candidates_sound (message_of k) (good_read k good)) (among k good)

-- a datagram has this mnemonic exactly where it is the good mnemonic's own
pub denotes : (bytes : List ℕ) (m : Mnemonic) → All (λ b. b < 256) bytes
    → (mnemonic_of bytes ≡ Some m) ↔ (IsGood m × (datagram_of m ≡ bytes))
denotes bytes m h =
    (mnemonic_good bytes m (reading_of bytes) h refl, λ g. sym (ap mnemonic_of g.1) ∙ mnemonic_again m g.0)

-- it is the one that is found
pub found_is : (bytes : List ℕ) → All (λ b. b < 256) bytes → mnemonic_found bytes ≡ mnemonic_of bytes
found_is bytes h = by (mnemonic_found bytes) (mnemonic_of bytes) refl refl
  where
    by : (o q : Option Mnemonic) → mnemonic_found bytes ≡ o → mnemonic_of bytes ≡ q
        → mnemonic_found bytes ≡ mnemonic_of bytes
    by None None e g = e ∙ sym g
    by (Some m) q e g = e ∙ sym ((denotes bytes m h).1 ((found_denotes bytes m h).0 e))
    by None (Some m) e g = (found_denotes bytes m h).1 ((denotes bytes m h).0 g) ∙ sym g
