-- The message of a mnemonic has that mnemonic.
use Rattle.std.proofs.Common.{◌≡◌, ℕ, ◌<◌, ◌≤◌, true, cond, List, [], ◌∷◌, length, Option, None, Some, refl, ap, sym}
use Rattle.std.proofs.Common.{◌∙◌}
use Rattle.std.specs.Prelude.{option_map, option_and_then}
use Rattle.std.specs.Fmt.{decimal}
use Rattle.std.proofs.lemmas.Bool.{le-leb, ne_eqb}
use Rattle.std.proofs.lemmas.Slice.Eq.{bytes_eq-Decides}
use Rattle.coap_codec.specs.Message.{Message}
use Rattle.coap_codec.proofs.OneReading.{read_spelling}
use Rattle.object_defs.proofs.Digits.{decimal_number-law}
use Rattle.object_defs.specs.declared.path.Path.{Path}
use Rattle.object_defs.specs.declared.path.Path.TheVariants.{Object, Instance, Resource, Part}
use Rattle.object_defs.specs.Decimal.{decimal_number}
use Rattle.scenario_words.specs.PathWord.{IsPath}
use Rattle.scenario_mnemonics.specs.declared.request_type.RequestType.{RequestType}
use Rattle.scenario_mnemonics.specs.declared.request_type.RequestType.TheVariants.{Con, Non}
use Rattle.scenario_mnemonics.specs.declared.format.Format.{Format}
use Rattle.scenario_mnemonics.specs.declared.format.Format.TheVariants as format
use Rattle.scenario_mnemonics.specs.declared.action.Action.{Action}
use Rattle.scenario_mnemonics.specs.declared.action.Action.TheVariants as act
use Rattle.scenario_mnemonics.specs.declared.mnemonic.Request.{Request}
use Rattle.scenario_mnemonics.specs.declared.mnemonic.Mnemonic.{Mnemonic}
use Rattle.scenario_mnemonics.specs.declared.mnemonic.Mnemonic.TheVariants as mnemonic
use Rattle.scenario_mnemonics.specs.Queries.{are_queries}
use Rattle.scenario_mnemonics.specs.Messages.{fields_of, fits, kind_of, format_values, segments, options_of, message_of}
use Rattle.scenario_mnemonics.specs.Messages.{datagram_of, has_words, IsGoodRequest, IsGood}
use Rattle.scenario_mnemonics.specs.Denoting.{values}
use Rattle.scenario_mnemonics.specs.Inside.{type_from, path_from, get_from, post_from, put_from, action_from}
use Rattle.scenario_mnemonics.specs.Inside.{token_from, request_from, mnemonic_from, mnemonic_read, own, mnemonic_found}
use Rattle.scenario_mnemonics.proofs.OptionOrder.{code_some, well_formed}
use Rattle.scenario_mnemonics.proofs.Values.{observe_found, path_found, content_found, queries_found, accept_found}

number_again : (n : ℕ) → n < 65536 → decimal_number (decimal n) ≡ Some n
number_again n h = (decimal_number-law (decimal n) n).1 (h, refl)

path_again : (p : Path) → IsPath p → path_from (segments p) ≡ Some p
path_again (Object o) h = rw (number_again o h) refl
path_again (Instance o i) h = rw (number_again o h.0, number_again i h.1) refl
path_again (Resource o i r) h = rw (number_again o h.0, number_again i h.1, number_again r h.2) refl
path_again (Part o i r n) h = rw (number_again o h.0, number_again i h.1, number_again r h.2, number_again n h.3) refl

read_again : (f : Format) → get_from [] (format_values f) ≡ Some (act.Read f)
read_again format.Any = refl
read_again format.Text = refl
read_again format.Opaque = refl
read_again format.Tlv = refl

observe_again : (f : Format) → get_from (fields_of (act.Observe f)).observe (format_values f) ≡ Some (act.Observe f)
observe_again format.Any = refl
observe_again format.Text = refl
observe_again format.Opaque = refl
observe_again format.Tlv = refl

cancel_again : (f : Format) → get_from (fields_of (act.Cancel f)).observe (format_values f) ≡ Some (act.Cancel f)
cancel_again format.Any = refl
cancel_again format.Text = refl
cancel_again format.Opaque = refl
cancel_again format.Tlv = refl

write_again : (f : Format) (b : List ℕ) → put_from [] (format_values f) b ≡ Some (act.Write f b)
write_again format.Any b = refl
write_again format.Text b = refl
write_again format.Opaque b = refl
write_again format.Tlv b = refl

update_again : (o i : ℕ) (f : Format) (b : List ℕ)
    → post_from (Instance o i) (format_values f) b ≡ Some (act.Update f b)
update_again o i format.Any b = refl
update_again o i format.Text b = refl
update_again o i format.Opaque b = refl
update_again o i format.Tlv b = refl

create_again : (o : ℕ) (f : Format) (b : List ℕ) → post_from (Object o) (format_values f) b ≡ Some (act.Create f b)
create_again o format.Any b = refl
create_again o format.Text b = refl
create_again o format.Opaque b = refl
create_again o format.Tlv b = refl

attr_again : (qs contents : List (List ℕ)) (b : List ℕ) → are_queries qs ≡ true
    → put_from qs contents b ≡ Some (act.Attr qs)
attr_again [] contents b h = cc
attr_again (q ∷ qs) contents b h = ap (λ t. cond t (Some (act.Attr (q ∷ qs))) None) h

get_found : (p : Path) (a : Action)
    → get_from (values 6 (options_of p a)) (values 17 (options_of p a))
    ≡ get_from (fields_of a).observe (fields_of a).accept
get_found p a = ap (λ v. get_from v (values 17 (options_of p a))) (observe_found p a)
    ∙ ap (get_from (fields_of a).observe) (accept_found p a)

post_found : (p : Path) (a : Action) (b : List ℕ)
    → post_from p (values 12 (options_of p a)) b ≡ post_from p (fields_of a).content b
post_found p a b = ap (λ v. post_from p v b) (content_found p a)

put_found : (p : Path) (a : Action) (b : List ℕ)
    → put_from (values 15 (options_of p a)) (values 12 (options_of p a)) b
    ≡ put_from (fields_of a).queries (fields_of a).content b
put_found p a b =
    ap (λ v. put_from v (values 12 (options_of p a)) b) (queries_found p a)
    ∙ ap (λ v. put_from (fields_of a).queries v b) (content_found p a)

action_again : (r : Request) (p : Path) (a : Action) → r.path ≡ p → r.action ≡ a → fits a p ≡ true → has_words a ≡ true
    → action_from (message_of (mnemonic.Request
    (record { kind = r.kind; mid = r.mid; token = r.token; path = p; action = a }))) p ≡ Some a
action_again r p (act.Read f) x y fit words = get_found p (act.Read f) ∙ read_again f
action_again r p (act.Observe f) x y fit words = get_found p (act.Observe f) ∙ observe_again f
action_again r p (act.Cancel f) x y fit words = get_found p (act.Cancel f) ∙ cancel_again f
action_again r p act.Discover x y fit words = get_found p act.Discover
action_again r p act.Delete x y fit words = refl
action_again r p (act.Write f b) x y fit words = put_found p (act.Write f b) b ∙ write_again f b
action_again r (Object o) (act.Update f b) x y fit words = cc
action_again r (Instance o i) (act.Update f b) x y fit words =
    post_found (Instance o i) (act.Update f b) b ∙ update_again o i f b
action_again r (Resource o i n) (act.Update f b) x y fit words = cc
action_again r (Part o i n k) (act.Update f b) x y fit words = cc
action_again r (Object o) (act.Create f b) x y fit words = post_found (Object o) (act.Create f b) b ∙ create_again o f b
action_again r (Instance o i) (act.Create f b) x y fit words = cc
action_again r (Resource o i n) (act.Create f b) x y fit words = cc
action_again r (Part o i n k) (act.Create f b) x y fit words = cc
action_again r p (act.Attr qs) x y fit words = put_found p (act.Attr qs) [] ∙ attr_again qs [] [] words
action_again r (Object o) (act.Exec b) x y fit words = cc
action_again r (Instance o i) (act.Exec b) x y fit words = cc
action_again r (Resource o i n) (act.Exec b) x y fit words = refl
action_again r (Part o i n k) (act.Exec b) x y fit words = cc

type_again : (k : RequestType) → type_from (kind_of k) ≡ k
type_again Con = refl
type_again Non = refl

token_again : (t : List ℕ) → length t ≤ 8 → token_from t ≡ Some t
token_again t h = ap (λ b. cond b (Some t) None) (le-leb (length t) 8 h)

-- after the path, the action and the token
abbrev with_token : RequestType → ℕ → Path → Action → Option (List ℕ) → Option Mnemonic
with_token k mid p a t =
    option_map (λ t. mnemonic.Request (record { kind = k; mid = mid; token = t; path = p; action = a })) t

request_again : (r : Request) → IsGoodRequest r
    → request_from (message_of (mnemonic.Request r)) ≡ Some (mnemonic.Request r)
request_again r h =
    let m : Message = message_of (mnemonic.Request r) in
    let k : RequestType = type_from (kind_of r.kind) in
    ap (λ o. option_and_then (λ p. option_and_then (λ a. with_token k r.mid p a (token_from r.token)) (action_from m p))
    o) (ap path_from (path_found r.path r.action) ∙ path_again r.path h.path)
    ∙ ap (λ o. option_and_then (λ a. with_token k r.mid r.path a (token_from r.token)) o)
    (action_again r r.path r.action refl refl h.fits h.queries)
    ∙ ap (with_token k r.mid r.path r.action) (token_again r.token h.token)
    ∙ ap (λ t. Some (mnemonic.Request (record
    { kind = t; mid = r.mid; token = r.token; path = r.path; action = r.action }))) (type_again r.kind)

message_again : (m : Mnemonic) → IsGood m → mnemonic_from (message_of m) ≡ Some m
message_again (mnemonic.Request r) h =
    ap (λ t. cond t (Some (mnemonic.Reset r.mid)) (request_from (message_of (mnemonic.Request r))))
    (ne_eqb (fields_of r.action).code 0 (code_some r.action))
    ∙ request_again r h
message_again (mnemonic.Reset mid) h = refl

own_again : (m : Mnemonic) → own (datagram_of m) m ≡ Some m
own_again m = ap (λ t. cond t (Some m) None) ((bytes_eq-Decides (datagram_of m) (datagram_of m)).1 refl)

-- the datagram of a mnemonic has that mnemonic
pub datagram_again : (m : Mnemonic) → IsGood m → mnemonic_found (datagram_of m) ≡ Some m
datagram_again m h =
    ap (λ r. option_and_then (own (datagram_of m)) (mnemonic_read r)) (read_spelling (message_of m) (well_formed m h))
    ∙ ap (option_and_then (own (datagram_of m))) (message_again m h)
    ∙ own_again m

-- so two have the same datagram only where they are the same
pub one_mnemonic : (m k : Mnemonic) → IsGood m → IsGood k → datagram_of m ≡ datagram_of k → m ≡ k
one_mnemonic m k good other same =
    let both : Some m ≡ Some k = sym (datagram_again m good) ∙ ap mnemonic_found same ∙ datagram_again k other in cc
