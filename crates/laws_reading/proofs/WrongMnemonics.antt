-- Words after the keyword of a mnemonic that are refused.
use Rattle.std.proofs.Common.{◌≡◌, ◌↔◌, ℕ, Bool, true, false, List, [], ◌∷◌}
use Rattle.std.proofs.Common.{Result, Ok, Err, inl, inr, refl, sym, ap, ◌∙◌, arith}
use Rattle.std.proofs.Common.{nat_le, nat_lt, length}
use Rattle.std.proofs.Common.{lt-ltb}
use Rattle.std.specs.Bool.{if◌then◌else◌}
use Rattle.std.specs.Prelude.{Option, None, Some, ok_or}
use Rattle.std.specs.List.{AllByRecursion, list_all}
use Rattle.std.proofs.lemmas.Bool.{and_from, and_parts}
use Rattle.scenario_words.specs.declared.cause.Cause.{Cause}
use Rattle.scenario_words.specs.declared.cause.Cause.TheVariants.{Token, UnknownWord}
use Rattle.scenario_words.specs.HexWord.{bytes_of}
use Rattle.scenario_words.specs.Number.{number_of}
use Rattle.scenario_words.specs.PathWord.{path_of}
use Rattle.scenario_words.specs.Reading.{◌>>=◌, check_of_end, word_by}
use Rattle.scenario_words.specs.ValueWords.{is_formed, name_fault}
use Rattle.scenario_mnemonics.specs.declared.verb.Verb.TheVariants as verb
use Rattle.scenario_mnemonics.specs.declared.verb.Keyword.{Keyword}
use Rattle.scenario_mnemonics.specs.declared.verb.Keyword.TheVariants as keyword
use Rattle.scenario_mnemonics.specs.declared.verb.Verb.{Verb}
use Rattle.scenario_mnemonics.specs.declared.request_type.RequestType.{RequestType}
use Rattle.scenario_mnemonics.specs.declared.request_type.RequestType.TheVariants.{Con, Non}
use Rattle.scenario_mnemonics.specs.declared.format.Format.{Format}
use Rattle.scenario_mnemonics.specs.declared.format.Format.TheVariants as format
use Rattle.scenario_mnemonics.specs.declared.action.Action.TheVariants as act
use Rattle.scenario_mnemonics.specs.declared.head.Head.{Head}
use Rattle.scenario_mnemonics.specs.declared.mnemonic.Mnemonic.TheVariants as mnemonic
use Rattle.scenario_mnemonics.specs.MnemonicWords.{action_at, content_at, format_of, format_word, last_by, mnemonic_at}
use Rattle.scenario_mnemonics.specs.MnemonicWords.{queries_at, server_and_request, short_token, token_at, type_of}
use Rattle.scenario_mnemonics.specs.MnemonicWords.{type_word}
use Rattle.scenario_mnemonics.specs.Queries.{are_queries, is_query}
use Rattle.scenario_mnemonics.proofs.Spelling.{type_again, format_again}
use Rattle.laws_reading.specs.Statements.{IsQueryWord}
use Rattle.laws_reading.specs.WrongStatements.{AreWrong, AreWrongAfter, AreWrongAsDetails, AreWrongAsQueries}
use Rattle.laws_reading.specs.WrongStatements.{IsTooMany}
use Rattle.laws_reading.specs.WrongStatements.{IsRight, Place}
use Rattle.laws_reading.specs.WrongStatements.{refusal_at}
use Rattle.laws_reading.specs.WrongStatements.Place.{number, path, bytes}
use Rattle.laws_reading.specs.WrongStatements.Place.{format_name, token, type_name}
use Rattle.laws_reading.specs.WrongWords.{IsFormed}
use Rattle.laws_reading.proofs.Refused.{bind_err, each_said, each_tested, is_wrong, refused, same_cause}
use Rattle.laws_reading.proofs.Mnemonics.{acted, format_read, headed}
use Rattle.laws_reading.proofs.Mnemonics.{query_said, query_tested, read_token, token_again, token_read, token_word}
use Rattle.laws_reading.proofs.Mnemonics.{type_read}
use Rattle.laws_reading.proofs.WrongNames.{by_names}
use Rattle.laws_reading.proofs.WrongNumbers.{bytes_err, token_alone}
use Rattle.laws_reading.proofs.WrongPlaces.{Fills, Refuses, taken, none_missing, placed, all_placed, made_of}
use Rattle.laws_reading.proofs.WrongPlaces.{number_fills, path_fills, form_enough, chained, bytes_fill}
use Rattle.laws_reading.proofs.WrongLines.{joined, same_reading}

-- ---- mnemonics

none_found : {A : Type 0} (o : Option A) (f e : Cause) → ok_or o f ≡ Err e → e ≡ f
none_found None f e h = cc
none_found (Some x) f e h = cc

pub type_fault : (w : List ℕ) (e : Cause) → type_of w ≡ Err e → e ≡ name_fault w
type_fault w e h = none_found _ (name_fault w) e h

pub type_formed : (t : RequestType) → is_formed (type_word t) ≡ true
type_formed Con = refl
type_formed Non = refl

pub type_fills : Fills type_of type_name
type_fills =
    record {
      wrong = λ w cause. is_wrong (type_of w) (IsFormed w) ((t : RequestType) × (w ≡ type_word t)) UnknownWord cause
          (is_formed w)
          (by_names (type_of w) w type_word (type_read w) (λ t e. ap type_of e ∙ type_again t) type_formed
          (type_fault w));
      right = λ w t h. (t, type_read w t h);
      again = λ w h. (h.0, ap type_of h.1 ∙ type_again h.0);
    }

pub format_fault : (w : List ℕ) (e : Cause) → format_of w ≡ Err e → e ≡ name_fault w
format_fault w e h = none_found _ (name_fault w) e h

pub format_formed : (f : Format) → is_formed (format_word f) ≡ true
format_formed format.Any = refl
format_formed format.Text = refl
format_formed format.Opaque = refl
format_formed format.Tlv = refl

pub format_fills : Fills format_of format_name
format_fills =
    record {
      wrong = λ w cause. is_wrong (format_of w) (IsFormed w) ((f : Format) × (w ≡ format_word f)) UnknownWord cause
          (is_formed w)
          (by_names (format_of w) w format_word (format_read w) (λ f e. ap format_of e ∙ format_again f) format_formed
          (format_fault w));
      right = λ w f h. (f, format_read w f h);
      again = λ w h. (h.0, ap format_of h.1 ∙ format_again h.0);
    }

pub short_err : (bs : List ℕ) (b : Bool) (e : Cause) → (if b then taken bs else Err Token) ≡ Err e → e ≡ Token
short_err bs true e h = cc
short_err bs false e h = sym (same_cause {A = List ℕ} Token e h)

pub token_err : (w : List ℕ) (e : Cause) → read_token w ≡ Err e → e ≡ Token
token_err w e h = elim (bind_err (bytes_of w) short_token e h) [
  | inl here ↦ bytes_err w e here
  | inr later ↦ short_err later.0 (nat_le (length later.0) 8) e later.2
]

pub token_fills : Fills read_token token
token_fills =
    record {
      wrong = λ w cause. chained (token_alone (read_token w) cause (IsRight token w) (token_read w) (token_again w)
          (token_err w))
          (form_enough (IsRight token w) (IsRight token w) (refusal_at token) cause (λ h. h));
      right = token_read;
      again = token_again;
    }

-- what is made of the reading of a word, and of those after it, reads on
pub placed_then : {A B C : Type 0} (read : List ℕ → Result A Cause) (p : Place) (ps : List Place)
    (after : List (List ℕ) → Cause → Type 0) (f : A × List (List ℕ) → Result B Cause) (g : B → Result C Cause)
    → Fills read p → ((x : A) → Refuses (λ ws. f (x, ws) >>= g) (AreWrong ps after))
    → Refuses (λ ws. (word_by read ws >>= f) >>= g) (AreWrong (p ∷ ps) after)
placed_then read p ps after f g fills next ws cause =
    same_reading ((word_by read ws >>= f) >>= g) (word_by read ws >>= (λ x. f x >>= g)) cause
    (AreWrong (p ∷ ps) after ws cause) (joined (word_by read ws) f g)
    (placed read p ps after (λ x. f x >>= g) fills next ws cause)

pub made : {A B : Type 0} (r : List (List ℕ) → Result A Cause) (W : List (List ℕ) → Cause → Type 0) (g : A → B)
    → Refuses r W → Refuses (λ ws. r ws >>= (λ x. Ok (g x))) W
made r W g so ws cause = made_of (r ws) g cause (W ws cause) (so ws cause)

pub format_placed : Refuses (last_by format_of) (AreWrong (format_name ∷ []) IsTooMany)
format_placed =
    placed format_of format_name [] IsTooMany (λ f. check_of_end f.1 >>= (λ e. Ok f.0)) format_fills (λ f. all_placed f)

pub payload_placed : Refuses (last_by bytes_of) (AreWrong (bytes ∷ []) IsTooMany)
payload_placed =
    placed bytes_of bytes [] IsTooMany (λ b. check_of_end b.1 >>= (λ e. Ok b.0)) bytes_fill (λ b. all_placed b)

pub content_placed : Refuses content_at (AreWrong (format_name ∷ bytes ∷ []) IsTooMany)
content_placed =
    placed format_of format_name (bytes ∷ []) IsTooMany (λ f. last_by bytes_of f.1 >>= (λ b. Ok (f.0, b))) format_fills
    (λ f. made (last_by bytes_of) (AreWrong (bytes ∷ []) IsTooMany) (λ b. (f, b)) payload_placed)

-- ---- queries

pub queries_by : (qs : List (List ℕ)) (b : Bool) (cause : Cause) (good : Type 0) → (b ≡ true → good) → (good → b ≡ true)
    → ((if b then taken qs else Err Token) ≡ Err cause) ↔ ((good → ⊥) × (cause ≡ Token))
queries_by qs true cause good said tested = ((λ h. cc h), (λ h. absurd (h.0 (said refl))))
queries_by qs false cause good said tested = (
  (λ h. ((λ g. let no = tested g in cc no), sym (same_cause {A = List (List ℕ)} Token cause h))),
  (λ h. ap (λ c. refused c) (sym h.1)),
)

pub queries_placed : Refuses queries_at AreWrongAsQueries
queries_placed [] cause = none_missing {B = List (List ℕ)} cause
queries_placed (w ∷ ws) cause =
    queries_by (w ∷ ws) (are_queries (w ∷ ws)) cause (AllByRecursion IsQueryWord (w ∷ ws))
    (λ h. each_said is_query IsQueryWord query_said (w ∷ ws)
    (and_parts (nat_lt 0 (length (w ∷ ws))) (list_all is_query (w ∷ ws)) h).1)
    (λ h. and_from (nat_lt 0 (length (w ∷ ws))) (list_all is_query (w ∷ ws))
    (lt-ltb 0 (length (w ∷ ws)) (omega arith)) (each_tested is_query IsQueryWord query_tested (w ∷ ws) h))

pub details_placed : (v : Verb) → Refuses (action_at v) (AreWrongAsDetails v)
details_placed verb.Read =
    made (last_by format_of) (AreWrong (format_name ∷ []) IsTooMany) (λ f. act.Read f) format_placed
details_placed verb.Observe =
    made (last_by format_of) (AreWrong (format_name ∷ []) IsTooMany) (λ f. act.Observe f) format_placed
details_placed verb.Cancel =
    made (last_by format_of) (AreWrong (format_name ∷ []) IsTooMany) (λ f. act.Cancel f) format_placed
details_placed verb.Discover = all_placed act.Discover
details_placed verb.Delete = all_placed act.Delete
details_placed verb.Write =
    made content_at (AreWrong (format_name ∷ bytes ∷ []) IsTooMany) (λ c. act.Write c.0 c.1) content_placed
details_placed verb.Update =
    made content_at (AreWrong (format_name ∷ bytes ∷ []) IsTooMany) (λ c. act.Update c.0 c.1) content_placed
details_placed verb.Create =
    made content_at (AreWrong (format_name ∷ bytes ∷ []) IsTooMany) (λ c. act.Create c.0 c.1) content_placed
details_placed verb.Attr = made queries_at AreWrongAsQueries (λ qs. act.Attr qs) queries_placed
details_placed verb.Exec = made (last_by bytes_of) (AreWrong (bytes ∷ []) IsTooMany) (λ b. act.Exec b) payload_placed

pub token_placed : (v : Verb) (s : ℕ) (k : RequestType) (m : ℕ)
    → Refuses (λ ws. (token_at ws >>= (λ t. word_by path_of t.1 >>= (λ p. Ok (headed s k m t.0 p.0, p.1)))) >>= acted v)
    (AreWrong (token ∷ path ∷ []) (AreWrongAsDetails v))
token_placed v s k m ws cause =
    let next : List ℕ × List (List ℕ) → Result (Head × List (List ℕ)) Cause =
    λ t. word_by path_of t.1 >>= (λ p. Ok (headed s k m t.0 p.0, p.1)) in
    same_reading ((token_at ws >>= next) >>= acted v) ((word_by read_token ws >>= next) >>= acted v) cause
    (AreWrong (token ∷ path ∷ []) (AreWrongAsDetails v) ws cause)
    (ap (λ r. (r >>= next) >>= acted v) (token_word ws))
    (placed_then read_token token (path ∷ []) (AreWrongAsDetails v) next (acted v) token_fills (λ t.
    placed_then path_of path [] (AreWrongAsDetails v) (λ p. Ok (headed s k m t p.0, p.1)) (acted v) path_fills (λ p.
    made (action_at v) (AreWrongAsDetails v) (λ a. server_and_request (headed s k m t p) a) (details_placed v))) ws
    cause)

pub request_placed : (v : Verb) → Refuses (mnemonic_at (keyword.Request v)) (AreWrongAfter (keyword.Request v))
request_placed v =
    placed_then (number_of 1 65534) (number 1 65534) (type_name ∷ number 0 65535 ∷ token ∷ path ∷ [])
    (AreWrongAsDetails v) (λ s. word_by type_of s.1 >>= (λ k. word_by (number_of 0 65535) k.1 >>= (λ m.
    token_at m.1 >>= (λ t. word_by path_of t.1 >>= (λ p. Ok (headed s.0 k.0 m.0 t.0 p.0, p.1)))))) (acted v)
    (number_fills 1 65534 (omega arith)) (λ s.
    placed_then type_of type_name (number 0 65535 ∷ token ∷ path ∷ []) (AreWrongAsDetails v) (λ k.
    word_by (number_of 0 65535) k.1 >>= (λ m. token_at m.1 >>= (λ t. word_by path_of t.1 >>= (λ p.
    Ok (headed s k.0 m.0 t.0 p.0, p.1))))) (acted v) type_fills (λ k.
    placed_then (number_of 0 65535) (number 0 65535) (token ∷ path ∷ []) (AreWrongAsDetails v) (λ m.
    token_at m.1 >>= (λ t. word_by path_of t.1 >>= (λ p. Ok (headed s k m.0 t.0 p.0, p.1)))) (acted v)
    (number_fills 0 65535 (omega arith)) (λ m. token_placed v s k m)))

pub reset_placed : Refuses (mnemonic_at keyword.Reset) (AreWrongAfter keyword.Reset)
reset_placed =
    placed (number_of 1 65534) (number 1 65534) (number 0 65535 ∷ []) IsTooMany
    (λ s. word_by (number_of 0 65535) s.1 >>= (λ m. check_of_end m.1 >>= (λ e. Ok (s.0, mnemonic.Reset m.0))))
    (number_fills 1 65534 (omega arith)) (λ s.
    placed (number_of 0 65535) (number 0 65535) [] IsTooMany
    (λ m. check_of_end m.1 >>= (λ e. Ok (s, mnemonic.Reset m.0))) (number_fills 0 65535 (omega arith))
    (λ m. all_placed (s, mnemonic.Reset m)))

pub mnemonic_placed : (k : Keyword) → Refuses (mnemonic_at k) (AreWrongAfter k)
mnemonic_placed (keyword.Request v) = request_placed v
mnemonic_placed keyword.Reset = reset_placed
