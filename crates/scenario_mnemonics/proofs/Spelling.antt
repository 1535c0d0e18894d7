-- The words of a mnemonic that is written are read again, and each is one word.
use Rattle.std.proofs.Common.{◌≡◌, ℕ, ◌<◌, ◌≤◌, ◌^◌, not, Bool, true, false, cond, eqb, ltb, List, [], ◌∷◌}
use Rattle.std.proofs.Common.{◌++◌, length, Some, Ok, Err, refl, ap, sym, ◌∙◌, arith, append-nil}
use Rattle.std.specs.List.{list_all, onto_first, join_with_byte, AllByRecursion}
use Rattle.std.specs.Char.{is_ascii_graphic}
use Rattle.std.specs.Fmt.{decimal}
use Rattle.std.specs.Int.Digits.{AllBelowBase}
use Rattle.std.proofs.lemmas.Bool.{and_parts, and_from, ltb-true, le-leb, ne_eqb, eq-eqb}
use Rattle.std.proofs.lemmas.Bool.Decides.{nat_tests}
use Rattle.object_defs.specs.declared.path.Path.{Path}
use Rattle.scenario_words.specs.declared.cause.Cause.TheVariants as cause
use Rattle.scenario_words.specs.Words.{plain, quoted, scan, words, IsWord}
use Rattle.scenario_words.specs.Number.{number_of}
use Rattle.scenario_words.specs.HexWord.{hex_word, bytes_of}
use Rattle.scenario_words.specs.PathWord.{IsPath}
use Rattle.object_defs.specs.Path.{path_text}
use Rattle.scenario_words.proofs.NumberLaws.{number_of-law}
use Rattle.scenario_words.proofs.Pairs.{hex_law, hex_written}
use Rattle.scenario_words.proofs.PathLaws.{path_again}
use Rattle.scenario_words.proofs.WordLaws.{words_again, plain_byte, gap_byte}
use Rattle.scenario_words.proofs.Above.{plain_word, decimal_word, bytes_word, path_above, path_some}
use Rattle.scenario_mnemonics.specs.declared.request_type.RequestType.{RequestType}
use Rattle.scenario_mnemonics.specs.declared.request_type.RequestType.TheVariants.{Con, Non}
use Rattle.scenario_mnemonics.specs.declared.format.Format.{Format}
use Rattle.scenario_mnemonics.specs.declared.format.Format.TheVariants as format
use Rattle.scenario_mnemonics.specs.declared.verb.Verb.{Verb}
use Rattle.scenario_mnemonics.specs.declared.verb.Verb.TheVariants as verb
use Rattle.scenario_mnemonics.specs.declared.verb.Keyword.{Keyword}
use Rattle.scenario_mnemonics.specs.declared.verb.Keyword.TheVariants as keyword
use Rattle.scenario_mnemonics.specs.declared.action.Action.{Action}
use Rattle.scenario_mnemonics.specs.declared.action.Action.TheVariants as act
use Rattle.scenario_mnemonics.specs.declared.mnemonic.Mnemonic.{Mnemonic}
use Rattle.scenario_mnemonics.specs.declared.mnemonic.Mnemonic.TheVariants as mnemonic
use Rattle.scenario_mnemonics.specs.Queries.{is_query, are_queries}
use Rattle.scenario_mnemonics.specs.Messages.{fields_of, has_words, IsGood}
use Rattle.scenario_mnemonics.specs.MnemonicWords.{verb_word, keyword_word, keyword_named, keyword_of, type_word}
use Rattle.scenario_mnemonics.specs.MnemonicWords.{type_of, format_word, format_of, short_token, token_at, head_at}
use Rattle.scenario_mnemonics.specs.MnemonicWords.{last_by, content_at, queries_at, action_at, mnemonic_at, details}
use Rattle.scenario_mnemonics.specs.MnemonicWords.{behind_keyword, words_of_mnemonic, spaced_words}

-- read again

number_again : (low high n : ℕ) → high < 2 ^ 64 → low ≤ n → n ≤ high → number_of low high (decimal n) ≡ Ok n
number_again low high n h l g = (number_of-law low high n (decimal n) h).1 (refl, l, g)

pub type_again : (k : RequestType) → type_of (type_word k) ≡ Ok k
type_again Con = refl
type_again Non = refl

pub format_again : (f : Format) → format_of (format_word f) ≡ Ok f
format_again format.Any = refl
format_again format.Text = refl
format_again format.Opaque = refl
format_again format.Tlv = refl

bytes_again : (b : List ℕ) → AllBelowBase 256 b → bytes_of (hex_word b) ≡ Ok b
bytes_again b h = (hex_law (hex_word b) b).1 (hex_written b h)

short_again : (t : List ℕ) → length t ≤ 8 → short_token t ≡ Ok t
short_again t short = ap (λ b. cond b (Ok t) (Err cause.Token)) (le-leb (length t) 8 short)

token_again : (t : List ℕ) (ws : List (List ℕ)) → AllBelowBase 256 t → length t ≤ 8
    → token_at (hex_word t ∷ ws) ≡ Ok (t, ws)
token_again t ws h short = rw (bytes_again t h, short_again t short) refl

head_again : (server mid : ℕ) (k : RequestType) (t : List ℕ) (p : Path) (ws : List (List ℕ)) → 1 ≤ server
    → server ≤ 65534 → mid < 65536 → AllBelowBase 256 t → length t ≤ 8 → IsPath p
    → head_at (decimal server ∷ type_word k ∷ decimal mid ∷ hex_word t ∷ path_text p ∷ ws)
    ≡ Ok (record { server = server; kind = k; mid = mid; token = t; path = p }, ws)
head_again server mid k t p ws some small m bytes short path =
    rw (
      number_again 1 65534 server (omega arith) some small,
      type_again k,
      number_again 0 65535 mid (omega arith) (omega arith) (omega (arith, m)),
      token_again t (path_text p ∷ ws) bytes short,
      path_again p path,
    ) refl

format_alone : (f : Format) → last_by format_of (format_word f ∷ []) ≡ Ok f
format_alone f = rw (format_again f) refl

payload_again : (b : List ℕ) → AllBelowBase 256 b → last_by bytes_of (hex_word b ∷ []) ≡ Ok b
payload_again b h = rw (bytes_again b h) refl

content_again : (f : Format) (b : List ℕ) → AllBelowBase 256 b
    → content_at (format_word f ∷ hex_word b ∷ []) ≡ Ok (f, b)
content_again f b h = rw (format_again f, payload_again b h) refl

queries_again : (qs : List (List ℕ)) → are_queries qs ≡ true → queries_at qs ≡ Ok qs
queries_again [] h = cc
queries_again (q ∷ qs) h = ap (λ t. cond t (Ok (q ∷ qs)) (Err cause.Token)) h

action_again : (a : Action) → has_words a ≡ true → AllBelowBase 256 (fields_of a).payload
    → action_at (fields_of a).verb (details a) ≡ Ok a
action_again (act.Read f) h b = rw (format_alone f) refl
action_again (act.Observe f) h b = rw (format_alone f) refl
action_again (act.Cancel f) h b = rw (format_alone f) refl
action_again act.Discover h b = refl
action_again act.Delete h b = refl
action_again (act.Write f bs) h b = rw (content_again f bs b) refl
action_again (act.Update f bs) h b = rw (content_again f bs b) refl
action_again (act.Create f bs) h b = rw (content_again f bs b) refl
action_again (act.Attr qs) h b = rw (queries_again qs h) refl
action_again (act.Exec bs) h b = rw (payload_again bs b) refl

pub mnemonic_again : (server : ℕ) (m : Mnemonic) → 1 ≤ server → server ≤ 65534 → IsGood m
    → mnemonic_at (keyword_of m) (behind_keyword server m) ≡ Ok (server, m)
mnemonic_again server (mnemonic.Request r) some small h =
    rw (
      head_again server r.mid r.kind r.token r.path (details r.action) some small h.mid h.token_bytes h.token h.path,
      action_again r.action h.queries h.payload,
    ) refl
mnemonic_again server (mnemonic.Reset mid) some small h =
    rw (
      number_again 1 65534 server (omega arith) some small,
      number_again 0 65535 mid (omega arith) (omega arith) (omega (arith, h)),
    ) refl

verb_again : (v : Verb) → keyword_named (verb_word v) ≡ Some (keyword.Request v)
verb_again verb.Read = refl
verb_again verb.Observe = refl
verb_again verb.Cancel = refl
verb_again verb.Discover = refl
verb_again verb.Delete = refl
verb_again verb.Write = refl
verb_again verb.Update = refl
verb_again verb.Create = refl
verb_again verb.Attr = refl
verb_again verb.Exec = refl

pub keyword_again : (k : Keyword) → keyword_named (keyword_word k) ≡ Some k
keyword_again (keyword.Request v) = verb_again v
keyword_again keyword.Reset = refl

-- words with a space before each, after a word, are words joined by spaces
pub joined : (w : List ℕ) (ws : List (List ℕ)) → w ++ spaced_words ws ≡ join_with_byte 32 (w ∷ ws)
joined w [] = append-nil w
joined w (v ∷ ws) = ap (λ t. w ++ 32 ∷ t) (joined v ws)

-- each is one word: it holds no space, and begins with neither `"` nor `#`

abbrev solid : List ℕ → Bool
solid w = list_all (λ b. ltb 32 b) w

plain_end : (w : List ℕ) → solid w ≡ true → scan plain (w ++ 32 ∷ []) ≡ w ∷ []
plain_end [] h = refl
plain_end (b ∷ w) h =
    let both = and_parts (ltb 32 b) (solid w) h in
    let large : 32 < b = ltb-true 32 b both.0 in
    plain_byte b (w ++ 32 ∷ []) (λ e. omega arith) ∙ ap (onto_first b) (plain_end w both.1)

solid_word : (b : ℕ) (w : List ℕ) → 32 < b → (b ≡ 34 → ⊥) → (b ≡ 35 → ⊥) → solid w ≡ true → IsWord (b ∷ w)
solid_word b w large quote comment h =
    gap_byte b (w ++ 32 ∷ []) (λ e. omega arith) comment
    ∙ ap (λ t. onto_first b (scan (cond t quoted plain) (w ++ 32 ∷ []))) (ne_eqb b 34 quote)
    ∙ ap (onto_first b) (plain_end w h)

paths_word : (p : Path) → IsPath p → IsWord (path_text p)
paths_word p h = plain_word (path_text p) (path_some p) (path_above p h)

types_word : (k : RequestType) → IsWord (type_word k)
types_word Con = refl
types_word Non = refl

formats_word : (f : Format) → IsWord (format_word f)
formats_word format.Any = refl
formats_word format.Text = refl
formats_word format.Opaque = refl
formats_word format.Tlv = refl

graphic_above : (b : ℕ) → is_ascii_graphic b ≡ true → ltb 32 b ≡ true
graphic_above b h = grind (arith, nat_tests)

graphic_solid : (w : List ℕ) → list_all is_ascii_graphic w ≡ true → solid w ≡ true
graphic_solid [] h = refl
graphic_solid (b ∷ w) h =
    let both = and_parts (is_ascii_graphic b) (list_all is_ascii_graphic w) h in
    and_from _ _ (graphic_above b both.0) (graphic_solid w both.1)

no_byte : (x y : ℕ) → not (eqb x y) ≡ true → x ≡ y → ⊥
no_byte x y h e = let same : true ≡ false = sym h ∙ ap not (eq-eqb x y e) in cc

queries_word : (q : List ℕ) → is_query q ≡ true → IsWord q
queries_word [] h = cc
queries_word (b ∷ bs) h =
    let both = and_parts _ _ h in
    let firsts = and_parts _ _ both.0 in
    let graphic = graphic_solid (b ∷ bs) (and_parts _ _ both.1).1 in
    let large : 32 < b = ltb-true 32 b (and_parts (ltb 32 b) (solid bs) graphic).0 in
    solid_word b bs large (λ e. no_byte b 34 firsts.1 e) (λ e. no_byte b 35 firsts.0 e)
    (and_parts (ltb 32 b) (solid bs) graphic).1

each_word : (qs : List (List ℕ)) → list_all is_query qs ≡ true → AllByRecursion IsWord qs
each_word [] h = tt
each_word (q ∷ qs) h = let both =
    and_parts (is_query q) (list_all is_query qs) h in (queries_word q both.0, each_word qs both.1)

details_words : (a : Action) → has_words a ≡ true → AllByRecursion IsWord (details a)
details_words (act.Read f) h = (formats_word f, tt)
details_words (act.Observe f) h = (formats_word f, tt)
details_words (act.Cancel f) h = (formats_word f, tt)
details_words act.Discover h = tt
details_words act.Delete h = tt
details_words (act.Write f b) h = (formats_word f, (bytes_word b, tt))
details_words (act.Update f b) h = (formats_word f, (bytes_word b, tt))
details_words (act.Create f b) h = (formats_word f, (bytes_word b, tt))
details_words (act.Attr qs) h = each_word qs (and_parts _ _ h).1
details_words (act.Exec b) h = (bytes_word b, tt)

verbs_word : (v : Verb) → IsWord (verb_word v)
verbs_word verb.Read = refl
verbs_word verb.Observe = refl
verbs_word verb.Cancel = refl
verbs_word verb.Discover = refl
verbs_word verb.Delete = refl
verbs_word verb.Write = refl
verbs_word verb.Update = refl
verbs_word verb.Create = refl
verbs_word verb.Attr = refl
verbs_word verb.Exec = refl

pub all_words : (server : ℕ) (m : Mnemonic) → server ≤ 65534 → IsGood m
    → AllByRecursion IsWord (words_of_mnemonic server m)
all_words server (mnemonic.Request r) small h = (
  verbs_word (fields_of r.action).verb,
  (
    decimal_word server (omega (arith, small)),
    (
      types_word r.kind,
      (
        decimal_word r.mid (omega (arith, h.mid)),
        (bytes_word r.token, (paths_word r.path h.path, details_words r.action h.queries)),
      ),
    ),
  ),
)
all_words server (mnemonic.Reset mid) small h =
    (refl, (decimal_word server (omega (arith, small)), (decimal_word mid (omega (arith, h)), tt)))

pub line_again : (server : ℕ) (m : Mnemonic) → server ≤ 65534 → IsGood m
    → words (join_with_byte 32 (words_of_mnemonic server m)) ≡ words_of_mnemonic server m
line_again server m small h = words_again (words_of_mnemonic server m) (all_words server m small h)
