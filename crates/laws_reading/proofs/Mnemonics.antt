-- Which words say a mnemonic.
use Rattle.std.proofs.Common.{◌≡◌, ◌≢◌, ℕ, ◌≤◌, ◌==◌, nat_le, nat_lt, Bool, true, false, not, ◌&&◌, List, [], ◌∷◌}
use Rattle.std.proofs.Common.{length, Option, None, Some, Result, Ok, Err, refl, sym, ap, subst, ◌∙◌, arith, eq-eqb}
use Rattle.std.proofs.Common.{ne_eqb, le-leb, leb-true, lt-ltb}
use Rattle.std.specs.Bool.{if◌then◌else◌}
use Rattle.std.specs.Char.{is_ascii_graphic}
use Rattle.std.specs.Fmt.{decimal}
use Rattle.std.specs.List.{AllByRecursion, list_all}
use Rattle.std.specs.Prelude.{find, ok_or}
use Rattle.std.specs.Str.{bytes_eq}
use Rattle.std.proofs.lemmas.Bool.{and_from, and_parts}
use Rattle.object_defs.specs.declared.path.Path.{Path}
use Rattle.object_defs.specs.Path.{path_text}
use Rattle.scenario_words.specs.declared.cause.Cause.{Cause}
use Rattle.scenario_words.specs.declared.cause.Cause.TheVariants.{Token}
use Rattle.scenario_words.specs.HexWord.{IsHex, bytes_of}
use Rattle.scenario_words.specs.Number.{number_of}
use Rattle.scenario_words.specs.PathWord.{IsPath, path_of}
use Rattle.scenario_words.specs.Reading.{◌>>=◌, check_of_end, word_by}
use Rattle.scenario_words.specs.ValueWords.{name_fault}
use Rattle.scenario_words.proofs.Pairs.{hex_law}
use Rattle.scenario_words.proofs.PathLaws.{bind_ok, path_law, path_again}
use Rattle.scenario_mnemonics.specs.declared.action.Action.{Action}
use Rattle.scenario_mnemonics.specs.declared.action.Action.TheVariants as act
use Rattle.scenario_mnemonics.specs.declared.format.Format.{Format}
use Rattle.scenario_mnemonics.specs.declared.format.Format.TheVariants as format
use Rattle.scenario_mnemonics.specs.declared.head.Head.{Head}
use Rattle.scenario_mnemonics.specs.declared.mnemonic.Mnemonic.{Mnemonic}
use Rattle.scenario_mnemonics.specs.declared.mnemonic.Mnemonic.TheVariants as mnemonic
use Rattle.scenario_mnemonics.specs.declared.request_type.RequestType.{RequestType}
use Rattle.scenario_mnemonics.specs.declared.request_type.RequestType.TheVariants.{Con, Non}
use Rattle.scenario_mnemonics.specs.declared.verb.Keyword.{Keyword}
use Rattle.scenario_mnemonics.specs.declared.verb.Keyword.TheVariants as keyword
use Rattle.scenario_mnemonics.specs.declared.verb.Verb.{Verb}
use Rattle.scenario_mnemonics.specs.declared.verb.Verb.TheVariants as verb
use Rattle.scenario_mnemonics.specs.Messages.{fields_of}
use Rattle.scenario_mnemonics.specs.MnemonicWords.{action_at, content_at, format_of, format_word, formats, head_at}
use Rattle.scenario_mnemonics.specs.MnemonicWords.{keyword_named, keyword_of, keyword_word, keywords, last_by}
use Rattle.scenario_mnemonics.specs.MnemonicWords.{mnemonic_at, queries_at, server_and_request, short_token, token_at}
use Rattle.scenario_mnemonics.specs.MnemonicWords.{type_of, type_word}
use Rattle.scenario_mnemonics.specs.Queries.{are_queries, is_query}
use Rattle.scenario_mnemonics.proofs.Spelling.{type_again, format_again}
use Rattle.scenario_statements.specs.Spelling.{IsWithin}
use Rattle.scenario_statements.proofs.Again.{number_again}
use Rattle.laws_reading.specs.Statements.{AreAsked, AreDetails, IsAsked, IsQueryWord}
use Rattle.laws_reading.proofs.ReadWords.{by_name, ended_read, is_some_word, last_taken, number_read, ok_of, taken}
use Rattle.laws_reading.proofs.Refused.{each_said, each_tested}
use Rattle.laws_reading.proofs.WrongNames.{graphic_said, graphic_tested}

-- ---- keywords

-- what is found by its word has this word
pub found_read : {A : Type 0} (word : A → List ℕ) (w : List ℕ) (x : A) (all : List A)
    → find (λ y. bytes_eq w (word y)) all ≡ Some x → w ≡ word x
found_read word w x [] h = cc
found_read word w x (y ∷ all) h =
    by_name w (word y) (Some y) (find (λ z. bytes_eq w (word z)) all) (Some x) (w ≡ word x) (is_some_word word w y x)
    (found_read word w x all) h

pub keyword_read : (w : List ℕ) (k : Keyword) → keyword_named w ≡ Some k → w ≡ keyword_word k
keyword_read w k h = found_read keyword_word w k keywords h

-- ---- names

ok_found : {A : Type 0} (o : Option A) (e : Cause) (x : A) → ok_or o e ≡ Ok x → o ≡ Some x
ok_found None e x h = cc
ok_found (Some y) e x h = cc

pub type_read : (w : List ℕ) (t : RequestType) → type_of w ≡ Ok t → w ≡ type_word t
type_read w t h = found_read type_word w t (Con ∷ Non ∷ []) (ok_found _ (name_fault w) t h)

pub format_read : (w : List ℕ) (f : Format) → format_of w ≡ Ok f → w ≡ format_word f
format_read w f h = found_read format_word w f formats (ok_found _ (name_fault w) f h)

-- ---- tokens

-- a token, as one word is read
abbrev pub read_token : List ℕ → Result (List ℕ) Cause
read_token w = bytes_of w >>= short_token

pub short_ok : (bs : List ℕ) (b : Bool) (t : List ℕ) → nat_le (length bs) 8 ≡ b
    → (if b then ok_of bs else Err Token) ≡ Ok t → (bs ≡ t) × (length bs ≤ 8)
short_ok bs true t e h = (cc, leb-true (length bs) 8 e)
short_ok bs false t e h = cc

abbrev pub IsToken : List ℕ → Type 0
IsToken w = (bs : List ℕ) × IsHex w bs × (length bs ≤ 8)

pub token_read : (w t : List ℕ) → read_token w ≡ Ok t → IsToken w
token_read w t h =
    let b = bind_ok (bytes_of w) short_token t h in
    let s = short_ok b.0 (nat_le (length b.0) 8) t refl b.2 in
    (b.0, (hex_law w b.0).0 b.1, s.1)

pub token_again : (w : List ℕ) → IsToken w → (t : List ℕ) × (read_token w ≡ Ok t)
token_again w h = (
  h.0,
  ap (λ r. r >>= short_token) ((hex_law w h.0).1 h.1)
      ∙ ap (λ b. if b then ok_of h.0 else Err Token) (le-leb (length h.0) 8 h.2),
)

abbrev pub beside : {A : Type 0} → List (List ℕ) → A → Result (A × List (List ℕ)) Cause
beside ws x = Ok (x, ws)

pub as_one : {A B : Type 0} (r : Result A Cause) (s : A → Result B Cause) (ws : List (List ℕ))
    → ((r >>= beside ws) >>= (λ b. s b.0 >>= beside b.1)) ≡ ((r >>= s) >>= beside ws)
as_one (Ok x) s ws = refl
as_one (Err e) s ws = refl

pub token_word : (ws : List (List ℕ)) → token_at ws ≡ word_by read_token ws
token_word [] = refl
token_word (w ∷ ws) = as_one (bytes_of w) short_token ws

token_exact : (w t : List ℕ) → read_token w ≡ Ok t → IsHex w t × (length t ≤ 8)
token_exact w t h =
    let b = bind_ok (bytes_of w) short_token t h in
    let s = short_ok b.0 (nat_le (length b.0) 8) t refl b.2 in
    (subst (IsHex w) s.0 ((hex_law w b.0).0 b.1), subst (λ x. length x ≤ 8) s.0 s.1)

token_at_read : (ws : List (List ℕ)) (y : List ℕ × List (List ℕ)) → token_at ws ≡ Ok y
    → (w : List ℕ) × (ws ≡ w ∷ y.1) × IsHex w y.0 × (length y.0 ≤ 8)
token_at_read ws y h =
    let t = last_taken read_token ws y (sym (token_word ws) ∙ h) in
    let e = token_exact t.0 y.0 t.2 in
    (t.0, t.1, e.0, e.1)

-- ---- queries

pub not_said : (n m : ℕ) → not (n == m) ≡ true → n ≢ m
not_said n m h e = let no : false ≡ true = sym (ap not (eq-eqb n m e)) ∙ h in cc

pub query_said : (w : List ℕ) → is_query w ≡ true → IsQueryWord w
query_said [] h = cc
query_said (b ∷ bs) h =
    let t = and_parts (not (b == 35) && not (b == 34)) _ h in
    let u = and_parts (not (b == 35)) (not (b == 34)) t.0 in
    let v = and_parts (nat_le (length (b ∷ bs)) 255) (list_all is_ascii_graphic (b ∷ bs)) t.1 in (
      not_said b 35 u.0,
      not_said b 34 u.1,
      leb-true (length (b ∷ bs)) 255 v.0,
      each_said is_ascii_graphic (IsWithin 33 126) graphic_said (b ∷ bs) v.1,
    )

pub query_tested : (w : List ℕ) → IsQueryWord w → is_query w ≡ true
query_tested [] h = absurd h
query_tested (b ∷ bs) h =
    and_from (not (b == 35) && not (b == 34)) _
    (and_from (not (b == 35)) (not (b == 34)) (ap not (ne_eqb b 35 h.0)) (ap not (ne_eqb b 34 h.1)))
    (and_from (nat_le (length (b ∷ bs)) 255) (list_all is_ascii_graphic (b ∷ bs))
    (le-leb (length (b ∷ bs)) 255 h.2) (each_tested is_ascii_graphic (IsWithin 33 126) graphic_tested (b ∷ bs) h.3))

queries_kept : (qs : List (List ℕ)) (b : Bool) (y : List (List ℕ)) → (if b then ok_of qs else Err Token) ≡ Ok y
    → (b ≡ true) × (qs ≡ y)
queries_kept qs true y h = (refl, cc)
queries_kept qs false y h = cc

queries_read : (ws qs : List (List ℕ)) → queries_at ws ≡ Ok qs
    → (ws ≡ qs) × (qs ≢ []) × AllByRecursion IsQueryWord qs
queries_read [] qs h = cc
queries_read (w ∷ ws) qs h =
    let k = queries_kept (w ∷ ws) (are_queries (w ∷ ws)) qs h in
    let all = each_said is_query IsQueryWord query_said (w ∷ ws)
    (and_parts (nat_lt 0 (length (w ∷ ws))) (list_all is_query (w ∷ ws)) k.0).1 in
    (k.1, (λ e. let no : w ∷ ws ≡ [] = k.1 ∙ e in cc), subst (AllByRecursion IsQueryWord) k.1 all)

queries_again : (qs : List (List ℕ)) → (qs ≢ []) → AllByRecursion IsQueryWord qs → queries_at qs ≡ Ok qs
queries_again [] h all = absurd (h refl)
queries_again (q ∷ qs) h all =
    ap (λ b. if b then ok_of (q ∷ qs) else Err Token)
    (and_from (nat_lt 0 (length (q ∷ qs))) (list_all is_query (q ∷ qs))
    (lt-ltb 0 (length (q ∷ qs)) (omega arith)) (each_tested is_query IsQueryWord query_tested (q ∷ qs) all))

-- ---- the words after the path

format_alone : (ws : List (List ℕ)) (f : Format) → last_by format_of ws ≡ Ok f → ws ≡ format_word f ∷ []
format_alone ws f h =
    let t = taken format_of ws (λ x. check_of_end x.1 >>= (λ e. Ok x.0)) f h in
    let end = ended_read t.others t.value f t.rest in
    let n = format_read t.word t.value t.first in
    t.all ∙ ap (λ o. t.word ∷ o) end.0 ∙ ap (λ v. v ∷ []) (n ∙ ap format_word end.1)

payload_alone : (ws : List (List ℕ)) (b : List ℕ) → last_by bytes_of ws ≡ Ok b
    → (w : List ℕ) × (ws ≡ w ∷ []) × IsHex w b
payload_alone ws b h =
    let t = taken bytes_of ws (λ x. check_of_end x.1 >>= (λ e. Ok x.0)) b h in
    let end = ended_read t.others t.value b t.rest in
    (t.word, t.all ∙ ap (λ o. t.word ∷ o) end.0, subst (IsHex t.word) end.1 ((hex_law t.word t.value).0 t.first))

content_alone : (ws : List (List ℕ)) (c : Format × List ℕ) → content_at ws ≡ Ok c
    → (w : List ℕ) × (ws ≡ format_word c.0 ∷ w ∷ []) × IsHex w c.1
content_alone ws c h =
    let t = taken format_of ws (λ f. last_by bytes_of f.1 >>= (λ b. Ok (f.0, b))) c h in
    let b = bind_ok (last_by bytes_of t.others) (λ b. Ok (t.value, b)) c t.rest in
    let found : Format × List ℕ = (t.value, b.0) in
    let same : found ≡ c = cc (b.2) in
    let p = payload_alone t.others b.0 b.1 in
    let n = format_read t.word t.value t.first in
    subst (λ (x : Format × List ℕ). (w : List ℕ) × (ws ≡ format_word x.0 ∷ w ∷ []) × IsHex w x.1) same
    (p.0, t.all ∙ ap (λ o. t.word ∷ o) p.1 ∙ ap (λ v. v ∷ p.0 ∷ []) n, p.2)

abbrev IsDetailed : Verb → List (List ℕ) → Action → Type 0
IsDetailed v ws a = ((fields_of a).verb ≡ v) × AreDetails a ws

details_said : (v : Verb) (ws : List (List ℕ)) (a : Action) → action_at v ws ≡ Ok a → IsDetailed v ws a
details_said verb.Read ws a h =
    let b = bind_ok (last_by format_of ws) (λ f. Ok (act.Read f)) a h in
    let same : act.Read b.0 ≡ a = cc (b.2) in
    subst (IsDetailed verb.Read ws) same (refl, format_alone ws b.0 b.1)
details_said verb.Observe ws a h =
    let b = bind_ok (last_by format_of ws) (λ f. Ok (act.Observe f)) a h in
    let same : act.Observe b.0 ≡ a = cc (b.2) in
    subst (IsDetailed verb.Observe ws) same (refl, format_alone ws b.0 b.1)
details_said verb.Cancel ws a h =
    let b = bind_ok (last_by format_of ws) (λ f. Ok (act.Cancel f)) a h in
    let same : act.Cancel b.0 ≡ a = cc (b.2) in
    subst (IsDetailed verb.Cancel ws) same (refl, format_alone ws b.0 b.1)
details_said verb.Discover ws a h =
    let e = ended_read ws act.Discover a h in subst (IsDetailed verb.Discover ws) e.1 (refl, e.0)
details_said verb.Delete ws a h =
    let e = ended_read ws act.Delete a h in subst (IsDetailed verb.Delete ws) e.1 (refl, e.0)
details_said verb.Write ws a h =
    let b = bind_ok (content_at ws) (λ c. Ok (act.Write c.0 c.1)) a h in
    let same : act.Write b.0.0 b.0.1 ≡ a = cc (b.2) in
    subst (IsDetailed verb.Write ws) same (refl, content_alone ws b.0 b.1)
details_said verb.Update ws a h =
    let b = bind_ok (content_at ws) (λ c. Ok (act.Update c.0 c.1)) a h in
    let same : act.Update b.0.0 b.0.1 ≡ a = cc (b.2) in
    subst (IsDetailed verb.Update ws) same (refl, content_alone ws b.0 b.1)
details_said verb.Create ws a h =
    let b = bind_ok (content_at ws) (λ c. Ok (act.Create c.0 c.1)) a h in
    let same : act.Create b.0.0 b.0.1 ≡ a = cc (b.2) in
    subst (IsDetailed verb.Create ws) same (refl, content_alone ws b.0 b.1)
details_said verb.Attr ws a h =
    let b = bind_ok (queries_at ws) (λ qs. Ok (act.Attr qs)) a h in
    let same : act.Attr b.0 ≡ a = cc (b.2) in
    subst (IsDetailed verb.Attr ws) same (refl, queries_read ws b.0 b.1)
details_said verb.Exec ws a h =
    let b = bind_ok (last_by bytes_of ws) (λ x. Ok (act.Exec x)) a h in
    let same : act.Exec b.0 ≡ a = cc (b.2) in
    subst (IsDetailed verb.Exec ws) same (refl, payload_alone ws b.0 b.1)

details_again : (a : Action) (ws : List (List ℕ)) → AreDetails a ws → action_at (fields_of a).verb ws ≡ Ok a
details_again (act.Read f) ws h = ap (action_at verb.Read) h ∙ rw (format_again f) refl
details_again (act.Observe f) ws h = ap (action_at verb.Observe) h ∙ rw (format_again f) refl
details_again (act.Cancel f) ws h = ap (action_at verb.Cancel) h ∙ rw (format_again f) refl
details_again act.Discover ws h = ap (action_at verb.Discover) h
details_again act.Delete ws h = ap (action_at verb.Delete) h
details_again (act.Write f b) ws h =
    ap (action_at verb.Write) h.1 ∙ rw (format_again f, (hex_law h.0 b).1 h.2) refl
details_again (act.Update f b) ws h =
    ap (action_at verb.Update) h.1 ∙ rw (format_again f, (hex_law h.0 b).1 h.2) refl
details_again (act.Create f b) ws h =
    ap (action_at verb.Create) h.1 ∙ rw (format_again f, (hex_law h.0 b).1 h.2) refl
details_again (act.Attr qs) ws h =
    ap (action_at verb.Attr) h.0 ∙ ap (λ r. r >>= (λ x. Ok (act.Attr x))) (queries_again qs h.1 h.2)
details_again (act.Exec b) ws h = ap (action_at verb.Exec) h.1 ∙ rw ((hex_law h.0 b).1 h.2) refl

-- ---- the words before it

abbrev pub headed : ℕ → RequestType → ℕ → List ℕ → Path → Head
headed s k m t p = record { server = s; kind = k; mid = m; token = t; path = p }

abbrev HasHead : List (List ℕ) → Head × List (List ℕ) → Type 0
HasHead ws y =
    (w : List ℕ)
    × (ws ≡ decimal y.0.server ∷ type_word y.0.kind ∷ decimal y.0.mid ∷ w ∷ path_text y.0.path ∷ y.1)
    × IsWithin 1 65534 y.0.server × IsWithin 0 65535 y.0.mid × IsHex w y.0.token × (length y.0.token ≤ 8)
    × IsPath y.0.path

first_is : {ws others rest : List (List ℕ)} {w v : List ℕ} → ws ≡ w ∷ others → w ≡ v → others ≡ rest → ws ≡ v ∷ rest
first_is {others = others} {v = v} all same more = all ∙ ap (λ x. x ∷ others) same ∙ ap (λ o. v ∷ o) more

head_said : (ws : List (List ℕ)) (y : Head × List (List ℕ)) → head_at ws ≡ Ok y → HasHead ws y
head_said ws y h =
    let a = taken (number_of 1 65534) ws (λ s. word_by type_of s.1 >>= (λ k.
    word_by (number_of 0 65535) k.1 >>= (λ m. token_at m.1 >>= (λ t. word_by path_of t.1 >>= (λ p.
    Ok (headed s.0 k.0 m.0 t.0 p.0, p.1)))))) y h in
    let b = taken type_of a.others (λ k. word_by (number_of 0 65535) k.1 >>= (λ m. token_at m.1 >>= (λ t.
    word_by path_of t.1 >>= (λ p. Ok (headed a.value k.0 m.0 t.0 p.0, p.1))))) y a.rest in
    let c = taken (number_of 0 65535) b.others (λ m. token_at m.1 >>= (λ t. word_by path_of t.1 >>= (λ p.
    Ok (headed a.value b.value m.0 t.0 p.0, p.1)))) y b.rest in
    let d = bind_ok (token_at c.others) (λ t. word_by path_of t.1 >>= (λ p.
    Ok (headed a.value b.value c.value t.0 p.0, p.1))) y c.rest in
    let e = taken path_of d.0.1 (λ p. Ok (headed a.value b.value c.value d.0.0 p.0, p.1)) y d.2 in
    let found : Head × List (List ℕ) = (headed a.value b.value c.value d.0.0 e.value, e.others) in
    let same : found ≡ y = cc (e.rest) in
    let n = number_read 1 65534 a.value a.word (omega arith) a.first in
    let k = type_read b.word b.value b.first in
    let m = number_read 0 65535 c.value c.word (omega arith) c.first in
    let t = token_at_read c.others d.0 d.1 in
    let p = (path_law e.word e.value).0 e.first in
    subst (HasHead ws) same (
      t.0,
      first_is a.all n.0 (first_is b.all k (first_is c.all m.0 (first_is t.1 refl (first_is e.all p.0 refl)))),
      n.1,
      m.1,
      t.2,
      t.3,
      p.1,
    )

head_again : (s : ℕ) (k : RequestType) (m : ℕ) (w t : List ℕ) (p : Path) (others : List (List ℕ))
    → IsWithin 1 65534 s → IsWithin 0 65535 m → IsHex w t → length t ≤ 8 → IsPath p
    → head_at (decimal s ∷ type_word k ∷ decimal m ∷ w ∷ path_text p ∷ others) ≡ Ok (headed s k m t p, others)
head_again s k m w t p others a b c d e =
    rw (
      number_again 1 65534 s (omega arith) a,
      type_again k,
      number_again 0 65535 m (omega arith) b,
      (hex_law w t).1 c,
      le-leb (length t) 8 d,
      path_again p e,
    ) refl

-- ---- mnemonics

abbrev pub acted : Verb → Head × List (List ℕ) → Result (ℕ × Mnemonic) Cause
acted v h = action_at v h.1 >>= (λ a. Ok (server_and_request h.0 a))

abbrev IsSaid : Keyword → List (List ℕ) → ℕ × Mnemonic → Type 0
IsSaid k ws y = (keyword_of y.1 ≡ k) × AreAsked y.0 y.1 ws

mnemonic_read : (k : Keyword) (ws : List (List ℕ)) (y : ℕ × Mnemonic) → mnemonic_at k ws ≡ Ok y → IsSaid k ws y
mnemonic_read (keyword.Request v) ws y h =
    let b = bind_ok (head_at ws) (acted v) y h in
    let c = bind_ok (action_at v b.0.1) (λ a. Ok (server_and_request b.0.0 a)) y b.2 in
    let same : server_and_request b.0.0 c.0 ≡ y = cc (c.2) in
    let before = head_said ws b.0 b.1 in
    let after = details_said v b.0.1 c.0 c.1 in
    subst (IsSaid (keyword.Request v) ws) same (
      ap (λ x. keyword.Request x) after.0,
      (before.0, b.0.1, before.1, before.2, before.3, before.4, before.5, before.6, after.1),
    )
mnemonic_read keyword.Reset ws y h =
    let a = taken (number_of 1 65534) ws (λ s. word_by (number_of 0 65535) s.1 >>= (λ m. check_of_end m.1 >>= (λ e.
    Ok (s.0, mnemonic.Reset m.0)))) y h in
    let b = taken (number_of 0 65535) a.others
    (λ m. check_of_end m.1 >>= (λ e. Ok (a.value, mnemonic.Reset m.0))) y a.rest in
    let found : ℕ × Mnemonic = (a.value, mnemonic.Reset b.value) in
    let end = ended_read b.others found y b.rest in
    let n = number_read 1 65534 a.value a.word (omega arith) a.first in
    let m = number_read 0 65535 b.value b.word (omega arith) b.first in
    subst (IsSaid keyword.Reset ws) end.1 (refl, (cc (a.all, b.all, end.0, n.0, m.0), n.1, m.1))

pub mnemonic_said : (w : List ℕ) (k : Keyword) (ws : List (List ℕ)) (server : ℕ) (m : Mnemonic) → w ≡ keyword_word k
    → mnemonic_at k ws ≡ Ok (server, m) → IsAsked server m (w ∷ ws)
mnemonic_said w k ws server m e h =
    let is = mnemonic_read k ws (server, m) h in
    (ws, ap (λ x. x ∷ ws) (e ∙ ap keyword_word (sym is.0)), is.1)

pub mnemonic_again : (server : ℕ) (m : Mnemonic) (ws : List (List ℕ)) → AreAsked server m ws
    → mnemonic_at (keyword_of m) ws ≡ Ok (server, m)
mnemonic_again server (mnemonic.Request r) ws h =
    let v = (fields_of r.action).verb in
    let head = headed server r.kind r.mid r.token r.path in
    ap (λ x. head_at x >>= acted v) h.2
    ∙ ap (λ x. x >>= acted v) (head_again server r.kind r.mid h.0 r.token r.path h.1 h.3 h.4 h.5 h.6 h.7)
    ∙ ap (λ x. x >>= (λ a. Ok (server_and_request head a))) (details_again r.action h.1 h.8)
mnemonic_again server (mnemonic.Reset mid) ws h =
    ap (mnemonic_at keyword.Reset) h.0
    ∙ rw (number_again 1 65534 server (omega arith) h.1, number_again 0 65535 mid (omega arith) h.2) refl
