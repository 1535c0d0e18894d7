-- A mnemonic that words say, and that fits, is one that text can say.
use Rattle.std.proofs.Common.{◌≡◌, ℕ, ◌<◌, ◌≤◌, Bool, true, false, cond, List, [], ◌∷◌, length}
use Rattle.std.proofs.Common.{Result, Ok, Err, refl, sym, ap, subst, ◌∙◌, arith, inl, inr, leb-true}
use Rattle.std.specs.Prelude.{nat_le}
use Rattle.std.specs.Int.Digits.{AllBelowBase}
use Rattle.object_defs.specs.declared.path.Path.{Path}
use Rattle.scenario_words.specs.declared.cause.Cause.{Cause}
use Rattle.scenario_words.specs.declared.cause.Cause.TheVariants.{Token}
use Rattle.scenario_words.specs.HexWord.{ArePairs, IsHex, bytes_of}
use Rattle.scenario_words.specs.Number.{number_of}
use Rattle.scenario_words.specs.PathWord.{IsPath, path_of}
use Rattle.scenario_words.specs.Reading.{◌>>=◌, check_of_end, word_by}
use Rattle.scenario_words.proofs.NumberLaws.{number_of-law}
use Rattle.scenario_words.proofs.Pairs.{hex_law}
use Rattle.scenario_words.proofs.PathLaws.{bind_ok, path_law}
use Rattle.scenario_mnemonics.specs.declared.action.Action.{Action}
use Rattle.scenario_mnemonics.specs.declared.action.Action.TheVariants as act
use Rattle.scenario_mnemonics.specs.declared.format.Format.{Format}
use Rattle.scenario_mnemonics.specs.declared.head.Head.{Head}
use Rattle.scenario_mnemonics.specs.declared.mnemonic.Mnemonic.{Mnemonic}
use Rattle.scenario_mnemonics.specs.declared.mnemonic.Mnemonic.TheVariants as mnemonic
use Rattle.scenario_mnemonics.specs.declared.request_type.RequestType.{RequestType}
use Rattle.scenario_mnemonics.specs.declared.verb.Keyword.{Keyword}
use Rattle.scenario_mnemonics.specs.declared.verb.Keyword.TheVariants as keyword
use Rattle.scenario_mnemonics.specs.declared.verb.Verb.{Verb}
use Rattle.scenario_mnemonics.specs.declared.verb.Verb.TheVariants as verb
use Rattle.scenario_mnemonics.specs.Messages.{IsGood, fields_of, fits_mnemonic, has_words}
use Rattle.scenario_mnemonics.specs.MnemonicWords.{action_at, content_at, format_of, head_at, last_by, mnemonic_at}
use Rattle.scenario_mnemonics.specs.MnemonicWords.{queries_at, server_and_request, short_token, token_at, type_of}
use Rattle.scenario_mnemonics.specs.Queries.{are_queries}

-- ---- words that were read

pub ended_same : {A : Type 0} (ws : List (List ℕ)) (x y : A) → (check_of_end ws >>= (λ e. Ok x)) ≡ Ok y → x ≡ y
ended_same [] x y h = cc
ended_same (w ∷ ws) x y h = cc

abbrev pub with_words : {A : Type 0} → List (List ℕ) → A → Result (A × List (List ℕ)) Cause
with_words ws x = Ok (x, ws)

pub word_here : {A B : Type 0} (r : Result A Cause) (ws : List (List ℕ)) (f : A × List (List ℕ) → Result B Cause)
    (y : B) → ((r >>= with_words ws) >>= f) ≡ Ok y → (x : A) × (r ≡ Ok x) × (f (x, ws) ≡ Ok y)
word_here (Ok x) ws f y h = (x, refl, h)
word_here (Err e) ws f y h = cc

-- the first word, what it was read as, and what the words after it gave
pub record Taken {A B : Type 0} (read : List ℕ → Result A Cause) (f : A × List (List ℕ) → Result B Cause) (y : B)
    : Type 0 where
  pub word : List ℕ
  pub others : List (List ℕ)
  pub value : A
  pub first : read word ≡ Ok value
  pub rest : f (value, others) ≡ Ok y

taken : {A B : Type 0} (read : List ℕ → Result A Cause) (ws : List (List ℕ)) (f : A × List (List ℕ) → Result B Cause)
    (y : B) → (word_by read ws >>= f) ≡ Ok y → Taken read f y
taken read [] f y h = cc
taken read (w ∷ ws) f y h =
    let t = word_here (read w) ws f y h in
    record { word = w; others = ws; value = t.0; first = t.1; rest = t.2 }

-- a word alone
alone : {A : Type 0} (read : List ℕ → Result A Cause) (ws : List (List ℕ)) (x : A) → last_by read ws ≡ Ok x
    → (w : List ℕ) × (read w ≡ Ok x)
alone read ws x h =
    let t = taken read ws (λ v. check_of_end v.1 >>= (λ e. Ok v.0)) x h in
    (t.word, t.first ∙ ap (λ v. Ok v) (ended_same t.others t.value x t.rest))

-- ---- bytes

pairs_below : (w bs : List ℕ) → ArePairs w bs → AllBelowBase 256 bs
pairs_below [] [] h = tt
pairs_below [] (b ∷ bs) h = absurd h
pairs_below (d ∷ []) bs h = absurd h
pairs_below (d ∷ e ∷ w) [] h = absurd h
pairs_below (d ∷ e ∷ w) (b ∷ bs) h = (h.0.0, pairs_below w bs h.1)

hex_below : (w bs : List ℕ) → IsHex w bs → AllBelowBase 256 bs
hex_below w bs (inl none) = subst (AllBelowBase 256) (sym none.1) tt
hex_below w bs (inr pairs) = pairs_below w bs pairs

bytes_below : (w bs : List ℕ) → bytes_of w ≡ Ok bs → AllBelowBase 256 bs
bytes_below w bs h = hex_below w bs ((hex_law w bs).0 h)

payload_below : (ws : List (List ℕ)) (b : List ℕ) → last_by bytes_of ws ≡ Ok b → AllBelowBase 256 b
payload_below ws b h = let t = alone bytes_of ws b h in bytes_below t.0 b t.1

content_below : (ws : List (List ℕ)) (c : Format × List ℕ) → content_at ws ≡ Ok c → AllBelowBase 256 c.1
content_below ws c h =
    let t = taken format_of ws (λ f. last_by bytes_of f.1 >>= (λ b. Ok (f.0, b))) c h in
    let b = bind_ok (last_by bytes_of t.others) (λ b. Ok (t.value, b)) c t.rest in
    let found : Format × List ℕ = (t.value, b.0) in
    let same : found ≡ c = cc (b.2) in
    subst (λ (x : Format × List ℕ). AllBelowBase 256 x.1) same (payload_below t.others b.0 b.1)

-- ---- the words after the path

abbrev queries_ok : List (List ℕ) → Result (List (List ℕ)) Cause
queries_ok qs = Ok qs

formed : (qs ys : List (List ℕ)) (b : Bool) → are_queries qs ≡ b → cond b (queries_ok qs) (Err Token) ≡ Ok ys
    → are_queries ys ≡ true
formed qs ys true is h = let same : qs ≡ ys = cc in sym (ap are_queries same) ∙ is
formed qs ys false is h = cc

queries_formed : (ws qs : List (List ℕ)) → queries_at ws ≡ Ok qs → are_queries qs ≡ true
queries_formed [] qs h = cc
queries_formed (w ∷ ws) qs h = formed (w ∷ ws) qs (are_queries (w ∷ ws)) refl h

-- what an action needs to be said
abbrev IsSound : Action → Type 0
IsSound a = AllBelowBase 256 (fields_of a).payload × (has_words a ≡ true)

sound : (v : Verb) (ws : List (List ℕ)) (a : Action) → action_at v ws ≡ Ok a → IsSound a
sound verb.Read ws a h =
    let b = bind_ok (last_by format_of ws) (λ f. Ok (act.Read f)) a h in
    let same : act.Read b.0 ≡ a = cc (b.2) in subst IsSound same (tt, refl)
sound verb.Observe ws a h =
    let b = bind_ok (last_by format_of ws) (λ f. Ok (act.Observe f)) a h in
    let same : act.Observe b.0 ≡ a = cc (b.2) in subst IsSound same (tt, refl)
sound verb.Cancel ws a h =
    let b = bind_ok (last_by format_of ws) (λ f. Ok (act.Cancel f)) a h in
    let same : act.Cancel b.0 ≡ a = cc (b.2) in subst IsSound same (tt, refl)
sound verb.Discover ws a h = subst IsSound (ended_same ws act.Discover a h) (tt, refl)
sound verb.Delete ws a h = subst IsSound (ended_same ws act.Delete a h) (tt, refl)
sound verb.Write ws a h =
    let b = bind_ok (content_at ws) (λ c. Ok (act.Write c.0 c.1)) a h in
    let same : act.Write b.0.0 b.0.1 ≡ a = cc (b.2) in subst IsSound same (content_below ws b.0 b.1, refl)
sound verb.Update ws a h =
    let b = bind_ok (content_at ws) (λ c. Ok (act.Update c.0 c.1)) a h in
    let same : act.Update b.0.0 b.0.1 ≡ a = cc (b.2) in subst IsSound same (content_below ws b.0 b.1, refl)
sound verb.Create ws a h =
    let b = bind_ok (content_at ws) (λ c. Ok (act.Create c.0 c.1)) a h in
    let same : act.Create b.0.0 b.0.1 ≡ a = cc (b.2) in subst IsSound same (content_below ws b.0 b.1, refl)
sound verb.Attr ws a h =
    let b = bind_ok (queries_at ws) (λ qs. Ok (act.Attr qs)) a h in
    let same : act.Attr b.0 ≡ a = cc (b.2) in subst IsSound same (tt, queries_formed ws b.0 b.1)
sound verb.Exec ws a h =
    let b = bind_ok (last_by bytes_of ws) (λ x. Ok (act.Exec x)) a h in
    let same : act.Exec b.0 ≡ a = cc (b.2) in subst IsSound same (payload_below ws b.0 b.1, refl)

-- ---- the words before it

abbrev headed : ℕ → RequestType → ℕ → List ℕ → Path → Head
headed s k m t p = record { server = s; kind = k; mid = m; token = t; path = p }

pub record IsSoundHead (h : Head) : Type 0 where
  pub mid : h.mid < 65536
  pub short : length h.token ≤ 8
  pub token : AllBelowBase 256 h.token
  pub path : IsPath h.path

abbrev short_of : List ℕ → Result (List ℕ) Cause
short_of bs = Ok bs

short_ok : (bs t : List ℕ) (b : Bool) → nat_le (length bs) 8 ≡ b → cond b (short_of bs) (Err Token) ≡ Ok t
    → (bs ≡ t) × (length bs ≤ 8)
short_ok bs t true e h = (cc, leb-true (length bs) 8 e)
short_ok bs t false e h = cc

abbrev IsToken : List ℕ → Type 0
IsToken t = (length t ≤ 8) × AllBelowBase 256 t

token_read : (ws : List (List ℕ)) (y : List ℕ × List (List ℕ)) → token_at ws ≡ Ok y → IsToken y.0
token_read ws y h =
    let t = taken bytes_of ws (λ b. short_token b.0 >>= (λ t. Ok (t, b.1))) y h in
    let b = bind_ok (short_token t.value) (λ x. Ok (x, t.others)) y t.rest in
    let s = short_ok t.value b.0 (nat_le (length t.value) 8) refl b.1 in
    let found : List ℕ × List (List ℕ) = (b.0, t.others) in
    let same : found ≡ y = cc (b.2) in
    subst (λ (x : List ℕ × List (List ℕ)). IsToken x.0) same
    (subst IsToken s.0 (s.1, bytes_below t.word t.value t.first))

head_sound : (ws : List (List ℕ)) (y : Head × List (List ℕ)) → head_at ws ≡ Ok y → IsSoundHead y.0
head_sound ws y h =
    let a = taken (number_of 1 65534) ws (λ s. word_by type_of s.1 >>= (λ k.
    word_by (number_of 0 65535) k.1 >>= (λ m. token_at m.1 >>= (λ t. word_by path_of t.1 >>= (λ p.
    Ok (headed s.0 k.0 m.0 t.0 p.0, p.1)))))) y h in
    let b = taken type_of a.others (λ k. word_by (number_of 0 65535) k.1 >>= (λ m. token_at m.1 >>= (λ t.
    word_by path_of t.1 >>= (λ p. Ok (headed a.value k.0 m.0 t.0 p.0, p.1))))) y a.rest in
    let c = taken (number_of 0 65535) b.others (λ m. token_at m.1 >>= (λ t. word_by path_of t.1 >>= (λ p.
    Ok (headed a.value b.value m.0 t.0 p.0, p.1)))) y b.rest in
    let d = bind_ok (token_at c.others) (λ t. word_by path_of t.1 >>= (λ p.
    Ok (headed a.value b.value c.value t.0 p.0, p.1))) y c.rest in
    let e = taken path_of d.0.1 (λ p. Ok (headed a.value b.value c.value d.0.0 p.0, p.1)) y d.2 in
    let found : Head × List (List ℕ) = (headed a.value b.value c.value d.0.0 e.value, e.others) in
    let same : found ≡ y = cc (e.rest) in
    let m = (number_of-law 0 65535 c.value c.word (omega arith)).0 c.first in
    let t = token_read c.others d.0 d.1 in
    let p = (path_law e.word e.value).0 e.first in
    subst (λ (x : Head × List (List ℕ)). IsSoundHead x.0) {x = found} same
    (record { mid = omega (arith, m.2); short = t.0; token = t.1; path = p.1 })

-- ---- mnemonics

abbrev acted : Verb → Head × List (List ℕ) → Result (ℕ × Mnemonic) Cause
acted v h = action_at v h.1 >>= (λ a. Ok (server_and_request h.0 a))

good_request : (h : Head) (a : Action) → IsSoundHead h → IsSound a → fits_mnemonic (server_and_request h a).1 ≡ true
    → IsGood (server_and_request h a).1
good_request h a head action fits = record {
  mid = head.mid;
  token = head.short;
  token_bytes = head.token;
  path = head.path;
  fits = fits;
  payload = action.0;
  queries = action.1;
}

-- a mnemonic that was read, and fits
pub good : (k : Keyword) (ws : List (List ℕ)) (y : ℕ × Mnemonic) → mnemonic_at k ws ≡ Ok y → fits_mnemonic y.1 ≡ true
    → IsGood y.1
good (keyword.Request v) ws y h fits =
    let b = bind_ok (head_at ws) (acted v) y h in
    let c = bind_ok (action_at v b.0.1) (λ a. Ok (server_and_request b.0.0 a)) y b.2 in
    let same : server_and_request b.0.0 c.0 ≡ y = cc (c.2) in
    let fit : fits_mnemonic (server_and_request b.0.0 c.0).1 ≡ true =
    ap (λ (x : ℕ × Mnemonic). fits_mnemonic x.1) same ∙ fits in
    subst (λ (x : ℕ × Mnemonic). IsGood x.1) same
    (good_request b.0.0 c.0 (head_sound ws b.0 b.1) (sound v b.0.1 c.0 c.1) fit)
good keyword.Reset ws y h fits =
    let s = taken (number_of 1 65534) ws (λ s. word_by (number_of 0 65535) s.1 >>= (λ m. check_of_end m.1 >>=
    (λ e. Ok (s.0, mnemonic.Reset m.0)))) y h in
    let m = taken (number_of 0 65535) s.others
    (λ m. check_of_end m.1 >>= (λ e. Ok (s.value, mnemonic.Reset m.0))) y s.rest in
    let found : ℕ × Mnemonic = (s.value, mnemonic.Reset m.value) in
    let same : found ≡ y = ended_same m.others found y m.rest in
    let n = (number_of-law 0 65535 m.value m.word (omega arith)).0 m.first in
    subst (λ (x : ℕ × Mnemonic). IsGood x.1) same (omega (arith, n.2))
