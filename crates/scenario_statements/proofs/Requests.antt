-- The words of a mnemonic that a server sends are read again, and stand in one line.
use Rattle.std.proofs.Common.{◌≡◌, ℕ, ◌<◌, ◌≤◌, true, ltb, List, [], ◌∷◌, Result, Ok, Some, refl, ap, ◌∙◌, arith}
use Rattle.std.specs.List.{list_all, join_with_byte}
use Rattle.std.specs.Char.{is_ascii_graphic}
use Rattle.std.specs.Fmt.{decimal}
use Rattle.std.proofs.lemmas.Bool.{and_parts, and_from}
use Rattle.std.proofs.lemmas.Bool.Decides.{nat_tests}
use Rattle.scenario_words.specs.declared.cause.Cause.{Cause}
use Rattle.scenario_words.specs.Reading.{◌>>=◌}
use Rattle.scenario_words.specs.HexWord.{hex_word}
use Rattle.object_defs.specs.Path.{path_text}
use Rattle.scenario_mnemonics.specs.declared.request_type.RequestType.{RequestType}
use Rattle.scenario_mnemonics.specs.declared.request_type.RequestType.TheVariants.{Con, Non}
use Rattle.scenario_mnemonics.specs.declared.format.Format.{Format}
use Rattle.scenario_mnemonics.specs.declared.format.Format.TheVariants as format
use Rattle.scenario_mnemonics.specs.declared.verb.Verb.{Verb}
use Rattle.scenario_mnemonics.specs.declared.verb.Verb.TheVariants as verb
use Rattle.scenario_mnemonics.specs.declared.verb.Keyword.{Keyword}
use Rattle.scenario_mnemonics.specs.declared.verb.Keyword.TheVariants as keyword
use Rattle.scenario_mnemonics.specs.declared.action.Action.{Action}
use Rattle.scenario_mnemonics.specs.declared.action.Action.TheVariants as act
use Rattle.scenario_mnemonics.specs.declared.mnemonic.Mnemonic.{Mnemonic}
use Rattle.scenario_mnemonics.specs.declared.mnemonic.Mnemonic.TheVariants as mnemonic
use Rattle.scenario_mnemonics.specs.Queries.{is_query}
use Rattle.scenario_mnemonics.specs.Messages.{fields_of, has_words, IsGood}
use Rattle.scenario_mnemonics.specs.MnemonicWords.{verb_word, keyword_word, keyword_of, type_word, format_word}
use Rattle.scenario_mnemonics.specs.MnemonicWords.{mnemonic_at, details, behind_keyword}
use Rattle.scenario_mnemonics.specs.MnemonicWords.{words_of_mnemonic as mnemonic_words}
use Rattle.scenario_mnemonics.proofs.Spelling.{mnemonic_again}
use Rattle.scenario_statements.specs.declared.statement.Statement.{Statement}
use Rattle.scenario_statements.specs.declared.statement.Statement.TheVariants as says
use Rattle.scenario_statements.specs.Grammar.{some, statement_of}
use Rattle.scenario_statements.specs.Spelling.{IsWithin}
use Rattle.scenario_statements.proofs.Plain.{is_shown, bare_shown, spaced_shown, decimal_bare, hex_bare, path_bare}

abbrev pub requested : ℕ × Mnemonic → Result Statement Cause
requested m = Ok (says.Request m.0 m.1)

-- after the keyword of a mnemonic stand the words of one
pub by_keyword : (k : Keyword) (ws : List (List ℕ))
    → statement_of (keyword_word k ∷ ws) ≡ some (mnemonic_at k ws >>= requested)
by_keyword (keyword.Request verb.Read) ws = refl
by_keyword (keyword.Request verb.Observe) ws = refl
by_keyword (keyword.Request verb.Cancel) ws = refl
by_keyword (keyword.Request verb.Discover) ws = refl
by_keyword (keyword.Request verb.Delete) ws = refl
by_keyword (keyword.Request verb.Write) ws = refl
by_keyword (keyword.Request verb.Update) ws = refl
by_keyword (keyword.Request verb.Create) ws = refl
by_keyword (keyword.Request verb.Attr) ws = refl
by_keyword (keyword.Request verb.Exec) ws = refl
by_keyword keyword.Reset ws = refl

pub request_again : (s : ℕ) (m : Mnemonic) → IsWithin 1 65534 s → IsGood m
    → statement_of (mnemonic_words s m) ≡ Ok (Some (says.Request s m))
request_again s m h good =
    by_keyword (keyword_of m) (behind_keyword s m)
    ∙ ap (λ r. some (r >>= requested)) (mnemonic_again s m h.0 h.1 good)

-- ---- each of the words is shown

verb_shown : (v : Verb) → is_shown (verb_word v) ≡ true
verb_shown verb.Read = refl
verb_shown verb.Observe = refl
verb_shown verb.Cancel = refl
verb_shown verb.Discover = refl
verb_shown verb.Delete = refl
verb_shown verb.Write = refl
verb_shown verb.Update = refl
verb_shown verb.Create = refl
verb_shown verb.Attr = refl
verb_shown verb.Exec = refl

type_shown : (k : RequestType) → is_shown (type_word k) ≡ true
type_shown Con = refl
type_shown Non = refl

format_shown : (f : Format) → is_shown (format_word f) ≡ true
format_shown format.Any = refl
format_shown format.Text = refl
format_shown format.Opaque = refl
format_shown format.Tlv = refl

number_shown : (n : ℕ) → n < 65536 → is_shown (decimal n) ≡ true
number_shown n h = bare_shown (decimal n) (decimal_bare n (omega (arith, h)))

bytes_shown : (b : List ℕ) → is_shown (hex_word b) ≡ true
bytes_shown b = bare_shown (hex_word b) (hex_bare b)

graphic_byte : (b : ℕ) → is_ascii_graphic b ≡ true → ltb 31 b ≡ true
graphic_byte b h = grind (arith, nat_tests)

graphic_shown : (w : List ℕ) → list_all is_ascii_graphic w ≡ true → is_shown w ≡ true
graphic_shown [] h = refl
graphic_shown (b ∷ w) h =
    let both = and_parts (is_ascii_graphic b) (list_all is_ascii_graphic w) h in
    and_from _ _ (graphic_byte b both.0) (graphic_shown w both.1)

query_shown : (q : List ℕ) → is_query q ≡ true → is_shown q ≡ true
query_shown [] h = refl
query_shown (b ∷ bs) h = let both = and_parts _ _ h in graphic_shown (b ∷ bs) (and_parts _ _ both.1).1

queries_shown : (qs : List (List ℕ)) → list_all is_query qs ≡ true → list_all is_shown qs ≡ true
queries_shown [] h = refl
queries_shown (q ∷ qs) h = let both =
    and_parts (is_query q) (list_all is_query qs) h in and_from _ _ (query_shown q both.0) (queries_shown qs both.1)

content_shown : (f : Format) (b : List ℕ) → list_all is_shown (format_word f ∷ hex_word b ∷ []) ≡ true
content_shown f b = and_from _ _ (format_shown f) (and_from _ _ (bytes_shown b) refl)

details_shown : (a : Action) → has_words a ≡ true → list_all is_shown (details a) ≡ true
details_shown (act.Read f) h = and_from _ _ (format_shown f) refl
details_shown (act.Observe f) h = and_from _ _ (format_shown f) refl
details_shown (act.Cancel f) h = and_from _ _ (format_shown f) refl
details_shown act.Discover h = refl
details_shown act.Delete h = refl
details_shown (act.Write f b) h = content_shown f b
details_shown (act.Update f b) h = content_shown f b
details_shown (act.Create f b) h = content_shown f b
details_shown (act.Attr qs) h = queries_shown qs (and_parts _ _ h).1
details_shown (act.Exec b) h = and_from _ _ (bytes_shown b) refl

words_shown : (s : ℕ) (m : Mnemonic) → s ≤ 65534 → IsGood m → list_all is_shown (mnemonic_words s m) ≡ true
words_shown s (mnemonic.Request r) h good =
    and_from _ _ (verb_shown (fields_of r.action).verb)
    (and_from _ _ (number_shown s (omega (arith, h))) (and_from _ _ (type_shown r.kind)
    (and_from _ _ (number_shown r.mid good.mid) (and_from _ _ (bytes_shown r.token)
    (and_from _ _ (bare_shown (path_text r.path) (path_bare r.path good.path))
    (details_shown r.action good.queries))))))
words_shown s (mnemonic.Reset mid) h good =
    and_from _ _ refl (and_from _ _ (number_shown s (omega (arith, h))) (and_from _ _ (number_shown mid good) refl))

joined_shown : (ws : List (List ℕ)) → list_all is_shown ws ≡ true → is_shown (join_with_byte 32 ws) ≡ true
joined_shown [] h = refl
joined_shown (w ∷ []) h = (and_parts (is_shown w) true h).0
joined_shown (w ∷ v ∷ ws) h =
    let both = and_parts (is_shown w) (list_all is_shown (v ∷ ws)) h in
    spaced_shown w (join_with_byte 32 (v ∷ ws)) both.0 (joined_shown (v ∷ ws) both.1)

pub request_shown : (s : ℕ) (m : Mnemonic) → s ≤ 65534 → IsGood m
    → is_shown (join_with_byte 32 (mnemonic_words s m)) ≡ true
request_shown s m h good = joined_shown (mnemonic_words s m) (words_shown s m h good)
