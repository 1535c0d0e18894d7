-- The words of a statement are read again as this statement, and stand in its line.
use Rattle.std.proofs.Common.{◌≡◌, ℕ, ◌<◌, ◌≤◌, ◌^◌, Bool, true, false, cond, List, [], ◌∷◌, ◌++◌, Result, Ok, Some}
use Rattle.std.proofs.Common.{refl, ap, ◌∙◌, arith}
use Rattle.std.specs.Prelude.{codes}
use Rattle.std.specs.List.{list_all}
use Rattle.std.specs.Fmt.{decimal}
use Rattle.std.proofs.lemmas.Bool.{and_from}
use Rattle.lwm2m_values.specs.Value.{kind_of}
use Rattle.lwm2m_values.specs.declared.value.Value.{Value}
use Rattle.object_defs.specs.declared.definition.Ops.{Ops}
use Rattle.object_defs.specs.declared.definition.Ops.TheVariants.{R, W, RW, E}
use Rattle.object_defs.specs.declared.definition.ResourceDef.{ResourceDef}
use Rattle.object_defs.specs.declared.path.Path.{Path}
use Rattle.scenario_words.specs.declared.cause.Cause.{Cause}
use Rattle.scenario_words.specs.Words.{words, IsLine}
use Rattle.scenario_words.specs.Reading.{◌>>=◌, word_by, check_of_end}
use Rattle.scenario_words.specs.Number.{number_of}
use Rattle.scenario_words.specs.HexWord.{hex_word}
use Rattle.scenario_words.specs.PathWord.{IsPath}
use Rattle.object_defs.specs.Path.{path_text}
use Rattle.scenario_words.specs.ValueWords.{IsValue, kind_word, value_word}
use Rattle.scenario_words.proofs.NumberLaws.{number_of-law}
use Rattle.scenario_words.proofs.Pairs.{hex_law, hex_written}
use Rattle.scenario_words.proofs.PathLaws.{path_again}
use Rattle.scenario_words.proofs.ValueLaws.{value_at_again, value_words, kind_again}
use Rattle.scenario_mnemonics.proofs.Spelling.{line_again}
use Rattle.scenario_statements.specs.declared.statement.Statement.{Statement}
use Rattle.scenario_statements.specs.declared.statement.Statement.TheVariants as says
use Rattle.scenario_statements.specs.Grammar.{ops_named, one_of, only_number, some, statement_of}
use Rattle.scenario_statements.specs.Spelling.{ops_word, words_of_statement, line_of, IsWithin, IsSayable}
use Rattle.scenario_statements.proofs.Plain.{is_bare, is_shown, bare_words, bare_line, bare_shown, word_then}
use Rattle.scenario_statements.proofs.Plain.{spaced_shown, decimal_bare, hex_bare, path_bare, kind_bare, value_shown}
use Rattle.scenario_statements.proofs.Plain.{shown_line}
use Rattle.scenario_statements.proofs.Requests.{request_again, request_shown}

pub number_again : (low high n : ℕ) → high < 2 ^ 64 → IsWithin low high n → number_of low high (decimal n) ≡ Ok n
number_again low high n h k = (number_of-law low high n (decimal n) h).1 (refl, k.0, k.1)

abbrev with_words : {A : Type 0} → List (List ℕ) → A → Result (A × List (List ℕ)) Cause
with_words ws x = Ok (x, ws)

-- a word that is read as this, at the head of others
at_head : {A : Type 0} (read : List ℕ → Result A Cause) (w : List ℕ) (ws : List (List ℕ)) (x : A) → read w ≡ Ok x
    → word_by read (w ∷ ws) ≡ Ok (x, ws)
at_head read w ws x e = ap (λ r. r >>= with_words ws) e

abbrev alone : ℕ × List (List ℕ) → Result ℕ Cause
alone x = check_of_end x.1 >>= (λ e. Ok x.0)

pub only_again : (low high n : ℕ) → high < 2 ^ 64 → IsWithin low high n → only_number low high (decimal n ∷ []) ≡ Ok n
only_again low high n h k =
    ap (λ r. r >>= alone) (at_head (number_of low high) (decimal n) [] n (number_again low high n h k))

-- a statement of one number
pub number_stated : (f : ℕ → Statement) (r : Result ℕ Cause) (n : ℕ) → r ≡ Ok n
    → some (r >>= (λ m. Ok (f m))) ≡ Ok (Some (f n))
number_stated f r n e = ap (λ x. some (x >>= (λ m. Ok (f m)))) e

pub ops_again : (o : Ops) → ops_named (ops_word o) ≡ Ok o
ops_again R = refl
ops_again W = refl
ops_again RW = refl
ops_again E = refl

multiple_again : (b : Bool)
    → one_of (codes "multiple") (codes "single") (cond b (codes "multiple") (codes "single")) ≡ Ok b
multiple_again true = refl
multiple_again false = refl

mandatory_again : (b : Bool)
    → one_of (codes "mandatory") (codes "optional") (cond b (codes "mandatory") (codes "optional")) ≡ Ok b
mandatory_again true = refl
mandatory_again false = refl

definition_again : (d : ResourceDef) → d.id < 65536
    → statement_of (words_of_statement (says.Def d)) ≡ Ok (Some (says.Def d))
definition_again d h =
    rw (
      number_again 0 65535 d.id (omega arith) (omega arith, omega arith),
      ops_again d.ops,
      multiple_again d.multiple,
      mandatory_again d.mandatory,
      kind_again d.kind,
    ) refl

pub statement_again : (s : Statement) → IsSayable s → statement_of (words_of_statement s) ≡ Ok (Some s)
statement_again says.Scenario h = refl
statement_again says.Class h = refl
statement_again (says.Notify n) h =
    number_stated (λ m. says.Notify m) (only_number 2 3 (decimal n ∷ [])) n (only_again 2 3 n (omega arith) h)
statement_again (says.Account s) h =
    number_stated (λ m. says.Account m) (only_number 1 65534 (decimal s ∷ [])) s (only_again 1 65534 s (omega arith) h)
statement_again (says.Object o) h =
    number_stated (λ m. says.Object m) (only_number 10241 32768 (decimal o ∷ [])) o
    (only_again 10241 32768 o (omega arith) h)
statement_again (says.Def d) h = definition_again d h
statement_again (says.Instance p) h =
    rw (
      number_again 0 65535 p.object (omega arith) (omega arith, omega arith),
      number_again 0 65534 p.instance (omega arith) (omega arith, h.1),
    ) refl
statement_again (says.Value p v) h = rw (path_again p h.0, value_at_again v [] h.1) refl
statement_again (says.Device c) h =
    number_stated (λ m. says.Device m) (only_number 0 65535 (decimal c ∷ [])) c
    (only_again 0 65535 c (omega arith) (omega arith, omega arith))
statement_again (says.Recv s b) h =
    rw (number_again 1 65534 s (omega arith) h.0, (hex_law (hex_word b) b).1 (hex_written b h.1)) refl
statement_again (says.Request s m) h = request_again s m h.0 h.1
statement_again (says.Tick n) h =
    number_stated (λ m. says.Tick m) (only_number 1 86400 (decimal n ∷ [])) n (only_again 1 86400 n (omega arith) h)
statement_again (says.Put p v) h = rw (path_again p h.0, value_at_again v [] h.1) refl
statement_again (says.Firmware n) h =
    number_stated (λ m. says.Firmware m) (only_number 0 9 (decimal n ∷ [])) n
    (only_again 0 9 n (omega arith) (omega arith, h))
statement_again (says.Post g) h =
    number_stated (λ m. says.Post m) (only_number 0 255 (decimal g ∷ [])) g
    (only_again 0 255 g (omega arith) (omega arith, omega arith))
statement_again (says.Need g n) h =
    rw (number_again 0 255 g (omega arith) (omega arith, omega arith), number_again 1 1000000 n (omega arith) h.1) refl

-- ---- the words of the line

ops_bare : (o : Ops) → is_bare (ops_word o) ≡ true
ops_bare R = refl
ops_bare W = refl
ops_bare RW = refl
ops_bare E = refl

choice_bare : (b : Bool) (first second : List ℕ) → is_bare first ≡ true → is_bare second ≡ true
    → is_bare (cond b first second) ≡ true
choice_bare true first second h k = h
choice_bare false first second h k = k

small_bare : (high n : ℕ) → high < 2 ^ 64 → n ≤ high → is_bare (decimal n) ≡ true
small_bare high n h k = decimal_bare n (omega arith)

one_bare : (keyword w : List ℕ) → is_bare keyword ≡ true → is_bare w ≡ true → list_all is_bare (keyword ∷ w ∷ []) ≡ true
one_bare keyword w h k = and_from _ _ h (and_from _ _ k refl)

two_bare : (keyword v w : List ℕ) → is_bare keyword ≡ true → is_bare v ≡ true → is_bare w ≡ true
    → list_all is_bare (keyword ∷ v ∷ w ∷ []) ≡ true
two_bare keyword v w h k m = and_from _ _ h (and_from _ _ k (and_from _ _ m refl))

definition_bare : (d : ResourceDef) → d.id < 65536 → list_all is_bare (words_of_statement (says.Def d)) ≡ true
definition_bare d h =
    and_from _ _ refl (and_from _ _ (small_bare 65535 d.id (omega arith) (omega arith)) (and_from _ _ (ops_bare d.ops)
    (and_from _ _ (choice_bare d.multiple (codes "multiple") (codes "single") refl refl)
    (and_from _ _ (choice_bare d.mandatory (codes "mandatory") (codes "optional") refl refl)
    (and_from _ _ (kind_bare d.kind) refl)))))

-- a statement whose words are found again, and stand in one line
abbrev Stands : Statement → Type 0
Stands s = (words (line_of s) ≡ words_of_statement s) × (is_shown (line_of s) ≡ true)

bare_stands : (s : Statement) → list_all is_bare (words_of_statement s) ≡ true → Stands s
bare_stands s h = (bare_words (words_of_statement s) h, bare_line (words_of_statement s) h)

valued_words : (keyword : List ℕ) (p : Path) (v : Value) → is_bare keyword ≡ true → IsPath p → IsValue v
    → words (keyword ++ 32 ∷ (path_text p ++ 32 ∷ (kind_word (kind_of v) ++ 32 ∷ value_word v)))
    ≡ keyword ∷ path_text p ∷ kind_word (kind_of v) ∷ value_word v ∷ []
valued_words keyword p v k h m =
    word_then keyword (path_text p ++ 32 ∷ (kind_word (kind_of v) ++ 32 ∷ value_word v)) k
    ∙ ap (λ r. keyword ∷ r) (word_then (path_text p) (kind_word (kind_of v) ++ 32 ∷ value_word v) (path_bare p h)
    ∙ ap (λ r. path_text p ∷ r) (value_words v m))

valued_shown : (keyword : List ℕ) (p : Path) (v : Value) → is_bare keyword ≡ true → IsPath p → IsValue v
    → is_shown (keyword ++ 32 ∷ (path_text p ++ 32 ∷ (kind_word (kind_of v) ++ 32 ∷ value_word v))) ≡ true
valued_shown keyword p v k h m =
    spaced_shown keyword (path_text p ++ 32 ∷ (kind_word (kind_of v) ++ 32 ∷ value_word v)) (bare_shown keyword k)
    (spaced_shown (path_text p) (kind_word (kind_of v) ++ 32 ∷ value_word v) (bare_shown (path_text p) (path_bare p h))
    (spaced_shown (kind_word (kind_of v)) (value_word v) (bare_shown (kind_word (kind_of v)) (kind_bare (kind_of v)))
    (value_shown v m)))

stands : (s : Statement) → IsSayable s → Stands s
stands says.Scenario h = bare_stands says.Scenario refl
stands says.Class h = bare_stands says.Class refl
stands (says.Notify n) h =
    bare_stands (says.Notify n) (two_bare (codes "notify") (codes "con") (decimal n) refl refl
    (small_bare 3 n (omega arith) h.1))
stands (says.Account s) h =
    bare_stands (says.Account s) (one_bare (codes "account") (decimal s) refl (small_bare 65534 s (omega arith) h.1))
stands (says.Object o) h =
    bare_stands (says.Object o) (one_bare (codes "object") (decimal o) refl (small_bare 32768 o (omega arith) h.1))
stands (says.Def d) h = bare_stands (says.Def d) (definition_bare d h)
stands (says.Instance p) h =
    bare_stands (says.Instance p) (two_bare (codes "instance") (decimal p.object) (decimal p.instance) refl
    (small_bare 65535 p.object (omega arith) (omega arith)) (small_bare 65534 p.instance (omega arith) h.1))
stands (says.Value p v) h =
    (valued_words (codes "value") p v refl h.0 h.1, valued_shown (codes "value") p v refl h.0 h.1)
stands (says.Device c) h =
    bare_stands (says.Device c) (one_bare (codes "device") (decimal c) refl
    (small_bare 65535 c (omega arith) (omega arith)))
stands (says.Recv s b) h =
    bare_stands (says.Recv s b) (two_bare (codes "recv") (decimal s) (hex_word b) refl
    (small_bare 65534 s (omega arith) h.0.1) (hex_bare b))
stands (says.Request s m) h = (line_again s m h.0.1 h.1, request_shown s m h.0.1 h.1)
stands (says.Tick n) h =
    bare_stands (says.Tick n) (one_bare (codes "tick") (decimal n) refl (small_bare 86400 n (omega arith) h.1))
stands (says.Put p v) h = (valued_words (codes "put") p v refl h.0 h.1, valued_shown (codes "put") p v refl h.0 h.1)
stands (says.Firmware n) h =
    bare_stands (says.Firmware n) (one_bare (codes "firmware") (decimal n) refl (small_bare 9 n (omega arith) h))
stands (says.Post g) h =
    bare_stands (says.Post g) (one_bare (codes "post") (decimal g) refl (small_bare 255 g (omega arith) (omega arith)))
stands (says.Need g n) h =
    bare_stands (says.Need g n) (two_bare (codes "need") (decimal g) (decimal n) refl
    (small_bare 255 g (omega arith) (omega arith)) (small_bare 1000000 n (omega arith) h.1.1))

pub words_of_line : (s : Statement) → IsSayable s → words (line_of s) ≡ words_of_statement s
words_of_line s h = (stands s h).0

pub line_alone : (s : Statement) → IsSayable s → IsLine (line_of s)
line_alone s h = shown_line (line_of s) (stands s h).1
