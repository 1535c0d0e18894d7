-- A statement is read from the words that say it.
use Rattle.std.proofs.Common.{◌≡◌, ℕ, ◌<◌, ◌^◌, List, [], ◌∷◌}
use Rattle.std.proofs.Common.{Option, None}
use Rattle.std.proofs.Common.{Some, Result, Ok, Err, refl, sym, ap, subst, ◌∙◌, arith, lit<}
use Rattle.std.specs.Prelude.{codes}
use Rattle.std.specs.Fmt.{decimal}
use Rattle.std.proofs.lemmas.Fmt.{decimal_digit}
use Rattle.lwm2m_values.specs.declared.value.Value.{Value}
use Rattle.object_defs.specs.declared.definition.ResourceDef.{ResourceDef}
use Rattle.object_defs.specs.declared.path.Path.{Path}
use Rattle.scenario_words.specs.declared.cause.Cause.{Cause}
use Rattle.scenario_words.specs.Reading.{◌>>=◌, word_by, check_of_end}
use Rattle.scenario_words.specs.Number.{number_of}
use Rattle.scenario_words.specs.HexWord.{bytes_of}
use Rattle.scenario_words.specs.PathWord.{path_of}
use Rattle.scenario_words.specs.ValueWords.{kind_named, value_at}
use Rattle.scenario_words.proofs.Pairs.{hex_law}
use Rattle.scenario_words.proofs.PathLaws.{bind_ok, path_law, path_again}
use Rattle.scenario_words.proofs.ValueLaws.{kind_again}
use Rattle.scenario_mnemonics.specs.declared.verb.Keyword.{Keyword}
use Rattle.scenario_mnemonics.specs.MnemonicWords.{keyword_named}
use Rattle.scenario_mnemonics.specs.MnemonicWords.{keyword_of}
use Rattle.scenario_mnemonics.specs.MnemonicWords.{mnemonic_at}
use Rattle.scenario_statements.specs.declared.statement.Statement.{Statement}
use Rattle.scenario_statements.specs.declared.statement.Statement.TheVariants as says
use Rattle.scenario_statements.specs.Grammar.{check_of_name, ops_named, one_of, only_number, notify, definition}
use Rattle.scenario_statements.specs.Grammar.{instance, recv, need, request, of_device, statement_by, some}
use Rattle.scenario_statements.specs.Grammar.{statement_of}
use Rattle.scenario_statements.specs.Spelling.{IsWithin}
use Rattle.scenario_statements.proofs.Again.{number_again, ops_again, only_again, number_stated}
use Rattle.scenario_statements.proofs.Requests.{by_keyword, requested}
use Rattle.laws_reading.specs.Statements.{AreValueWords}
use Rattle.laws_reading.specs.Statements.{IsSaidBy}
use Rattle.laws_reading.specs.Statements.{StatementsAreSaid}
use Rattle.laws_reading.proofs.ReadWords.{by_name, ended_read}
use Rattle.laws_reading.proofs.ReadWords.{con_read, taken, number_read, only_read, ops_read}
use Rattle.laws_reading.proofs.ReadWords.{multiple_read, multiple_again, mandatory_read, mandatory_again}
use Rattle.laws_reading.proofs.ReadWords.{kind_read}
use Rattle.laws_reading.proofs.ReadWords.{value_at_read, value_at_again}
use Rattle.laws_reading.proofs.Mnemonics.{keyword_read, mnemonic_again, mnemonic_said}

-- ---- mnemonics

request_by : (w : List ℕ) (ws : List (List ℕ)) (y : Statement) (o : Option Keyword) → keyword_named w ≡ o
    → request o w ws ≡ Ok y → IsSaidBy y (w ∷ ws)
request_by w ws y None e h = cc h
request_by w ws y (Some k) e h =
    let b = bind_ok (mnemonic_at k ws) requested y h in
    let is : says.Request b.0.0 b.0.1 ≡ y = cc (b.2) in
    subst (λ s. IsSaidBy s (w ∷ ws)) is (mnemonic_said w k ws b.0.0 b.0.1 (keyword_read w k e) b.1)

-- ---- what was read is said

numbered : (f : ℕ → Statement) (low high : ℕ) (y : Statement) (w name : List ℕ) (ws : List (List ℕ)) → high < 2 ^ 64
    → ((n : ℕ) → IsWithin low high n → IsSaidBy (f n) (name ∷ decimal n ∷ []))
    → w ≡ name → (only_number low high ws >>= (λ n. Ok (f n))) ≡ Ok y → IsSaidBy y (w ∷ ws)
numbered f low high y w name ws small said same h =
    let b = bind_ok (only_number low high ws) (λ n. Ok (f n)) y h in
    let n = only_read low high b.0 ws small b.1 in
    let all : name ∷ decimal b.0 ∷ [] ≡ w ∷ ws = cc (same, n.0) in
    let is : f b.0 ≡ y = cc (b.2) in
    subst (λ v. IsSaidBy y v) all (subst (λ z. IsSaidBy z (name ∷ decimal b.0 ∷ [])) is (said b.0 n.1))

version : (n : ℕ) → IsWithin 1 1 n → IsSaidBy says.Scenario (codes "scenario" ∷ decimal n ∷ [])
version n h =
    let one : n ≡ 1 = omega (arith, h.0, h.1) in
    ap (λ d. codes "scenario" ∷ d ∷ []) (ap decimal one ∙ decimal_digit 1 (lit< tt))

class_read : (y : Statement) (w : List ℕ) (ws : List (List ℕ)) → w ≡ codes "class"
    → (check_of_end ws >>= (λ e. Ok says.Class)) ≡ Ok y → IsSaidBy y (w ∷ ws)
class_read y w ws same h =
    let end = ended_read ws says.Class y h in
    let all : codes "class" ∷ [] ≡ w ∷ ws = cc (same, end.0) in
    subst (λ z. IsSaidBy z (w ∷ ws)) end.1 (sym all)

notify_read : (y : Statement) (w : List ℕ) (ws : List (List ℕ)) → w ≡ codes "notify" → notify ws ≡ Ok y
    → IsSaidBy y (w ∷ ws)
notify_read y w ws same h =
    let a = taken (check_of_name (codes "con")) ws (λ c. only_number 2 3 c.1 >>= (λ n. Ok (says.Notify n))) y h in
    let b = bind_ok (only_number 2 3 a.others) (λ n. Ok (says.Notify n)) y a.rest in
    let con = con_read a.word a.value a.first in
    let n = only_read 2 3 b.0 a.others (omega arith) b.1 in
    let is : says.Notify b.0 ≡ y = cc (b.2) in
    subst (λ z. IsSaidBy z (w ∷ ws)) is (cc (same, a.all, con, n.0), n.1)

definition_read : (y : Statement) (w : List ℕ) (ws : List (List ℕ)) → w ≡ codes "def" → definition ws ≡ Ok y
    → IsSaidBy y (w ∷ ws)
definition_read y w ws same h =
    let a = taken (number_of 0 65535) ws (λ id. word_by ops_named id.1 >>= (λ ops.
    word_by (one_of (codes "multiple") (codes "single")) ops.1 >>= (λ multiple.
    word_by (one_of (codes "mandatory") (codes "optional")) multiple.1 >>= (λ mandatory.
    word_by kind_named mandatory.1 >>= (λ k. check_of_end k.1 >>= (λ e. Ok (says.Def (record {
      id = id.0;
      ops = ops.0;
      multiple = multiple.0;
      mandatory = mandatory.0;
      kind =
          k.0;
    })))))))) y h in
    let b = taken ops_named a.others (λ ops.
    word_by (one_of (codes "multiple") (codes "single")) ops.1 >>= (λ multiple.
    word_by (one_of (codes "mandatory") (codes "optional")) multiple.1 >>= (λ mandatory.
    word_by kind_named mandatory.1 >>= (λ k. check_of_end k.1 >>= (λ e. Ok (says.Def (record {
      id = a.value;
      ops = ops.0;
      multiple = multiple.0;
      mandatory = mandatory.0;
      kind =
          k.0;
    }))))))) y a.rest in
    let c = taken (one_of (codes "multiple") (codes "single")) b.others (λ multiple.
    word_by (one_of (codes "mandatory") (codes "optional")) multiple.1 >>= (λ mandatory.
    word_by kind_named mandatory.1 >>= (λ k. check_of_end k.1 >>= (λ e. Ok (says.Def (record {
      id = a.value;
      ops = b.value;
      multiple = multiple.0;
      mandatory = mandatory.0;
      kind =
          k.0;
    })))))) y b.rest in
    let d = taken (one_of (codes "mandatory") (codes "optional")) c.others (λ mandatory.
    word_by kind_named mandatory.1 >>= (λ k. check_of_end k.1 >>= (λ e. Ok (says.Def (record {
      id = a.value;
      ops = b.value;
      multiple = c.value;
      mandatory = mandatory.0;
      kind =
          k.0;
    }))))) y c.rest in
    let k = taken kind_named d.others (λ k. check_of_end k.1 >>= (λ e. Ok (says.Def (record {
      id = a.value;
      ops = b.value;
      multiple = c.value;
      mandatory = d.value;
      kind =
          k.0;
    })))) y d.rest in
    let def : ResourceDef =
    record { id = a.value; ops = b.value; multiple = c.value; mandatory = d.value; kind = k.value } in
    let end = ended_read k.others (says.Def def) y k.rest in
    let n = number_read 0 65535 a.value a.word (omega arith) a.first in
    let o = ops_read b.word b.value b.first in
    let m = multiple_read c.word c.value c.first in
    let r = mandatory_read d.word d.value d.first in
    let q = kind_read k.word k.value k.first in
    subst (λ z. IsSaidBy z (w ∷ ws)) end.1
    (cc (same, a.all, b.all, c.all, d.all, k.all, end.0, n.0, o, m, r, q), n.1.1)

instance_read : (y : Statement) (w : List ℕ) (ws : List (List ℕ)) → w ≡ codes "instance" → instance ws ≡ Ok y
    → IsSaidBy y (w ∷ ws)
instance_read y w ws same h =
    let a = taken (number_of 0 65535) ws (λ o. word_by (number_of 0 65534) o.1 >>= (λ i. check_of_end i.1 >>= (λ e.
    Ok (says.Instance (record { object = o.0; instance = i.0 }))))) y h in
    let b = taken (number_of 0 65534) a.others (λ i. check_of_end i.1 >>= (λ e.
    Ok (says.Instance (record { object = a.value; instance = i.0 })))) y a.rest in
    let end = ended_read b.others (says.Instance (record { object = a.value; instance = b.value })) y b.rest in
    let m = number_read 0 65535 a.value a.word (omega arith) a.first in
    let n = number_read 0 65534 b.value b.word (omega arith) b.first in
    subst (λ z. IsSaidBy z (w ∷ ws)) end.1 (cc (same, a.all, b.all, end.0, m.0, n.0), m.1.1, n.1.1)

need_read : (y : Statement) (w : List ℕ) (ws : List (List ℕ)) → w ≡ codes "need" → need ws ≡ Ok y
    → IsSaidBy y (w ∷ ws)
need_read y w ws same h =
    let a = taken (number_of 0 255) ws
    (λ g. word_by (number_of 1 1000000) g.1 >>= (λ n. check_of_end n.1 >>= (λ e. Ok (says.Need g.0 n.0)))) y h in
    let b = taken (number_of 1 1000000) a.others
    (λ n. check_of_end n.1 >>= (λ e. Ok (says.Need a.value n.0))) y a.rest in
    let end = ended_read b.others (says.Need a.value b.value) y b.rest in
    let m = number_read 0 255 a.value a.word (omega arith) a.first in
    let n = number_read 1 1000000 b.value b.word (omega arith) b.first in
    subst (λ z. IsSaidBy z (w ∷ ws)) end.1 (cc (same, a.all, b.all, end.0, m.0, n.0), m.1.1, n.1)

recv_read : (y : Statement) (w : List ℕ) (ws : List (List ℕ)) → w ≡ codes "recv" → recv ws ≡ Ok y
    → IsSaidBy y (w ∷ ws)
recv_read y w ws same h =
    let a = taken (number_of 1 65534) ws
    (λ s. word_by bytes_of s.1 >>= (λ b. check_of_end b.1 >>= (λ e. Ok (says.Recv s.0 b.0)))) y h in
    let b = taken bytes_of a.others (λ b. check_of_end b.1 >>= (λ e. Ok (says.Recv a.value b.0))) y a.rest in
    let end = ended_read b.others (says.Recv a.value b.value) y b.rest in
    let m = number_read 1 65534 a.value a.word (omega arith) a.first in
    subst (λ z. IsSaidBy z (w ∷ ws)) end.1
    (b.word, cc (same, a.all, b.all, end.0, m.0), m.1, (hex_law b.word b.value).0 b.first)

placed : (f : Path → Value → Statement) (y : Statement) (w name : List ℕ) (ws : List (List ℕ))
    → ((p : Path) (v : Value) (all : List (List ℕ)) → AreValueWords name p v all → IsSaidBy (f p v) all) → w ≡ name
    → (word_by path_of ws >>= (λ p. value_at p.1 >>= (λ v. check_of_end v.1 >>= (λ e. Ok (f p.0 v.0))))) ≡ Ok y
    → IsSaidBy y (w ∷ ws)
placed f y w name ws said same h =
    let a = taken path_of ws (λ p. value_at p.1 >>= (λ v. check_of_end v.1 >>= (λ e. Ok (f p.0 v.0)))) y h in
    let b = bind_ok (value_at a.others) (λ v. check_of_end v.1 >>= (λ e. Ok (f a.value v.0))) y a.rest in
    let end = ended_read b.0.1 (f a.value b.0.0) y b.2 in
    let p = (path_law a.word a.value).0 a.first in
    let v = value_at_read a.others b.0 b.1 in
    subst (λ z. IsSaidBy z (w ∷ ws)) end.1
    (said a.value b.0.0 (w ∷ ws) (v.0, cc (same, a.all, p.0, v.1, end.0), p.1, v.2))

device_read : (w : List ℕ) (ws : List (List ℕ)) (y : Statement) → of_device w ws ≡ Ok y → IsSaidBy y (w ∷ ws)
device_read w ws y =
    by_name w (codes "device") _ _ (Ok y) (IsSaidBy y (w ∷ ws))
    (numbered (λ n. says.Device n) 0 65535 y w (codes "device") ws (omega arith) (λ n h. (refl, h.1)))
    (by_name w (codes "recv") _ _ (Ok y) (IsSaidBy y (w ∷ ws)) (recv_read y w ws)
    (by_name w (codes "tick") _ _ (Ok y) (IsSaidBy y (w ∷ ws))
    (numbered (λ n. says.Tick n) 1 86400 y w (codes "tick") ws (omega arith) (λ n h. (refl, h)))
    (by_name w (codes "put") _ _ (Ok y) (IsSaidBy y (w ∷ ws))
    (placed (λ p v. says.Put p v) y w (codes "put") ws (λ p v all h. h))
    (by_name w (codes "firmware") _ _ (Ok y) (IsSaidBy y (w ∷ ws))
    (numbered (λ n. says.Firmware n) 0 9 y w (codes "firmware") ws (omega arith) (λ n h. (refl, h.1)))
    (by_name w (codes "post") _ _ (Ok y) (IsSaidBy y (w ∷ ws))
    (numbered (λ n. says.Post n) 0 255 y w (codes "post") ws (omega arith) (λ n h. (refl, h.1)))
    (by_name w (codes "need") _ _ (Ok y) (IsSaidBy y (w ∷ ws)) (need_read y w ws)
    (request_by w ws y (keyword_named w) refl)))))))

by_read : (w : List ℕ) (ws : List (List ℕ)) (y : Statement) → statement_by w ws ≡ Ok y → IsSaidBy y (w ∷ ws)
by_read w ws y =
    by_name w (codes "scenario") _ _ (Ok y) (IsSaidBy y (w ∷ ws))
    (numbered (λ n. says.Scenario) 1 1 y w (codes "scenario") ws (omega arith) version)
    (by_name w (codes "class") _ _ (Ok y) (IsSaidBy y (w ∷ ws)) (class_read y w ws)
    (by_name w (codes "notify") _ _ (Ok y) (IsSaidBy y (w ∷ ws)) (notify_read y w ws)
    (by_name w (codes "account") _ _ (Ok y) (IsSaidBy y (w ∷ ws))
    (numbered (λ n. says.Account n) 1 65534 y w (codes "account") ws (omega arith) (λ n h. (refl, h)))
    (by_name w (codes "object") _ _ (Ok y) (IsSaidBy y (w ∷ ws))
    (numbered (λ n. says.Object n) 10241 32768 y w (codes "object") ws (omega arith) (λ n h. (refl, h)))
    (by_name w (codes "def") _ _ (Ok y) (IsSaidBy y (w ∷ ws)) (definition_read y w ws)
    (by_name w (codes "instance") _ _ (Ok y) (IsSaidBy y (w ∷ ws)) (instance_read y w ws)
    (by_name w (codes "value") _ _ (Ok y) (IsSaidBy y (w ∷ ws))
    (placed (λ p v. says.Value p v) y w (codes "value") ws (λ p v all h. h)) (device_read w ws y))))))))

some_read : (r : Result Statement Cause) (y : Statement) → some r ≡ Ok (Some y) → r ≡ Ok y
some_read (Ok s) y h = let same : s ≡ y = cc in ap Ok same
some_read (Err e) y h = cc h

said : (ws : List (List ℕ)) (y : Statement) → statement_of ws ≡ Ok (Some y) → IsSaidBy y ws
said [] y h = cc h
said (w ∷ ws) y h = by_read w ws y (some_read (statement_by w ws) y h)

-- ---- what is said is read

read : (y : Statement) (ws : List (List ℕ)) → IsSaidBy y ws → statement_of ws ≡ Ok (Some y)
read says.Scenario ws h = ap statement_of h
read says.Class ws h = ap statement_of h
read (says.Notify n) ws h =
    ap statement_of h.0
    ∙ number_stated (λ m. says.Notify m) (only_number 2 3 (decimal n ∷ [])) n (only_again 2 3 n (omega arith) h.1)
read (says.Account s) ws h =
    ap statement_of h.0
    ∙ number_stated (λ m. says.Account m) (only_number 1 65534 (decimal s ∷ [])) s
    (only_again 1 65534 s (omega arith) h.1)
read (says.Object o) ws h =
    ap statement_of h.0
    ∙ number_stated (λ m. says.Object m) (only_number 10241 32768 (decimal o ∷ [])) o
    (only_again 10241 32768 o (omega arith) h.1)
read (says.Def d) ws h =
    ap statement_of h.0
    ∙ rw (
      number_again 0 65535 d.id (omega arith) (omega arith, h.1),
      ops_again d.ops,
      multiple_again d.multiple,
      mandatory_again d.mandatory,
      kind_again d.kind,
    ) refl
read (says.Instance p) ws h =
    ap statement_of h.0
    ∙ rw (
      number_again 0 65535 p.object (omega arith) (omega arith, h.1),
      number_again 0 65534 p.instance (omega arith) (omega arith, h.2),
    ) refl
read (says.Value p v) ws h =
    ap statement_of h.1 ∙ rw (path_again p h.2, value_at_again v h.0 [] h.3) refl
read (says.Device c) ws h =
    ap statement_of h.0
    ∙ number_stated (λ m. says.Device m) (only_number 0 65535 (decimal c ∷ [])) c
    (only_again 0 65535 c (omega arith) (omega arith, h.1))
read (says.Recv s b) ws h =
    ap statement_of h.1 ∙ rw (number_again 1 65534 s (omega arith) h.2, (hex_law h.0 b).1 h.3) refl
read (says.Request s m) ws h =
    ap statement_of h.1 ∙ by_keyword (keyword_of m) h.0
    ∙ ap (λ r. some (r >>= requested)) (mnemonic_again s m h.0 h.2)
read (says.Tick n) ws h =
    ap statement_of h.0
    ∙ number_stated (λ m. says.Tick m) (only_number 1 86400 (decimal n ∷ [])) n (only_again 1 86400 n (omega arith) h.1)
read (says.Put p v) ws h =
    ap statement_of h.1 ∙ rw (path_again p h.2, value_at_again v h.0 [] h.3) refl
read (says.Firmware n) ws h =
    ap statement_of h.0
    ∙ number_stated (λ m. says.Firmware m) (only_number 0 9 (decimal n ∷ [])) n
    (only_again 0 9 n (omega arith) (omega arith, h.1))
read (says.Post g) ws h =
    ap statement_of h.0
    ∙ number_stated (λ m. says.Post m) (only_number 0 255 (decimal g ∷ [])) g
    (only_again 0 255 g (omega arith) (omega arith, h.1))
read (says.Need g n) ws h =
    ap statement_of h.0
    ∙ rw (
      number_again 0 255 g (omega arith) (omega arith, h.1),
      number_again 1 1000000 n (omega arith) h.2,
    ) refl

pub statements_are_said : StatementsAreSaid
statements_are_said ws s = (said ws s, read s ws)
